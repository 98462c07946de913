use Rattle.std.proofs.Common.{subst, arith}
use Rattle.std.proofs.lemmas.List.{take_all}
use Rattle.lef_tech.specs.Limits.{Rise}
use Rattle.lef_tech.proofs.Kept.{rise_more}
use Rattle.lef_tech.proofs.keeping.rise.Goals as goal

pub loop-count-preserved : goal.loop-count-preserved
loop-count-preserved c = record {
  some = omega arith;
  rise = rise_more c.args.points.now c.loop-count.count c.loop-count.invariant.some c.loop-count-test.true c.loop-count.invariant.rise c.if-points-count.false;
}

pub returns : goal.returns
returns c = λ t. subst Rise (take_all c.loop-count.count c.args.points.now (omega (arith, c.loop-count-test.false))) c.loop-count.invariant.rise
