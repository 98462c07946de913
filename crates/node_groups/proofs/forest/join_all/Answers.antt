use Rattle.std.proofs.Common.{◌≤◌, ℕ, length, arith, subst, List}
use Rattle.std.proofs.lemmas.List.{take_all}
use Rattle.node_groups.specs.inside.Forest.{Joins}
use Rattle.node_groups.proofs.Links.{joins_more}
use Rattle.node_groups.proofs.Chains.{one_short}
use Rattle.node_groups.proofs.forest.join_all.Goals as goal

pub loop-one-preserved : goal.loop-one-preserved
loop-one-preserved c = record {
  back = c.join.ensures.back;
  by_shorts = c.join.ensures.by_shorts c.args.shorts.now
      (one_short c.args.shorts.now c.loop-one.one-index (0, 0) (omega arith)) c.loop-one.invariant.by_shorts;
  joins = joins_more c.args.shorts.now c.loop-one.one-index (0, 0) c.loop-one.parents c.join.new.parents (omega arith)
      c.loop-one.invariant.joins c.join.ensures.kept c.join.ensures.joined;
}

pub returns-clause-joins : goal.returns-clause-joins
returns-clause-joins c =
    let whole : length c.args.shorts.now ≤ c.loop-one.one-index = omega arith in
    subst (λ (xs : List (ℕ × ℕ)). Joins xs c.loop-one.parents) (take_all c.loop-one.one-index c.args.shorts.now whole)
    c.loop-one.invariant.joins
