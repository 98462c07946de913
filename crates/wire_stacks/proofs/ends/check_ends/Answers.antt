use Rattle.std.proofs.Common.{get_or, subst, arith}
use Rattle.std.proofs.lemmas.Option.{slice_get-get_or}
use Rattle.wire_stacks.specs.declared.made.Made.{Made}
use Rattle.wire_stacks.specs.Stacks.{HasEnds}
use Rattle.wire_stacks.proofs.Lists.{before_more}
use Rattle.wire_stacks.proofs.ends.check_ends.Goals as goal

pub loop-one-preserved : goal.loop-one-preserved
loop-one-preserved c =
    let P : Made → Type 0 = λ (one : Made). HasEnds c.args.lines.now one.at in
    before_more P c.args.made.now c.loop-one.one-index c.one-item.result c.loop-one.invariant (subst P c.one-item.is c.in_ok-check_one.ensures.ends)

pub returns-clause-ends : goal.returns-clause-ends
returns-clause-ends c = λ k d within. c.loop-one.invariant k (get_or c.args.made.now k d) (omega arith) (slice_get-get_or c.args.made.now k d within)
