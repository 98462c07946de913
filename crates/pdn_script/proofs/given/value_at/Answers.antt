use Rattle.std.proofs.Common.{sym, ◌∙◌}
use Rattle.pdn_script.proofs.Giving.{found_here}
use Rattle.pdn_script.proofs.given.value_at.Goals as goal

pub returns-then-is_for-clause-is : goal.returns-then-is_for-clause-is
returns-then-is_for-clause-is c =
    sym (found_here c.args.option c.loop-at.waits c.loop-at.at c.args.words.now c.loop-at-test.true (sym c.is_for.ensures ∙ c.if-is_for.true)) ∙ c.loop-at.invariant
