use Rattle.std.proofs.Common.{false, ◌∙◌}
use Rattle.script_options.proofs.Words.{separates_at, goes_on_at}
use Rattle.script_options.proofs.list.word_len.Goals as goal

pub loop-at-preserved : goal.loop-at-preserved
loop-at-preserved c =
    goes_on_at c.args.text.now c.loop-at.at c.loop-at-test.true
    (separates_at c.args.text.now c.loop-at.at c.separates.result false c.separates.ensures c.if-separates.false) ∙ c.loop-at.invariant
