use Rattle.std.proofs.Common.{true, ◌∙◌}
use Rattle.script_options.proofs.Words.{separates_at, skipped_at}
use Rattle.script_options.proofs.list.after_white.Goals as goal

pub loop-at-preserved : goal.loop-at-preserved
loop-at-preserved c =
    skipped_at c.args.text.now c.loop-at.at c.loop-at-test.true
    (separates_at c.args.text.now c.loop-at.at c.separates.result true c.separates.ensures c.if-not-separates.false) ∙ c.loop-at.invariant
