use Rattle.std.proofs.Common.{length}
use Rattle.text_lex.proofs.Steps.{IsLeft}
use Rattle.text_lex.proofs.words.skip_gap.Given as goal

-- The words of what is left are those of the whole text.
abbrev pub invariant-loop-mode : goal.invariant-loop-mode
invariant-loop-mode l = IsLeft l.mode l.command_could_begin l.fn.place l.text l.place l.rest

abbrev pub decreases-loop-mode : goal.decreases-loop-mode
decreases-loop-mode l = length l.rest
