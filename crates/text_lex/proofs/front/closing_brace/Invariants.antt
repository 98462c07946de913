use Rattle.text_lex.proofs.Counting.{HasOpen}
use Rattle.text_lex.proofs.front.closing_brace.Given as goal

abbrev pub invariant-loop-i : goal.invariant-loop-i
invariant-loop-i l = HasOpen l.text l.i l.open
