use Rattle.std.proofs.Common.{◌≡◌, drop}
use Rattle.text_lex.specs.Bytes.{has_substitution}
use Rattle.text_lex.proofs.front.has_substitution.Given as goal

-- The bytes passed have none: what is left tells of the whole.
abbrev pub invariant-loop-i : goal.invariant-loop-i
invariant-loop-i l = has_substitution (drop l.i l.text) ≡ has_substitution l.text
