use Rattle.std.proofs.Common.{◌≡◌, true, take}
use Rattle.std.specs.List.{list_all}
use Rattle.text_lex.specs.Bytes.{is_plain}
use Rattle.text_lex.proofs.front.plain_len.Given as goal

abbrev pub invariant-loop-i : goal.invariant-loop-i
invariant-loop-i l = list_all (is_plain l.mode) (take l.i l.text) ≡ true
