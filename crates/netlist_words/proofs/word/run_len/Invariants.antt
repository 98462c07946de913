use Rattle.std.proofs.Common.{◌≡◌, ℕ, ◌<◌, get_or}
use Rattle.text_lex.specs.Bytes.{is_white}
use Rattle.text_lex.specs.declared.word.Mode.TheVariants.{Lines}
use Rattle.netlist_words.proofs.word.run_len.Given as goal

abbrev pub invariant-loop-i : goal.invariant-loop-i
invariant-loop-i l = (k : ℕ) → k < l.i → is_white Lines (get_or l.text k 0) ≡ l.white
