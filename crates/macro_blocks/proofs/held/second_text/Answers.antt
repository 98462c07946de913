use Rattle.std.proofs.Common.{◌≡◌, ◌≤◌, List, [], ◌∷◌, length, get_or, map, refl, sym, ◌∙◌, arith}
use Rattle.macro_blocks.specs.declared.value.Value.{Value}
use Rattle.macro_blocks.specs.Record.{second_text}
use Rattle.macro_blocks.proofs.Words.{no_word}
use Rattle.reading.specs.declared.word.Heard.{Heard}
use Rattle.reading.specs.Word.{heard_token}
use Rattle.macro_blocks.proofs.held.second_text.Goals as goal

second_is : (xs : List (Heard Value)) → 2 ≤ length xs → second_text (map heard_token xs) ≡ (get_or xs 1 no_word).word.text.now
second_is [] h = absurd (omega arith)
second_is (x ∷ []) h = absurd (omega arith)
second_is (x ∷ y ∷ xs) h = refl
