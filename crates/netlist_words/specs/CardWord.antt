-- What the words of a netlist are.
use Rattle.std.specs.Prelude.{◌≡◌, ◌⊎◌, true, []}
use Rattle.reading.specs.declared.word.Form.TheVariants.{Bare, Break, End}
use Rattle.reading.specs.Word.{Token}
use Rattle.text_lex.specs.Piece.{IsBare}
use Rattle.text_lex.specs.declared.word.Mode.TheVariants.{Lines}

-- The word is one word of a line, or the end of something: of a card, of what stands before it, of the text.
abbrev pub IsCardWord : Token → Type 0
IsCardWord word =
    ((word.form ≡ Bare) × IsBare Lines true word.text []) ⊎ ((word.form ≡ Break) ⊎ (word.form ≡ End))
