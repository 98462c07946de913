-- What going over the words of a text tells.
use Rattle.std.specs.Prelude.{◌≡◌, List, [], ◌∷◌, ◌++◌, None, Option, Some, Result, Ok, Err}
use Rattle.reading.specs.declared.word.Form.TheVariants.{End}
use Rattle.reading.specs.Word.{Token, token}
use Rattle.reading.specs.Reading.{Text}
use Rattle.text_lex.specs.declared.word.LexError.{LexError}
use Rattle.reading.specs.declared.word.Word.{Word}

-- The last word is the end of the text.
abbrev pub Ended : List Token → Type 0
Ended words = (front : List Token) × (w : Token) × (words ≡ front ++ w ∷ []) × (w.form ≡ End)

-- The words go on to the end of the text, or to a word that is refused.
abbrev pub IsWhole : Text Token → Type 0
IsWhole text = text.refused ≡ None → Ended text.words

-- What is told of the words that are left, where `before` is what is left at the call, and `after` what is left then:
-- the next word; None after the end of the text; at a word that is refused its refusal.
abbrev pub Steps : Text Token → Result (Option Word) LexError → Text Token → Type 0
Steps before (Ok (Some word)) after = (before.words ≡ token word ∷ after.words) × (after.refused ≡ before.refused)
Steps before (Ok None) after = (before.words ≡ []) × (before.refused ≡ None)
Steps before (Err error) after = (before.words ≡ []) × (before.refused ≡ Some error)
