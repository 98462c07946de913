-- The words of an entry, by their places in it.
use Rattle.std.specs.Prelude.{ℕ, List, [], ◌∷◌, slice_get, Option, Some, None, codes}
use Rattle.reading.specs.Word.{Token, last_of}

-- The bytes of a word, or these where there is none.
abbrev pub text_or : List ℕ → Option Token → List ℕ
text_or other None = other
text_or other (Some word) = word.text

-- The bytes of the word that has n words before it.
abbrev pub text_at : ℕ → List Token → List ℕ
text_at n words = text_or [] (slice_get words n)

-- The same, or 1 where there is no such word.
abbrev pub text_or_one : ℕ → List Token → List ℕ
text_or_one n words = text_or (codes "1") (slice_get words n)
