-- The words of a unit, by their places in it.
use Rattle.std.specs.Prelude.{ℕ, ◌==◌, ◌&&◌, Bool, List, [], length, slice_get, Option, Some, None}
use Rattle.def_statements.specs.declared.sort.Sort.{Sort}
use Rattle.def_statements.specs.declared.sort.Sort.TheVariants.{Other}
use Rattle.def_statements.specs.Sort.{the, sort_of}
use Rattle.reading.specs.Word.{Token, last_of}

-- The bytes of a word; none where there is no word.
abbrev pub text_or : Option Token → List ℕ
text_or None = []
text_or (Some word) = word.text

abbrev pub sort_or : Option Token → Sort
sort_or None = Other
sort_or (Some word) = sort_of word

-- The bytes of the word that has n words before it.
abbrev pub text_at : ℕ → List Token → List ℕ
text_at n unit = text_or (slice_get unit n)

-- Its sort.
abbrev pub sort_at : ℕ → List Token → Sort
sort_at n unit = sort_or (slice_get unit n)

-- The bytes of the last word, and its sort.
abbrev pub last_text : List Token → List ℕ
last_text unit = text_or (last_of unit)

abbrev pub last_sort : List Token → Sort
last_sort unit = sort_or (last_of unit)

-- The unit has this many words and begins with this one.
abbrev pub begins : Sort → ℕ → List Token → Bool
begins word words unit = (length unit == words) && the word (sort_at 0 unit)
