-- The words of a unit, by their places in it.
use Rattle.std.specs.Prelude.{ℕ, ◌==◌, Bool, List, [], length, slice_get, Option, Some, None}
use Rattle.wiring_file.specs.declared.sort.Sort.{Sort}
use Rattle.wiring_file.specs.declared.sort.Sort.TheVariants.{Other, Minus, Semicolon}
use Rattle.wiring_file.specs.Sort.{the, sort_of}
use Rattle.reading.specs.Word.{Token}

abbrev pub text_or : Option Token → List ℕ
text_or None = []
text_or (Some word) = word.text

abbrev pub sort_or : Option Token → Sort
sort_or None = Other
sort_or (Some word) = sort_of word

-- The bytes of the word that has n words before it; none where there is no such word.
abbrev pub text_at : ℕ → List Token → List ℕ
text_at n unit = text_or (slice_get unit n)

-- Its sort.
abbrev pub sort_at : ℕ → List Token → Sort
sort_at n unit = sort_or (slice_get unit n)

-- The unit is an entry: of the vias, or of the nets.
abbrev pub is_entry : List Token → Bool
is_entry unit = the Minus (sort_at 0 unit)

-- The unit ends the wiring of a net.
abbrev pub ends_net : List Token → Bool
ends_net unit = the Semicolon (sort_at 0 unit)

-- The line of wiring has a via, and no second point.
abbrev pub is_place : List Token → Bool
is_place unit = length unit == 10
