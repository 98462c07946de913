-- Whole numbers as they are written.
use Rattle.std.specs.Prelude.{◌≢◌, ℕ, ◌≤◌, List, codes, slice_index}
use Rattle.number_place.specs.declared.place.NumberForm.TheVariants.{Integer}
use Rattle.number_place.specs.declared.place.NumberPlace.{NumberPlace}
use Rattle.number_place.specs.declared.place.NumberSign.{NumberSign}
use Rattle.written_words.specs.Spelled.{bare, IsWritten}

-- The place of a whole number of this sign, which is at most so far from 0.
abbrev pub whole : ℕ → NumberSign → NumberPlace
whole most sign = record { form = Integer; places = 0; limit = most; sign = sign }

-- One word, which begins with a minus sign (45) or a digit (48 to 57), and is no minus sign alone.
pub record IsNumeric (text : List ℕ) : Type 0 where
  pub low : 45 ≤ slice_index text 0
  pub high : slice_index text 0 ≤ 57
  pub no_mark : text ≢ codes "-"
  pub word : IsWritten (bare text)
