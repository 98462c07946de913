-- The numbers of a script.
use Rattle.std.specs.Prelude.{◌≡◌, ◌⊎◌, ◌^◌, ℕ, pos, Bool, true, false, ◌||◌, List, Ok, Err, codes}
use Rattle.std.specs.Str.{bytes_eq}
use Rattle.fixed_decimal.specs.declared.error.DecimalError.TheVariants.{Range}
use Rattle.number_place.specs.declared.place.NumberForm.TheVariants.{Decimal, Integer}
use Rattle.number_place.specs.declared.place.NumberPlace.{NumberPlace}
use Rattle.number_place.specs.declared.place.NumberSign.TheVariants.{NotNegative, Positive}
use Rattle.number_place.specs.declared.place.Refused.{Refused}
use Rattle.number_place.specs.declared.place.Refused.TheVariants as refusals
use Rattle.number_place.specs.Place.{IsNumberAt}
use Rattle.script_options.specs.declared.number.Quantity.{Quantity}
use Rattle.script_options.specs.declared.number.Quantity.TheVariants.{Length, Width, Count}

-- Lengths are picometres up to 100 mm, from micrometres; widths and pitches are above 0. Counts are from 1 to 10^6.
abbrev pub place_of : Quantity → NumberPlace
place_of Length = record { form = Decimal; places = 6; limit = 10 ^ 11; sign = NotNegative }
place_of Width = record { form = Decimal; places = 6; limit = 10 ^ 11; sign = Positive }
place_of Count = record { form = Integer; places = 0; limit = 10 ^ 6; sign = Positive }

-- The words `;`, `(` and `)` never stand for a number.
abbrev pub is_mark : List ℕ → Bool
is_mark text = bytes_eq text (codes ";") || bytes_eq text (codes "(") || bytes_eq text (codes ")")

-- A count out of its range is refused for its form.
abbrev pub refused_as : Quantity → Refused → Refused
refused_as Count (refusals.Number Range) = refusals.Syntax
refused_as quantity refused = refused

-- The text is refused as a number, and this is why.
abbrev pub RefusesNumber : Quantity → List ℕ → Refused → Type 0
RefusesNumber quantity text refused =
    ((is_mark text ≡ true) × (refused ≡ refusals.Syntax))
    ⊎ ((is_mark text ≡ false) × (reason : Refused) × IsNumberAt (place_of quantity) text (Err reason)
    × (refused ≡ refused_as quantity reason))

-- The text stands for the number.
abbrev pub IsNumberIn : Quantity → List ℕ → ℕ → Type 0
IsNumberIn quantity text value = IsNumberAt (place_of quantity) text (Ok (pos value))

-- The text stands for some number.
abbrev pub HasNumber : Quantity → List ℕ → Type 0
HasNumber quantity text = (value : ℕ) × IsNumberIn quantity text value
