-- What words in the places of a RECT's numbers say.
use Rattle.std.proofs.Common.{◌≡◌, ◌≤◌, ◌^◌, ℤ, Bool, true, false, List, [], ◌∷◌, ◌++◌, Option, Some, None, Result, Ok, Err, refl, sym, ◌∙◌, ap, subst, arith, to_z, of_z}
use Rattle.std.specs.Int.{w64}
use Rattle.std.specs.Prelude.{unsigned_abs}
use Rattle.std.proofs.lemmas.Int.{to_z-of_z, fits_signed_from_abs}
use Rattle.fixed_decimal.specs.declared.error.DecimalError.{DecimalError}
use Rattle.macro_blocks.specs.declared.error.Shown.{Shown}
use Rattle.macro_blocks.specs.declared.error.Shown.TheVariants as kinds
use Rattle.macro_blocks.specs.declared.value.Value.{Value}
use Rattle.macro_blocks.specs.declared.value.Value.TheVariants.{Coordinate, Refused}
use Rattle.macro_blocks.specs.Fault.{AreCoordinates, CornerBy, CornerFault}
use Rattle.macro_blocks.specs.Number.{IsCoordinate, IsRefused}
use Rattle.macro_blocks.specs.Record.{noted}
use Rattle.macro_blocks.specs.Rule.{is_number}
use Rattle.macro_blocks.specs.Sort.{sort_of}
use Rattle.macro_blocks.specs.inside.Fault.{value_or}
use Rattle.macro_blocks.specs.inside.Held.{IsBad}
use Rattle.macro_blocks.specs.inside.Value.{SaysPlace, coordinate_in}
use Rattle.macro_blocks.proofs.Numbers.{HasOne, not_both, noted_not, noted_value, noted_error}
use Rattle.number_place.specs.declared.place.Refused.TheVariants.{Number}
use Rattle.reading.specs.Fault.{Finds, FindsValue}
use Rattle.reading.specs.Word.{Token}

-- A coordinate is kept as the machine keeps it.
pub kept_64 : (word : Token) (v : ℤ) → IsCoordinate word v → to_z w64 (of_z w64 v) ≡ v
kept_64 word v is =
    let within : unsigned_abs v ≤ 10 ^ 11 = is.1.2.within in
    to_z-of_z w64 v (fits_signed_from_abs w64 v (omega arith))

pub or_value : (shows : Shown → Type 0) (says : Value → Type 0) (value : Value) (fault : Option Shown) (result : Result Value Shown) →
    result ≡ value_or value fault → says value → Finds shows fault → FindsValue shows says result
or_value shows says value None result e said h = subst (λ z. FindsValue shows says z) (sym e) (h, said)
or_value shows says value (Some shown) result e said h = subst (λ z. FindsValue shows says z) (sym e) h

-- ## the faults of a RECT's number

no_corner : (b : Bool) (word : Token) (kind : Shown) → b ≡ true → ((error : DecimalError) → IsRefused word (Number error) → ⊥) → CornerBy b word kind → ⊥
no_corner true word kind may fine h = fine h.0 h.1
no_corner false word kind may fine h = absurd (let t : false ≡ true = may in cc)

pub corner_fine : (known : Bool) (word : Token) → is_number (sort_of word) ≡ true → ((error : DecimalError) → IsRefused word (Number error) → ⊥) →
    (kind : Shown) → CornerFault known word kind → ⊥
corner_fine false word may fine kind h = h
corner_fine true word may fine kind h = no_corner (is_number (sort_of word)) word kind may fine h

pub corner_unknown : (known : Bool) (word : Token) → known ≡ false → (kind : Shown) → CornerFault known word kind → ⊥
corner_unknown false word e kind h = h
corner_unknown true word e kind h = absurd (let t : true ≡ false = e in cc)

pub corner_refused : (known : Bool) (word : Token) (error : DecimalError) → known ≡ true → is_number (sort_of word) ≡ true → IsRefused word (Number error) →
    CornerFault known word (kinds.Number error)
corner_refused true word error e may h = subst (λ z. CornerBy z word (kinds.Number error)) (sym may) (error, h, refl)
corner_refused false word error e may h = absurd (let t : false ≡ true = e in cc)

pub corner_syntax : (known : Bool) (word : Token) → known ≡ true → is_number (sort_of word) ≡ false → CornerFault known word kinds.Syntax
corner_syntax true word e may = subst (λ z. CornerBy z word kinds.Syntax) (sym may) refl
corner_syntax false word e may = absurd (let t : false ≡ true = e in cc)

-- ## the numbers of a RECT

pub placed_bad : (numbers : List Token) (word : Token) (error : DecimalError) → SaysPlace word (Refused error) → AreCoordinates numbers →
    IsBad (noted numbers word) (Some (record { place = word.place; error = error }))
placed_bad numbers word error h k = noted_error numbers word (record { place = word.place; error = error }) h.0 k h.1 refl

pub placed_none : (numbers : List Token) (word : Token) (value : Value) → ((error : DecimalError) → value ≡ Refused error → ⊥) → SaysPlace word value →
    AreCoordinates numbers → IsBad (noted numbers word) None
placed_none numbers word (Coordinate v) other h k = noted_value numbers word v h.0 k h.1
placed_none numbers word (Refused error) other h k = absurd (other error refl)
placed_none numbers word value other h k = noted_not numbers word h k

-- A word that is known to be a number, and shows no fault, is a coordinate.
pub placed_fine : (numbers : List Token) (word : Token) (value : Value) → SaysPlace word value → ((kind : Shown) → CornerFault true word kind → ⊥) →
    AreCoordinates numbers → AreCoordinates (noted numbers word)
placed_fine numbers word (Coordinate v) h fine k = noted_value numbers word v h.0 k h.1
placed_fine numbers word (Refused error) h fine k = absurd (fine (kinds.Number error) (corner_refused true word error refl h.0 h.1))
placed_fine numbers word value h fine k = noted_not numbers word h k

-- Where a word stands for a number, and has a coordinate, it says that.
pub placed_value : HasOne → (word : Token) (value : Value) (v : ℤ) → is_number (sort_of word) ≡ true → SaysPlace word value → IsCoordinate word v →
    IsCoordinate word (coordinate_in value)
placed_value one word (Coordinate w) v may h is = h.1
placed_value one word (Refused error) v may h is = absurd (not_both one word v error is h.1)
placed_value one word value v may h is = absurd (let t : true ≡ false = sym may ∙ h in cc)
