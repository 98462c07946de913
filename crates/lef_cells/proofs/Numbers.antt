-- Lengths: those that are refused, and those that are read.
use Rattle.std.proofs.Common.{◌≡◌, ◌≤◌, ◌^◌, ℕ, ℤ, pos, negsuc, ◌≤ℤ◌, List, Result, Ok, Err, refl, sym, ◌∙◌, ap, arith, to_z, of_z}
use Rattle.std.specs.Prelude.{unsigned_abs}
use Rattle.std.specs.Int.{w64}
use Rattle.std.proofs.lemmas.Int.{ints, to_z-of_z, fits_signed_from_abs}
use Rattle.lef_cells.specs.declared.error.CellsKind.{CellsKind}
use Rattle.lef_cells.specs.Fault.{refused_kind, LengthFault}
use Rattle.lef_cells.specs.Number.{length}
use Rattle.number_place.specs.declared.place.NumberPlace.{NumberPlace}
use Rattle.number_place.specs.declared.place.Refused.{Refused}
use Rattle.number_place.specs.Place.{IsNumberAt, HasSign}

-- ## refused lengths

-- There is only this answer.
abbrev pub IsOnly : List ℕ → Result ℤ Refused → Type 0
IsOnly text answer = (other : Result ℤ Refused) → IsNumberAt length text other → other ≡ answer

no_error : (r : Refused) (v : ℤ) → ◌≡◌ {A = Result ℤ Refused} (Err r) (Ok v) → ⊥
no_error r v h = cc

pub none_refused : (text : List ℕ) (v : ℤ) → IsOnly text (Ok v) → (kind : CellsKind) → LengthFault text kind → ⊥
none_refused text v only kind h = no_error h.0 v (only (Err h.0) h.1)

abbrev pub HasOne : Type 0
HasOne = (place : NumberPlace) (text : List ℕ) (r s : Result ℤ Refused) → IsNumberAt place text r → IsNumberAt place text s → r ≡ s

err_is : (r s : Refused) → ◌≡◌ {A = Result ℤ Refused} (Err r) (Err s) → r ≡ s
err_is r s h = cc

pub length_one : HasOne → (text : List ℕ) (k l : CellsKind) → LengthFault text k → LengthFault text l → l ≡ k
length_one one text k l h i = i.2 ∙ ap refused_kind (err_is i.0 h.0 (one length text (Err i.0) (Err h.0) i.1 h.1)) ∙ sym h.2

-- ## lengths that are read

ok_is : (v w : ℕ) → ◌≡◌ {A = Result ℤ Refused} (Ok (pos v)) (Ok (pos w)) → v ≡ w
ok_is v w h = cc

-- A text is one length.
pub one_length : HasOne → (text : List ℕ) (v w : ℕ) → IsNumberAt length text (Ok (pos v)) → IsNumberAt length text (Ok (pos w)) → v ≡ w
one_length one text v w h k = ok_is v w (one length text (Ok (pos v)) (Ok (pos w)) h k)

-- A value is within the limit of its place, and has its sign.
abbrev pub Limited : Type 0
Limited = (place : NumberPlace) (text : List ℕ) (value : ℤ) → IsNumberAt place text (Ok value) → unsigned_abs value ≤ place.limit

abbrev pub Signed : Type 0
Signed = (place : NumberPlace) (text : List ℕ) (value : ℤ) → IsNumberAt place text (Ok value) → HasSign place.sign value

-- A value that is not negative is its magnitude.
pub not_negative : (v : ℤ) → pos 0 ≤ℤ v → pos (unsigned_abs v) ≡ v
not_negative (pos m) h = refl
not_negative (negsuc m) h = absurd (omega (arith, ints))

pub kept_64 : (v : ℤ) → unsigned_abs v ≤ 10 ^ 11 → to_z w64 (of_z w64 v) ≡ v
kept_64 v h = to_z-of_z w64 v (fits_signed_from_abs w64 v (omega arith))
