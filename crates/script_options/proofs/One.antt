-- A word is refused for one reason, and stands for one number.
use Rattle.std.proofs.Common.{◌≡◌, ◌⊎◌, inl, inr, ℕ, ◌≤◌, ◌<◌, ◌^◌, ℤ, pos, negsuc, true, false, List, [], ◌∷◌, length, Result, Ok, Err, refl, sym, ◌∙◌, ap, subst, arith, to_z, of_z}
use Rattle.std.specs.Prelude.{unsigned_abs, ◌<ℤ◌}
use Rattle.std.specs.Int.{w64}
use Rattle.std.proofs.lemmas.Int.{ints, to_z-of_z, fits_signed_from_abs}
use Rattle.number_place.specs.declared.place.NumberPlace.{NumberPlace}
use Rattle.number_place.specs.declared.place.Refused.{Refused}
use Rattle.number_place.specs.declared.place.Refused.TheVariants.{Syntax}
use Rattle.number_place.specs.Place.{IsNumberAt, HasSign}
use Rattle.script_options.specs.declared.number.Quantity.{Quantity}
use Rattle.script_options.specs.declared.number.Quantity.TheVariants.{Length, Width, Count}
use Rattle.script_options.specs.declared.table.Counts.{Counts}
use Rattle.script_options.specs.declared.table.ValueForm.{ValueForm}
use Rattle.script_options.specs.declared.table.ValueForm.TheVariants.{Nothing, Name, Start, Number, Names, Numbers}
use Rattle.script_options.specs.Number.{place_of, is_mark, refused_as, RefusesNumber, IsNumberIn}
use Rattle.script_options.specs.Value.{fits, AnySyntax, FirstRefused, RefusesNumbers, Refuses}

abbrev pub HasOne : Type 0
HasOne = (place : NumberPlace) (text : List ℕ) (r s : Result ℤ Refused) → IsNumberAt place text r → IsNumberAt place text s → r ≡ s

err_is : (r s : Refused) → ◌≡◌ {A = Result ℤ Refused} (Err r) (Err s) → r ≡ s
err_is r s h = cc

ok_is : (v w : ℕ) → ◌≡◌ {A = Result ℤ Refused} (Ok (pos v)) (Ok (pos w)) → v ≡ w
ok_is v w h = cc

no : true ≡ false → ⊥
no h = cc

number_one : HasOne → (q : Quantity) (text : List ℕ) (a b : Refused) → RefusesNumber q text a → RefusesNumber q text b → a ≡ b
number_one one q text a b (inl h) (inl k) = h.1 ∙ sym k.1
number_one one q text a b (inl h) (inr k) = absurd (no (sym h.0 ∙ k.0))
number_one one q text a b (inr h) (inl k) = absurd (no (sym k.0 ∙ h.0))
number_one one q text a b (inr h) (inr k) =
    h.3 ∙ ap (refused_as q) (err_is h.1 k.1 (one (place_of q) text (Err h.1) (Err k.1) h.2 k.2)) ∙ sym k.3

first_one : HasOne → (q : Quantity) (words : List (List ℕ)) (a b : Refused) → FirstRefused q words a → FirstRefused q words b → a ≡ b
first_one one q [] a b h k = absurd h
first_one one q (word ∷ words) a b (inl h) (inl k) = number_one one q word a b h k
first_one one q (word ∷ words) a b (inl h) (inr k) = absurd (k.0 a h)
first_one one q (word ∷ words) a b (inr h) (inl k) = absurd (h.0 b k)
first_one one q (word ∷ words) a b (inr h) (inr k) = first_one one q words a b h.1 k.1

not_both : (q : Quantity) (counts : Counts) (words : List (List ℕ)) → (fits counts (length words) ≡ false) ⊎ AnySyntax q words →
    fits counts (length words) ≡ true → (AnySyntax q words → ⊥) → ⊥
not_both q counts words (inl h) fit none = no (sym fit ∙ h)
not_both q counts words (inr h) fit none = none h

numbers_one : HasOne → (q : Quantity) (counts : Counts) (words : List (List ℕ)) (a b : Refused) → RefusesNumbers q counts words a → RefusesNumbers q counts words b → a ≡ b
numbers_one one q counts words a b (inl h) (inl k) = h.0 ∙ sym k.0
numbers_one one q counts words a b (inl h) (inr k) = absurd (not_both q counts words h.1 k.0 k.1)
numbers_one one q counts words a b (inr h) (inl k) = absurd (not_both q counts words k.1 h.0 h.1)
numbers_one one q counts words a b (inr h) (inr k) = first_one one q words a b h.2 k.2

pub refusal_one : HasOne → (form : ValueForm) (text : List ℕ) (a b : Refused) → Refuses form text a → Refuses form text b → a ≡ b
refusal_one one Nothing text a b h k = absurd h
refusal_one one Name text a b h k = h.0 ∙ sym k.0
refusal_one one Start text a b h k = h.0 ∙ sym k.0
refusal_one one (Number q) text a b h k = number_one one q text a b h k
refusal_one one (Names counts) text a b h k = h.0 ∙ sym k.0
refusal_one one (Numbers q counts) text a b h k = numbers_one one q counts _ a b h k

pub value_one : HasOne → (q : Quantity) (text : List ℕ) (a b : ℕ) → IsNumberIn q text a → IsNumberIn q text b → a ≡ b
value_one one q text a b h k = ok_is a b (one (place_of q) text (Ok (pos a)) (Ok (pos b)) h k)

-- ## limits

abbrev pub Limited : Type 0
Limited = (place : NumberPlace) (text : List ℕ) (value : ℤ) → IsNumberAt place text (Ok value) → unsigned_abs value ≤ place.limit

abbrev pub Signed : Type 0
Signed = (place : NumberPlace) (text : List ℕ) (value : ℤ) → IsNumberAt place text (Ok value) → HasSign place.sign value

pub length_kept : Limited → (text : List ℕ) (value : ℕ) → IsNumberIn Length text value → value ≤ 10 ^ 11
length_kept l text value h = l (place_of Length) text (pos value) h

above : (value : ℕ) → pos 0 <ℤ pos value → 0 < value
above value h = omega (arith, ints)

pub width_kept : Limited → Signed → (text : List ℕ) (value : ℕ) → IsNumberIn Width text value → (0 < value) × (value ≤ 10 ^ 11)
width_kept l s text value h = (above value (s (place_of Width) text (pos value) h), l (place_of Width) text (pos value) h)

pub count_kept : Limited → Signed → (text : List ℕ) (value : ℕ) → IsNumberIn Count text value → (0 < value) × (value ≤ 10 ^ 6)
count_kept l s text value h = (above value (s (place_of Count) text (pos value) h), l (place_of Count) text (pos value) h)

-- ## numbers as the machine keeps them

kept_64 : (v : ℤ) → unsigned_abs v ≤ 10 ^ 11 → to_z w64 (of_z w64 v) ≡ v
kept_64 v h = to_z-of_z w64 v (fits_signed_from_abs w64 v (omega arith))

kept : Limited → (q : Quantity) (text : List ℕ) (v : ℤ) → IsNumberAt (place_of q) text (Ok v) → to_z w64 (of_z w64 v) ≡ v
kept l Length text v h = kept_64 v (l (place_of Length) text v h)
kept l Width text v h = kept_64 v (l (place_of Width) text v h)
kept l Count text v h = let b = l (place_of Count) text v h in kept_64 v (omega (arith, b))

not_below : Signed → (q : Quantity) (text : List ℕ) (value : ℤ) → IsNumberAt (place_of q) text (Ok value) → IsNumberIn q text (unsigned_abs value)
not_below s q text (pos n) h = h
not_below s Length text (negsuc n) h = let b = s (place_of Length) text (negsuc n) h in absurd (omega (arith, ints))
not_below s Width text (negsuc n) h = let b = s (place_of Width) text (negsuc n) h in absurd (omega (arith, ints))
not_below s Count text (negsuc n) h = let b = s (place_of Count) text (negsuc n) h in absurd (omega (arith, ints))

-- A number is its own magnitude, since it is not below 0.
pub number_read : Limited → Signed → (q : Quantity) (text : List ℕ) (value : ℤ) (n : ℕ) → IsNumberAt (place_of q) text (Ok value) → n ≡ unsigned_abs (to_z w64 (of_z w64 value)) →
    IsNumberIn q text n
number_read l s q text value n h e = subst (IsNumberIn q text) (sym (e ∙ ap unsigned_abs (kept l q text value h))) (not_below s q text value h)
