-- Coordinates: those that are refused, and those that are read.
use Rattle.std.proofs.Common.{◌≡◌, ◌≤◌, ◌^◌, length, arith, to_z, of_z, ℕ, ℤ, pos, Bool, true, false, List, [], ◌∷◌, ◌++◌, Option, Some, None, Result, Ok, Err, inl, inr, if◌then◌else◌, refl, sym, ◌∙◌, ap, subst, append_assoc}
use Rattle.std.specs.Int.{w64}
use Rattle.std.specs.Prelude.{unsigned_abs}
use Rattle.std.proofs.lemmas.Int.{to_z-of_z, fits_signed_from_abs}
use Rattle.fixed_decimal.specs.declared.error.DecimalError.{DecimalError}
use Rattle.outside.specs.declared.place.Place.{Place}
use Rattle.macro_blocks.specs.declared.number.Bad.{Bad}
use Rattle.macro_blocks.specs.declared.error.Shown.{Shown}
use Rattle.macro_blocks.specs.declared.error.Shown.TheVariants as kinds
use Rattle.macro_blocks.specs.Fault.{OriginFault, AreCoordinates, IsFirstBad}
use Rattle.macro_blocks.specs.inside.Held.{IsBad}
use Rattle.macro_blocks.specs.Number.{coordinate, IsCoordinate, IsRefused}
use Rattle.macro_blocks.specs.Record.{noted, noted_in}
use Rattle.macro_blocks.specs.Rule.{is_number}
use Rattle.macro_blocks.specs.Sort.{sort_of}
use Rattle.number_place.specs.declared.place.NumberPlace.{NumberPlace}
use Rattle.number_place.specs.declared.place.Refused.{Refused}
use Rattle.number_place.specs.declared.place.Refused.TheVariants.{Number}
use Rattle.number_place.specs.Place.{IsNumberAt}
use Rattle.reading.specs.Fault.{Finds}
use Rattle.reading.specs.Word.{Token}

-- ## one answer

-- A value is within the limit of its place.
abbrev pub Limited : Type 0
Limited = (place : NumberPlace) (text : List ℕ) (value : ℤ) → IsNumberAt place text (Ok value) → unsigned_abs value ≤ place.limit

abbrev pub HasOne : Type 0
HasOne = (place : NumberPlace) (text : List ℕ) (r s : Result ℤ Refused) → IsNumberAt place text r → IsNumberAt place text s → r ≡ s

pub no_error : (r : Refused) (v : ℤ) → ◌≡◌ {A = Result ℤ Refused} (Err r) (Ok v) → ⊥
no_error r v h = cc

err_is : (r s : DecimalError) → ◌≡◌ {A = Result ℤ Refused} (Err (Number r)) (Err (Number s)) → r ≡ s
err_is r s h = cc

pub ok_is : (v w : ℤ) → ◌≡◌ {A = Result ℤ Refused} (Ok v) (Ok w) → v ≡ w
ok_is v w h = cc

-- A coordinate is not refused.
pub not_both : HasOne → (word : Token) (value : ℤ) (error : DecimalError) → IsCoordinate word value → IsRefused word (Number error) → ⊥
not_both one word value error h k = no_error (Number error) value (one coordinate word.text (Err (Number error)) (Ok value) k h)

-- A word is one coordinate.
pub one_value : HasOne → (word : Token) (v w : ℤ) → IsCoordinate word v → IsCoordinate word w → v ≡ w
one_value one word v w h k = ok_is v w (one coordinate word.text (Ok v) (Ok w) h k)

-- A word is refused for one reason.
pub one_error : HasOne → (word : Token) (r s : DecimalError) → IsRefused word (Number r) → IsRefused word (Number s) → r ≡ s
one_error one word r s h k = err_is r s (one coordinate word.text (Err (Number r)) (Err (Number s)) h k)

-- ## the first that is refused

abbrev the_bad : Place → DecimalError → Bad
the_bad place error = record { place = place; error = error }

same_bad : (a b : Bad) → a.place ≡ b.place → a.error ≡ b.error → a ≡ b
same_bad a b e f = ap (λ z. the_bad z a.error) e ∙ ap (λ z. the_bad b.place z) f

pub one_bad : HasOne → (numbers : List Token) (a b : Bad) → IsFirstBad numbers a → IsFirstBad numbers b → a ≡ b
one_bad one [] a b h k = absurd h
one_bad one (w ∷ ws) a b (inl h) (inl k) = same_bad a b (h.1 ∙ sym k.1) (one_error one w a.error b.error h.0 k.0)
one_bad one (w ∷ ws) a b (inl h) (inr k) = absurd (not_both one w k.0.0 a.error k.0.1 h.0)
one_bad one (w ∷ ws) a b (inr h) (inl k) = absurd (not_both one w h.0.0 b.error h.0.1 k.0)
one_bad one (w ∷ ws) a b (inr h) (inr k) = one_bad one ws a b h.1 k.1

pub none_bad : HasOne → (numbers : List Token) (bad : Bad) → AreCoordinates numbers → IsFirstBad numbers bad → ⊥
none_bad one [] bad h k = k
none_bad one (w ∷ ws) bad h (inl k) = not_both one w h.0.0 bad.error h.0.1 k.0
none_bad one (w ∷ ws) bad h (inr k) = none_bad one ws bad h.1 k.1

-- ## one more number

bad_stays : (numbers : List Token) (word : Token) (bad : Bad) → IsFirstBad numbers bad → IsFirstBad (numbers ++ word ∷ []) bad
bad_stays [] word bad h = absurd h
bad_stays (w ∷ ws) word bad (inl h) = inl h
bad_stays (w ∷ ws) word bad (inr h) = inr (h.0, bad_stays ws word bad h.1)

bad_more : (numbers : List Token) (word : Token) (bad : Bad) → AreCoordinates numbers → IsRefused word (Number bad.error) → bad.place ≡ word.place →
    IsFirstBad (numbers ++ word ∷ []) bad
bad_more [] word bad h refused at = inl (refused, at)
bad_more (w ∷ ws) word bad h refused at = inr (h.0, bad_more ws word bad h.1 refused at)

all_more : (numbers : List Token) (word : Token) (value : ℤ) → AreCoordinates numbers → IsCoordinate word value → AreCoordinates (numbers ++ word ∷ [])
all_more [] word value h is = ((value, is), tt)
all_more (w ∷ ws) word value h is = (h.0, all_more ws word value h.1 is)

stays_by : (b : Bool) (numbers : List Token) (word : Token) (bad : Bad) → IsFirstBad numbers bad → IsFirstBad (if b then (numbers ++ word ∷ []) else numbers) bad
stays_by true numbers word bad h = bad_stays numbers word bad h
stays_by false numbers word bad h = h

-- What was refused first stays so.
pub noted_bad : (numbers : List Token) (word : Token) (bad : Bad) → IsFirstBad numbers bad → IsFirstBad (noted numbers word) bad
noted_bad numbers word bad h = stays_by (is_number (sort_of word)) numbers word bad h

pub noted_all_bad : (numbers unit : List Token) (bad : Bad) → IsFirstBad numbers bad → IsFirstBad (noted_in numbers unit) bad
noted_all_bad numbers (first ∷ a ∷ []) bad h = noted_bad numbers a bad h
noted_all_bad numbers (first ∷ a ∷ b ∷ []) bad h = noted_bad _ b bad (noted_bad numbers a bad h)
noted_all_bad numbers (first ∷ a ∷ b ∷ c ∷ []) bad h = noted_bad _ c bad (noted_bad _ b bad (noted_bad numbers a bad h))
noted_all_bad numbers (first ∷ a ∷ b ∷ c ∷ d ∷ []) bad h =
    noted_bad _ d bad (noted_bad _ c bad (noted_bad _ b bad (noted_bad numbers a bad h)))
noted_all_bad numbers (first ∷ a ∷ b ∷ c ∷ d ∷ stop ∷ []) bad h =
    noted_bad _ d bad (noted_bad _ c bad (noted_bad _ b bad (noted_bad numbers a bad h)))
noted_all_bad numbers _ bad h = h

-- A word that stands for no number changes nothing.
pub noted_not : (numbers : List Token) (word : Token) → is_number (sort_of word) ≡ false → AreCoordinates numbers → IsBad (noted numbers word) None
noted_not numbers word other h = subst (λ b. IsBad (if b then (numbers ++ word ∷ []) else numbers) None) (sym other) h

-- A coordinate leaves all to be coordinates.
pub noted_value : (numbers : List Token) (word : Token) (value : ℤ) → is_number (sort_of word) ≡ true → AreCoordinates numbers → IsCoordinate word value →
    IsBad (noted numbers word) None
noted_value numbers word value may h is =
    subst (λ b. IsBad (if b then (numbers ++ word ∷ []) else numbers) None) (sym may) (all_more numbers word value h is)

-- Another word is the first that is refused.
pub noted_error : (numbers : List Token) (word : Token) (bad : Bad) → is_number (sort_of word) ≡ true → AreCoordinates numbers →
    IsRefused word (Number bad.error) → bad.place ≡ word.place → IsBad (noted numbers word) (Some bad)
noted_error numbers word bad may h refused at =
    subst (λ b. IsBad (if b then (numbers ++ word ∷ []) else numbers) (Some bad)) (sym may) (bad_more numbers word bad h refused at)

-- Units of more words note nothing.
pub noted_long : (numbers unit : List Token) → 7 ≤ length unit → noted_in numbers unit ≡ numbers
noted_long numbers [] h = refl
noted_long numbers (a ∷ []) h = refl
noted_long numbers (a ∷ b ∷ []) h = absurd (omega arith)
noted_long numbers (a ∷ b ∷ c ∷ []) h = absurd (omega arith)
noted_long numbers (a ∷ b ∷ c ∷ d ∷ []) h = absurd (omega arith)
noted_long numbers (a ∷ b ∷ c ∷ d ∷ e ∷ []) h = absurd (omega arith)
noted_long numbers (a ∷ b ∷ c ∷ d ∷ e ∷ f ∷ []) h = absurd (omega arith)
noted_long numbers (a ∷ b ∷ c ∷ d ∷ e ∷ f ∷ g ∷ unit) h = refl

-- ## a whole RECT

noted_one : (numbers : List Token) (word : Token) → is_number (sort_of word) ≡ true → noted numbers word ≡ numbers ++ word ∷ []
noted_one numbers word may = ap (λ b. if b then (numbers ++ word ∷ []) else numbers) may

one_more : (numbers words : List Token) (word : Token) → (numbers ++ words) ++ word ∷ [] ≡ numbers ++ (words ++ word ∷ [])
one_more numbers words word = simp append_assoc

module _ (first a b c d stop : Token) (a_may : is_number (sort_of a) ≡ true) (b_may : is_number (sort_of b) ≡ true) (c_may : is_number (sort_of c) ≡ true) (d_may : is_number (sort_of d) ≡ true) where
  -- Four words that stand for numbers are all noted.
  pub noted_four : (numbers : List Token) → noted_in numbers (first ∷ a ∷ b ∷ c ∷ d ∷ stop ∷ []) ≡ numbers ++ (a ∷ b ∷ c ∷ d ∷ [])
  noted_four numbers =
      let one = noted_one numbers a a_may in
      let two = ap (λ z. noted z b) one ∙ (noted_one (numbers ++ a ∷ []) b b_may ∙ one_more numbers (a ∷ []) b) in
      let three = ap (λ z. noted z c) two ∙ (noted_one (numbers ++ a ∷ b ∷ []) c c_may ∙ one_more numbers (a ∷ b ∷ []) c) in
      ap (λ z. noted z d) three ∙ (noted_one (numbers ++ a ∷ b ∷ c ∷ []) d d_may ∙ one_more numbers (a ∷ b ∷ c ∷ []) d)

-- ## an ORIGIN

-- A value that is 0 as a word of the machine is 0.
pub is_zero : Limited → (word : Token) (value : ℤ) → IsCoordinate word value → of_z w64 value ≡ 0 → value ≡ pos 0
is_zero limited word value is zero =
    let within : unsigned_abs value ≤ 10 ^ 11 = limited coordinate word.text value is in
    sym (to_z-of_z w64 value (fits_signed_from_abs w64 value (omega arith))) ∙ ap (to_z w64) zero

-- The word is 0.
pub origin_zero : HasOne → (has_origin : Bool) (word : Token) (value : ℤ) → IsCoordinate word value →
    ((error : DecimalError) → IsRefused word (Number error) → ⊥) → value ≡ pos 0 → Finds (OriginFault has_origin word) None
origin_zero one has_origin word value is fine zero kind (inl h) = fine h.0 h.1
origin_zero one true word value is fine zero kind (inr h) = h
origin_zero one false word value is fine zero kind (inr h) = h.2 (one_value one word h.0 value h.1 is ∙ zero)

-- It is that of a later ORIGIN.
pub origin_later : (has_origin : Bool) (word : Token) → ((error : DecimalError) → IsRefused word (Number error) → ⊥) → has_origin ≡ true →
    Finds (OriginFault has_origin word) None
origin_later true word fine later kind (inl h) = fine h.0 h.1
origin_later true word fine later kind (inr h) = h
origin_later false word fine later kind h = absurd (let t : false ≡ true = later in cc)

-- It is another one.
pub origin_other : (has_origin : Bool) (word : Token) (value : ℤ) → IsCoordinate word value → (value ≡ pos 0 → ⊥) → has_origin ≡ false →
    OriginFault has_origin word kinds.Origin
origin_other false word value is other first = inr (value, is, other, refl)
origin_other true word value is other first = absurd (let t : true ≡ false = first in cc)
