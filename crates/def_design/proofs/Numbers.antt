-- Numbers: those that are refused, and those that are read.
use Rattle.std.proofs.Common.{◌≡◌, ◌↔◌, IsTrue, Bool, true, false, ◌≤◌, ℕ, ℤ, pos, List, Result, Ok, Err, inl, inr, refl, sym, ◌∙◌, ap, subst, arith, to_z, of_z}
use Rattle.std.specs.Prelude.{unsigned_abs}
use Rattle.std.specs.Int.{w64}
use Rattle.std.proofs.lemmas.Int.{to_z-of_z, fits_signed_from_abs}
use Rattle.std.proofs.lemmas.Bool.{false≢true}
use Rattle.def_design.specs.declared.error.DefKind.{DefKind}
use Rattle.def_design.specs.declared.error.DefKind.TheVariants as kinds
use Rattle.def_design.specs.declared.number.Quantity.{Quantity}
use Rattle.def_design.specs.declared.number.Quantity.TheVariants.{Any, NotNegative, Positive, Microns}
use Rattle.def_design.specs.Fault.{refused_kind, NumberFault, ApartFault, OneFault, NoArea, DieEndFault}
use Rattle.def_design.specs.Number.{place_of, IsNumber, IsSame}
use Rattle.def_statements.specs.declared.sort.Sort.{Sort}
use Rattle.def_statements.specs.declared.sort.Sort.TheVariants as sorts
use Rattle.def_statements.specs.Unit.{text_at}
use Rattle.number_place.specs.declared.place.NumberPlace.{NumberPlace}
use Rattle.number_place.specs.declared.place.Refused.{Refused}
use Rattle.number_place.specs.Place.{IsNumberAt, HasSign}
use Rattle.reading.specs.Word.{Token}

-- A text has one answer in a place.
abbrev pub HasOne : Type 0
HasOne = (place : NumberPlace) (text : List ℕ) (r s : Result ℤ Refused) → IsNumberAt place text r → IsNumberAt place text s → r ≡ s

-- There is only this answer.
abbrev pub IsOnly : NumberPlace → List ℕ → Result ℤ Refused → Type 0
IsOnly place text answer = (other : Result ℤ Refused) → IsNumberAt place text other → other ≡ answer

pub no_error : (r : Refused) (v : ℤ) → ◌≡◌ {A = Result ℤ Refused} (Err r) (Ok v) → ⊥
no_error r v h = cc

err_is : (r s : Refused) → ◌≡◌ {A = Result ℤ Refused} (Err r) (Err s) → r ≡ s
err_is r s h = cc

pub ok_is : (v w : ℤ) → ◌≡◌ {A = Result ℤ Refused} (Ok v) (Ok w) → v ≡ w
ok_is v w h = cc

pub none_refused : (quantity : Quantity) (text : List ℕ) (v : ℤ) → IsOnly (place_of quantity) text (Ok v) → (kind : DefKind) → NumberFault quantity text kind → ⊥
none_refused quantity text v only kind h = no_error h.0 v (only (Err h.0) h.1)

-- ## one answer

pub number_one : HasOne → (quantity : Quantity) (text : List ℕ) (k l : DefKind) → NumberFault quantity text k → NumberFault quantity text l → l ≡ k
number_one one quantity text k l h i =
    i.2 ∙ ap (refused_kind quantity) (err_is i.0 h.0 (one (place_of quantity) text (Err i.0) (Err h.0) i.1 h.1)) ∙ sym h.2

pub value_one : HasOne → (quantity : Quantity) (text : List ℕ) (v w : ℤ) → IsNumber quantity text v → IsNumber quantity text w → v ≡ w
value_one one quantity text v w h i = ok_is v w (one (place_of quantity) text (Ok v) (Ok w) h i)

not_both : HasOne → (quantity : Quantity) (text : List ℕ) (k : DefKind) (v : ℤ) → NumberFault quantity text k → IsNumber quantity text v → ⊥
not_both one quantity text k v h i = no_error h.0 v (one (place_of quantity) text (Err h.0) (Ok v) h.1 i)

pub apart_one : HasOne → (other text : List ℕ) (k l : DefKind) → ApartFault other text k → ApartFault other text l → l ≡ k
apart_one one other text k l (inl h) (inl i) = number_one one Any text k l h i
apart_one one other text k l (inl h) (inr i) = absurd (not_both one Any text k i.1.0 h i.1.2)
apart_one one other text k l (inr h) (inl i) = absurd (not_both one Any text l h.1.0 i h.1.2)
apart_one one other text k l (inr h) (inr i) = i.0 ∙ sym h.0

pub count_one : HasOne → (text : List ℕ) (k l : DefKind) → OneFault text k → OneFault text l → l ≡ k
count_one one text k l (inl h) (inl i) = number_one one Positive text k l h i
count_one one text k l (inl h) (inr i) = absurd (not_both one Positive text k i.1.0 h i.1.1)
count_one one text k l (inr h) (inl i) = absurd (not_both one Positive text l h.1.0 i h.1.1)
count_one one text k l (inr h) (inr i) = i.0 ∙ sym h.0

-- ## limits

-- A value is within the limit of its place, and has its sign.
abbrev pub Limited : Type 0
Limited = (place : NumberPlace) (text : List ℕ) (value : ℤ) → IsNumberAt place text (Ok value) → unsigned_abs value ≤ place.limit

abbrev pub Signed : Type 0
Signed = (place : NumberPlace) (text : List ℕ) (value : ℤ) → IsNumberAt place text (Ok value) → HasSign place.sign value

-- ## what is found

-- Two numbers that are read are the same number where their texts are.
pub same_numbers : HasOne → (s t : List ℕ) (x z : ℤ) → IsNumber Any s x → IsNumber Any t z → IsSame s t → x ≡ z
same_numbers one s t x z h k same = sym (value_one one Any s same.0 x same.1 h) ∙ value_one one Any t same.0 z same.2 k

pub are_same : (s t : List ℕ) (x z : ℤ) → IsNumber Any s x → IsNumber Any t z → x ≡ z → IsSame s t
are_same s t x z h k e = (x, h, subst (λ v. IsNumber Any t v) (sym e) k)

-- A number that is read and another than that four words before is fine.
pub none_apart : HasOne → (edge text : List ℕ) (other v : ℤ) → IsNumber Any edge other → IsNumber Any text v → ((kind : DefKind) → NumberFault Any text kind → ⊥) → (v ≡ other → ⊥) →
    (kind : DefKind) → ApartFault edge text kind → ⊥
none_apart one edge text other v h k fine differs kind (inl f) = fine kind f
none_apart one edge text other v h k fine differs kind (inr f) = differs (sym (same_numbers one edge text other v h k f.1))

-- A count of 1 is fine.
pub none_more : (text : List ℕ) (v : ℤ) → v ≡ pos 1 → IsOnly (place_of Positive) text (Ok v) → (kind : DefKind) → OneFault text kind → ⊥
none_more text v one only kind (inl h) = none_refused Positive text v only kind h
none_more text v one only kind (inr h) = h.1.2 (ok_is h.1.0 v (only (Ok h.1.0) h.1.1) ∙ one)

-- ## a die without area

pub side_same : (unit : List Token) (same : Bool) → IsTrue same ↔ IsSame (text_at 2 unit) (text_at 6 unit) → same ≡ true → IsTrue same ↔ NoArea unit
side_same unit same tells is = (λ t. inl (tells.0 t), λ h. is)

pub side_other : (unit : List Token) (same other : Bool) → IsTrue same ↔ IsSame (text_at 2 unit) (text_at 6 unit) → same ≡ false →
    IsTrue other ↔ IsSame (text_at 3 unit) (text_at 7 unit) → IsTrue other ↔ NoArea unit
side_other unit same other tells is other_tells = (
  λ t. inr (other_tells.0 t),
  λ h. elim h [ inl k ↦ absurd (false≢true (sym is ∙ tells.1 k)) | inr k ↦ other_tells.1 k ],
)

-- Another word than `(` after the points is refused where they span no area.
pub die_ends : (unit : List Token) (last : Sort) → (last ≡ sorts.Open → ⊥) → NoArea unit → DieEndFault unit last kinds.Syntax
die_ends unit sorts.Open other h = absurd (other refl)
die_ends unit last other h = (refl, h)

pub die_fine : (unit : List Token) (last : Sort) → (last ≡ sorts.Open → ⊥) → (NoArea unit → ⊥) → (kind : DefKind) → DieEndFault unit last kind → ⊥
die_fine unit sorts.Open other area kind h = other refl
die_fine unit last other area kind h = area h.1

-- ## numbers of the machine

pub kept : (quantity : Quantity) (v : ℤ) → unsigned_abs v ≤ (place_of quantity).limit → to_z w64 (of_z w64 v) ≡ v
kept Any v h = to_z-of_z w64 v (fits_signed_from_abs w64 v (omega arith))
kept NotNegative v h = to_z-of_z w64 v (fits_signed_from_abs w64 v (omega arith))
kept Positive v h = to_z-of_z w64 v (fits_signed_from_abs w64 v (omega arith))
kept Microns v h = to_z-of_z w64 v (fits_signed_from_abs w64 v (omega arith))

pub read_as : (quantity : Quantity) (text own : List ℕ) (v : ℤ) → text ≡ own → IsNumber quantity text v → IsNumber quantity own (to_z w64 (of_z w64 v))
read_as quantity text own v same is =
    subst (λ z. IsNumber quantity own z) (sym (kept quantity v is.1.2.within)) (subst (λ z. IsNumber quantity z v) same is)

pub one_is : (text : List ℕ) (v : ℤ) → of_z w64 v ≡ 1 → IsNumber Positive text v → v ≡ pos 1
one_is text v e is = sym (kept Positive v is.1.2.within) ∙ ap (λ z. to_z w64 z) e

-- Two numbers of the machine are one where their texts are one number.
pub same_side : HasOne → (s t : List ℕ) (x z a b : ℤ) → IsNumber Any s x → IsNumber Any t z → a ≡ x → b ≡ z → (same : Bool) →
    IsTrue same ↔ (to_z w64 (of_z w64 a) ≡ to_z w64 (of_z w64 b)) → IsTrue same ↔ IsSame s t
same_side one s t x z a b h k e f same tells =
    let left : to_z w64 (of_z w64 a) ≡ x = ap (λ v. to_z w64 (of_z w64 v)) e ∙ kept Any x h.1.2.within in
    let right : to_z w64 (of_z w64 b) ≡ z = ap (λ v. to_z w64 (of_z w64 v)) f ∙ kept Any z k.1.2.within in
    (λ is. are_same s t x z h k (sym left ∙ tells.0 is ∙ right), λ is. tells.1 (left ∙ same_numbers one s t x z h k is ∙ sym right))
