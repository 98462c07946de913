-- Numbers: those that are refused, and those that are read.
use Rattle.std.proofs.Common.{◌≡◌, ◌≤◌, ◌↔◌, IsTrue, Bool, true, false, not, refl, ℕ, ℤ, List, Result, Ok, Err, sym, ◌∙◌, ap}
use Rattle.std.specs.Prelude.{unsigned_abs}
use Rattle.def_wiring.specs.declared.error.WiresKind.{WiresKind}
use Rattle.def_wiring.specs.declared.number.Quantity.{Quantity}
use Rattle.def_wiring.specs.declared.number.Quantity.TheVariants.{Any, NotNegative, Positive}
use Rattle.def_wiring.specs.Number.{place_of, IsNumber, kind_of, NumberFault, IsOther}
use Rattle.number_place.specs.declared.place.NumberPlace.{NumberPlace}
use Rattle.number_place.specs.declared.place.Refused.{Refused}
use Rattle.number_place.specs.Place.{IsNumberAt, HasSign}

-- A text has one answer in a place.
abbrev pub HasOne : Type 0
HasOne = (place : NumberPlace) (text : List ℕ) (r s : Result ℤ Refused) → IsNumberAt place text r → IsNumberAt place text s → r ≡ s

-- There is only this answer.
abbrev pub IsOnly : NumberPlace → List ℕ → Result ℤ Refused → Type 0
IsOnly place text answer = (other : Result ℤ Refused) → IsNumberAt place text other → other ≡ answer

-- A value is within the limit of its place, and has its sign.
abbrev pub Limited : Type 0
Limited = (place : NumberPlace) (text : List ℕ) (value : ℤ) → IsNumberAt place text (Ok value) → unsigned_abs value ≤ place.limit

abbrev pub Signed : Type 0
Signed = (place : NumberPlace) (text : List ℕ) (value : ℤ) → IsNumberAt place text (Ok value) → HasSign place.sign value

pub no_error : (r : Refused) (v : ℤ) → ◌≡◌ {A = Result ℤ Refused} (Err r) (Ok v) → ⊥
no_error r v h = cc

err_is : (r s : Refused) → ◌≡◌ {A = Result ℤ Refused} (Err r) (Err s) → r ≡ s
err_is r s h = cc

pub ok_is : (v w : ℤ) → ◌≡◌ {A = Result ℤ Refused} (Ok v) (Ok w) → v ≡ w
ok_is v w h = cc

-- A text is one number.
pub value_one : HasOne → (quantity : Quantity) (text : List ℕ) (v w : ℤ) → IsNumber quantity text v → IsNumber quantity text w → v ≡ w
value_one one quantity text v w h i = ok_is v w (one (place_of quantity) text (Ok v) (Ok w) h i)

-- It is refused for one reason.
pub number_one : HasOne → (quantity : Quantity) (text : List ℕ) (k l : WiresKind) → NumberFault quantity text k → NumberFault quantity text l → l ≡ k
number_one one quantity text k l h i =
    i.2 ∙ ap kind_of (err_is i.0 h.0 (one (place_of quantity) text (Err i.0) (Err h.0) i.1 h.1)) ∙ sym h.2

pub not_both : HasOne → (quantity : Quantity) (text : List ℕ) (k : WiresKind) (v : ℤ) → NumberFault quantity text k → IsNumber quantity text v → ⊥
not_both one quantity text k v h i = no_error h.0 v (one (place_of quantity) text (Err h.0) (Ok v) h.1 i)

-- A text that is refused is no number.
pub none_other : (one other : List ℕ) (r : Refused) → IsOnly (place_of Any) one (Err r) → IsOther one other → ⊥
none_other one other r only h = no_error r h.0 (sym (only (Ok h.0) h.2))

pub other_none : (one other : List ℕ) (r : Refused) → IsOnly (place_of Any) other (Err r) → IsOther one other → ⊥
other_none one other r only h = no_error r h.1 (sym (only (Ok h.1) h.3))

-- Two numbers that are read differ where their values do.
pub other_tells : (one other : List ℕ) (v w : ℤ) (equal : Bool) → IsTrue equal ↔ (v ≡ w) → IsNumber Any one v → IsNumber Any other w →
    IsOnly (place_of Any) one (Ok v) → IsOnly (place_of Any) other (Ok w) → IsTrue (not equal) ↔ IsOther one other
other_tells one other v w true tells h k only also = (
  λ t. absurd (let f : false ≡ true = t in cc),
  λ i. absurd (i.4 (ok_is i.0 v (only (Ok i.0) i.2) ∙ tells.0 refl ∙ sym (ok_is i.1 w (also (Ok i.1) i.3)))),
)
other_tells one other v w false tells h k only also = (
  λ t. (v, w, h, k, λ e. let f : false ≡ true = tells.1 e in cc),
  λ i. refl,
)
