-- The words of a statement show one kind of fault.
use Rattle.std.proofs.Common.{◌≡◌, ◌↔◌, IsTrue, Bool, ℕ, ◌≤◌, ◌^◌, ℤ, ◌≤ℤ◌, List, Result, Ok, Err, inl, inr, sym, ◌∙◌, ap, subst, arith, to_z, of_z}
use Rattle.std.specs.Prelude.{unsigned_abs}
use Rattle.std.specs.Int.{w64}
use Rattle.std.proofs.lemmas.Int.{to_z-of_z, fits_signed_from_abs}
use Rattle.lef_tech.specs.declared.error.TechKind.{TechKind}
use Rattle.lef_tech.specs.declared.number.Quantity.{Quantity}
use Rattle.lef_tech.specs.declared.number.Quantity.TheVariants as quantities
use Rattle.lef_tech.specs.declared.question.Question.{Question}
use Rattle.lef_tech.specs.declared.question.Question.TheVariants.{Nothing, Number, Microns, Point, Value, AllValues, NewLayer, NewRule, KnownLayer, OwnName, Used}
use Rattle.lef_tech.specs.declared.state.State.{State}
use Rattle.lef_tech.specs.Fault.{refused_kind, NumberFault, count_kind, MicronsFault, StandsBelow, PointFault, ValueFault, LastFault, used_found, UsedFault, Asked}
use Rattle.lef_tech.specs.Number.{place_of}
use Rattle.number_place.specs.declared.place.NumberPlace.{NumberPlace}
use Rattle.number_place.specs.declared.place.Refused.{Refused}
use Rattle.number_place.specs.Place.{IsNumberAt}
use Rattle.reading.specs.declared.refusal.Found.{Found}
use Rattle.reading.specs.Word.{Token}

-- A text has one answer in a place.
abbrev pub HasOne : Type 0
HasOne = (place : NumberPlace) (text : List ℕ) (r s : Result ℤ Refused) → IsNumberAt place text r → IsNumberAt place text s → r ≡ s

pub no_error : (r : Refused) (v : ℤ) → ◌≡◌ {A = Result ℤ Refused} (Err r) (Ok v) → ⊥
no_error r v h = cc

err_is : (r s : Refused) → ◌≡◌ {A = Result ℤ Refused} (Err r) (Err s) → r ≡ s
err_is r s h = cc

-- There is only this answer.
abbrev pub IsOnly : NumberPlace → List ℕ → Result ℤ Refused → Type 0
IsOnly place text answer = (other : Result ℤ Refused) → IsNumberAt place text other → other ≡ answer

pub none_refused : (quantity : Quantity) (text : List ℕ) (v : ℤ) → IsOnly (place_of quantity) text (Ok v) → (kind : TechKind) → NumberFault quantity text kind → ⊥
none_refused quantity text v only kind h = no_error h.0 v (only (Err h.0) h.1)

pub none_counted : (text : List ℕ) (v : ℤ) → IsOnly (place_of quantities.Microns) text (Ok v) → (kind : TechKind) → MicronsFault text kind → ⊥
none_counted text v only kind h = no_error h.0 v (only (Err h.0) h.1)

pub none_read : (quantity : Quantity) (text : List ℕ) (v : ℤ) → IsOnly (place_of quantity) text (Ok v) → (refused : Refused) → IsNumberAt (place_of quantity) text (Err refused) → ⊥
none_read quantity text v only refused h = no_error refused v (only (Err refused) h)

ok_is : (v w : ℤ) → ◌≡◌ {A = Result ℤ Refused} (Ok v) (Ok w) → v ≡ w
ok_is v w h = cc

-- The test of two values tells whether a point is not above the point before.
pub below_told : (quantity : Quantity) (before point : List ℕ) (a b : ℤ) (less : Bool) → IsNumberAt (place_of quantity) before (Ok a) → IsOnly (place_of quantity) before (Ok a) →
    IsNumberAt (place_of quantity) point (Ok b) → IsOnly (place_of quantity) point (Ok b) → IsTrue less ↔ (b ≤ℤ a) → IsTrue less ↔ StandsBelow quantity before point
below_told quantity before point a b less is_a only_a is_b only_b tells = (
  (λ h. (a, b, is_a, is_b, tells.0 h)),
  (λ f. tells.1 (subst (λ z. z ≤ℤ a) (ok_is f.1 b (only_b (Ok f.1) f.3)) (subst (λ z. f.1 ≤ℤ z) (ok_is f.0 a (only_a (Ok f.0) f.2)) f.4))),
)

-- A number that is refused stands nowhere.
pub no_low : (quantity : Quantity) (before point : List ℕ) (r : Refused) → IsOnly (place_of quantity) before (Err r) → StandsBelow quantity before point → ⊥
no_low quantity before point r only f = no_error r f.0 (sym (only (Ok f.0) f.2))

pub no_high : (quantity : Quantity) (before point : List ℕ) (r : Refused) → IsOnly (place_of quantity) point (Err r) → StandsBelow quantity before point → ⊥
no_high quantity before point r only f = no_error r f.1 (sym (only (Ok f.1) f.3))

-- The numbers of all kinds fit the machine's.
small : (quantity : Quantity) → (place_of quantity).limit ≤ 10 ^ 18
small quantities.Length = omega arith
small quantities.Corner = omega arith
small quantities.Resistance = omega arith
small quantities.WireDensity = omega arith
small quantities.CutDensity = omega arith
small quantities.Area = omega arith
small quantities.Microns = omega arith

pub kept : (quantity : Quantity) (text : List ℕ) (v : ℤ) → IsNumberAt (place_of quantity) text (Ok v) → to_z w64 (of_z w64 v) ≡ v
kept quantity text v is =
    let within : unsigned_abs v ≤ (place_of quantity).limit = is.1.2.within in
    let few : (place_of quantity).limit ≤ 10 ^ 18 = small quantity in
    to_z-of_z w64 v (fits_signed_from_abs w64 v (omega (arith, within, few)))

pub number_one : HasOne → (quantity : Quantity) (text : List ℕ) (k l : TechKind) → NumberFault quantity text k → NumberFault quantity text l → l ≡ k
number_one one quantity text k l h i =
    i.2 ∙ ap refused_kind (err_is i.0 h.0 (one (place_of quantity) text (Err i.0) (Err h.0) i.1 h.1)) ∙ sym h.2

microns_one : HasOne → (text : List ℕ) (k l : TechKind) → MicronsFault text k → MicronsFault text l → l ≡ k
microns_one one text k l h i =
    i.2 ∙ ap count_kind (err_is i.0 h.0 (one (place_of quantities.Microns) text (Err i.0) (Err h.0) i.1 h.1)) ∙ sym h.2

not_both : HasOne → (quantity : Quantity) (text : List ℕ) (k : TechKind) (v : ℤ) → NumberFault quantity text k → IsNumberAt (place_of quantity) text (Ok v) → ⊥
not_both one quantity text k v h i = no_error h.0 v (one (place_of quantity) text (Err h.0) (Ok v) h.1 i)

point_one : HasOne → (quantity : Quantity) (before text : List ℕ) (k l : TechKind) → PointFault quantity before text k → PointFault quantity before text l → l ≡ k
point_one one quantity before text k l (inl h) (inl i) = number_one one quantity text k l h i
point_one one quantity before text k l (inl h) (inr i) = absurd (not_both one quantity text k i.1.1 h i.1.3)
point_one one quantity before text k l (inr h) (inl i) = absurd (not_both one quantity text l h.1.1 i h.1.3)
point_one one quantity before text k l (inr h) (inr i) = i.0 ∙ sym h.0

value_one : HasOne → (quantity : Quantity) (left : ℕ) (text : List ℕ) (k l : TechKind) → ValueFault quantity left text k → ValueFault quantity left text l → l ≡ k
value_one one quantity left text k l (inl h) (inl i) = number_one one quantity text k l h i
value_one one quantity left text k l (inl h) (inr i) = absurd (not_both one quantity text k i.2 h i.3)
value_one one quantity left text k l (inr h) (inl i) = absurd (not_both one quantity text l h.2 i h.3)
value_one one quantity left text k l (inr h) (inr i) = i.0 ∙ sym h.0

pub last_one : HasOne → (state : State) (last : Token) (asked : Question) (k l : TechKind) → LastFault state last asked k → LastFault state last asked l → l ≡ k
last_one one state last Nothing k l h i = absurd h
last_one one state last (Number quantity) k l h i = number_one one quantity last.text k l h i
last_one one state last Microns k l h i = microns_one one last.text k l h i
last_one one state last (Point quantity) k l h i = point_one one quantity state.place.point last.text k l h i
last_one one state last (Value quantity) k l h i = value_one one quantity state.place.left last.text k l h i
last_one one state last AllValues k l h i = i.0 ∙ sym h.0
last_one one state last NewLayer k l h i = i.0 ∙ sym h.0
last_one one state last NewRule k l h i = i.0 ∙ sym h.0
last_one one state last KnownLayer k l h i = i.0 ∙ sym h.0
last_one one state last OwnName k l h i = i.0 ∙ sym h.0
last_one one state last (Used quantity) k l h i = absurd h

not_used : (state : State) (before last : Token) (at : ℕ) (asked : Question) (k : TechKind) (a : Found TechKind) → LastFault state last asked k → UsedFault before at asked a → ⊥
not_used state before last at (Used quantity) k a h i = h
not_used state before last at asked k a h i = i

used_one : HasOne → (before : Token) (at : ℕ) (asked : Question) (a b : Found TechKind) → UsedFault before at asked a → UsedFault before at asked b → b ≡ a
used_one one before at (Used quantity) a b h i =
    i.2 ∙ ap (λ z. used_found z at) (err_is i.0 h.0 (one (place_of quantity) before.text (Err i.0) (Err h.0) i.1 h.1)) ∙ sym h.2
used_one one before at asked a b h i = absurd h

both : (a b : Found TechKind) → b ≡ a → (b.at ≡ a.at) × (b.kind ≡ a.kind)
both a b e = (ap (λ (z : Found TechKind). z.at) e, ap (λ (z : Found TechKind). z.kind) e)

pub asked_one : HasOne → (state : State) (before last : Token) (n : ℕ) (asked : Question) (a b : Found TechKind) →
    Asked state before last n asked a → Asked state before last n asked b → (b.at ≡ a.at) × (b.kind ≡ a.kind)
asked_one one state before last n asked a b (inl h) (inl i) = (omega arith, last_one one state last asked a.kind b.kind h.1 i.1)
asked_one one state before last n asked a b (inl h) (inr i) = absurd (not_used state before last n asked a.kind b h.1 i)
asked_one one state before last n asked a b (inr h) (inl i) = absurd (not_used state before last n asked b.kind a i.1 h)
asked_one one state before last n asked a b (inr h) (inr i) = both a b (used_one one before n asked a b h i)
