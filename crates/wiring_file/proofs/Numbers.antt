-- Numbers of units, and answers.
use Rattle.std.proofs.Common.{◌≡◌, ◌≢◌, ℕ, suc, ◌+◌, ◌<◌, ◌≤◌, ◌==◌, Bool, true, false, if◌then◌else◌, ℤ, List, [], ◌∷◌, length, drop, get_or, Option, Some, None, Result, Ok, Err, refl, sym, ap, ◌∙◌, arith, drop-cons, subst, map, ◌-◌, ◌⊎◌, inl, inr, pos}
use Rattle.std.specs.Prelude.{IsTrue}
use Rattle.std.proofs.lemmas.List.{drop_all}
use Rattle.std.proofs.lemmas.Bool.Decides.{nat_tests}
use Rattle.number_place.specs.declared.place.Refused.{Refused}
use Rattle.wiring_file.specs.declared.number.Quantity.{Quantity}
use Rattle.wiring_file.specs.declared.section.Section.{Section}
use Rattle.wiring_file.specs.declared.error.WiringKind.{WiringKind}
use Rattle.wiring_file.specs.declared.error.WiringKind.TheVariants.{Syntax}
use Rattle.wiring_file.specs.declared.number.Quantity.TheVariants.{NotNegative}
use Rattle.number_place.specs.declared.place.NumberPlace.{NumberPlace}
use Rattle.number_place.specs.Place.{IsNumberAt}
use Rattle.wiring_file.specs.Standing.{Standing}
use Rattle.wiring_file.specs.Number.{quantity_at, numbers_in, place_of}
use Rattle.wiring_file.specs.Unit.{text_at, is_entry}
use Rattle.wiring_file.specs.Fault.{IsRefusedAs, IsNumberFault, HasCount, IsMiscounted, IsUnfit, LastFault}
use Rattle.reading.specs.declared.word.Word.{Word}
use Rattle.reading.specs.Fault.{Finds}
use Rattle.reading.specs.Word.{Token, token}
use Rattle.std.proofs.lemmas.List.{length-map}

abbrev pub Answer : Type 0
Answer = Result ℤ Refused

pub ok_is : (v w : ℤ) → ◌≡◌ {A = Answer} (Ok w) (Ok v) → w ≡ v
ok_is v w h = cc

pub err_is : (a b : Refused) → ◌≡◌ {A = Answer} (Err a) (Err b) → a ≡ b
err_is a b h = cc

pub not_both : (w : ℤ) (e : Refused) → ◌≡◌ {A = Answer} (Ok w) (Err e) → ⊥
not_both w e h = cc

-- ## numbers of a unit

abbrev Numbers : Type 0
Numbers = List (ℕ × Quantity)

abbrev chosen : Bool → ℕ × Quantity → Option Quantity → Option Quantity
chosen b p rest = if b then Some p.1 else rest

step : (n : ℕ) (xs : Numbers) (i : ℕ) (d : ℕ × Quantity) → i < length xs → quantity_at n (drop i xs) ≡ chosen ((get_or xs i d).0 == n) (get_or xs i d) (quantity_at n (drop (i + 1) xs))
step n xs i d within =
    let e : drop i xs ≡ get_or xs i d ∷ drop (suc i) xs = drop-cons xs i d within in
    let next : suc i ≡ i + 1 = omega arith in
    ap (quantity_at n) e ∙ ap (λ k. chosen ((get_or xs i d).0 == n) (get_or xs i d) (quantity_at n (drop k xs))) next

same : (a b : ℕ) → a ≡ b → (a == b) ≡ true
same a b e = grind (arith, nat_tests)

differs : (a b : ℕ) → a ≢ b → (a == b) ≡ false
differs a b e = grind (arith, nat_tests)

pub found : (n : ℕ) (xs : Numbers) (i : ℕ) (d : ℕ × Quantity) → i < length xs → (get_or xs i d).0 ≡ n → quantity_at n (drop i xs) ≡ Some (get_or xs i d).1
found n xs i d within e = step n xs i d within ∙ ap (λ b. chosen b (get_or xs i d) (quantity_at n (drop (i + 1) xs))) (same (get_or xs i d).0 n e)

pub passed : (n : ℕ) (xs : Numbers) (i : ℕ) (d : ℕ × Quantity) → i < length xs → (get_or xs i d).0 ≢ n → quantity_at n (drop i xs) ≡ quantity_at n (drop (i + 1) xs)
passed n xs i d within e = step n xs i d within ∙ ap (λ b. chosen b (get_or xs i d) (quantity_at n (drop (i + 1) xs))) (differs (get_or xs i d).0 n e)

pub none_left : (n : ℕ) (xs : Numbers) (i : ℕ) → length xs ≤ i → quantity_at n (drop i xs) ≡ None
none_left n xs i h = ap (quantity_at n) (drop_all i xs h)

-- ## counts

abbrev pub HasOne : Type 0
HasOne = (place : NumberPlace) (text : List ℕ) (r s : Answer) → IsNumberAt place text r → IsNumberAt place text s → r ≡ s

pos_is : (a b : ℕ) → pos a ≡ pos b → a ≡ b
pos_is a b h = cc

abbrev pub Differs : ℕ → ℕ → List Token → Type 0
Differs count entries part = ((is_entry part ≡ true) × (count ≡ entries)) ⊎ ((is_entry part ≡ false) × (count ≢ entries))

module _ (one : HasOne) (s : Standing) (part : List Token) (count entries : ℕ) (known : HasCount s (pos count)) (many : entries ≡ s.entries) where
  pub to_miscounted : Differs count entries part → IsMiscounted s part
  to_miscounted (inl h) = inl (h.0, subst (λ k. HasCount s (pos k)) (h.1 ∙ many) known)
  to_miscounted (inr h) = inr (h.0, pos count, known, λ e. h.1 (pos_is count s.entries e ∙ sym many))

  pub from_miscounted : IsMiscounted s part → Differs count entries part
  from_miscounted (inl h) = inl (h.0, pos_is count s.entries (ok_is (pos s.entries) (pos count) (one (place_of NotNegative) s.count (Ok (pos count)) (Ok (pos s.entries)) known h.1)) ∙ sym many)
  from_miscounted (inr h) = inr (h.0, λ e. h.3 (ok_is (pos count) h.1 (one (place_of NotNegative) s.count (Ok h.1) (Ok (pos count)) h.2 known) ∙ ap pos (e ∙ many)))
