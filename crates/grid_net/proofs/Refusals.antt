-- The tests of a build and their parts.
use borrow.Author.Tests.{ltb-true}
use Rattle.std.proofs.lemmas.List.{length-map}
use Rattle.grid_net.specs.declared.part.Load.{Load}
use Rattle.grid_net.specs.Adding.{given_load}
use Rattle.std.proofs.Common.{ℤ, pos, if◌then◌else◌, take, max, unsigned_abs, add-one, ◌≡◌, ℕ, zero, suc, ◌+◌, ◌<◌, refl, ap, ◌∙◌, sym, arith, List, [], ◌∷◌, length, get_or, Option, Some, None, Bool, true, false, cond, not, map, ltb}
use Rattle.std.specs.Option.{option_or, option_map}
use Rattle.grid_net.specs.declared.error.Quantity.{Quantity}
use Rattle.grid_net.specs.declared.error.NetError.TheVariants.{Range}
use Rattle.grid_net.specs.Building.{first_unfit}
use Rattle.std.specs.List.{position, position_or_len, prefix_len}
use Rattle.grid_net.specs.Search.{or_else}

-- The library's word for the first of two answers.
pub first_answer : {X : Type 0} (a b : Option X) → option_or a b ≡ or_else a b
first_answer None b = refl
first_answer (Some x) b = refl

-- The place of an entry whose number passes a test is the place of the number.
prefix_of_map : {X Y : Type 0} (f : X → Y) (p : Y → Bool) (xs : List X) → prefix_len p (map f xs) ≡ prefix_len (λ x. p (f x)) xs
prefix_of_map f p [] = refl
prefix_of_map f p (x ∷ xs) = ap (λ n. cond (p (f x)) (1 + n) 0) (prefix_of_map f p xs)

pub place_of_map : {X Y : Type 0} (f : X → Y) (p : Y → Bool) (xs : List X) → position p (map f xs) ≡ position (λ x. p (f x)) xs
place_of_map f p xs =
    ap (λ n. cond (ltb n (length (map f xs))) (Some n) None) (prefix_of_map f (λ y. not (p y)) xs)
    ∙ ap (λ n. cond (ltb (position_or_len (λ x. p (f x)) xs) n) (Some (position_or_len (λ x. p (f x)) xs)) None) (length-map xs f)

pub entry_of_map : {X Y : Type 0} (f : X → Y) (xs : List X) (k : ℕ) (d : X) (e : Y) → k < length xs → get_or (map f xs) k e ≡ f (get_or xs k d)
entry_of_map f [] k d e l = absurd (omega arith)
entry_of_map f (x ∷ xs) zero d e l = refl
entry_of_map f (x ∷ xs) (suc k) d e l = entry_of_map f xs k d e (omega arith)

-- A place that is found lies in the list.
pub place_in_list : {X : Type 0} (p : X → Bool) (xs : List X) (at : ℕ) → position p xs ≡ Some at → at < length xs
place_in_list p xs at e = by_test (ltb (position_or_len p xs) (length xs)) (position_or_len p xs) (length xs) (λ h. h) at refl e
  where
    by_test : (b : Bool) (n m : ℕ) → (ltb n m ≡ true → ltb n m ≡ true) → (at : ℕ) → ltb n m ≡ b → cond b (Some n) None ≡ Some at → at < m
    by_test true n m h at t e = let f : n ≡ at = cc in let l = ltb-true n m t in omega (arith, f, l)
    by_test false n m h at t e = let f : ◌≡◌ {A = Option ℕ} None (Some at) = e in absurd (cc)

-- ---- the sum of the loads
given_next : (ls : List Load) (k : ℕ) (d : Load) → k < length ls → given_load (take (suc k) ls) ≡ given_load (take k ls) + max (unsigned_abs (get_or ls k d).low) (unsigned_abs (get_or ls k d).high)
given_next [] k d l = absurd (omega arith)
given_next (x ∷ xs) zero d l = omega arith
given_next (x ∷ xs) (suc k) d l = let e = given_next xs k d (omega arith) in omega arith

-- The next load adds its greater magnitude: a loop's step.
pub given_more : (ls : List Load) (k : ℕ) (d : Load) → k < length ls → given_load (take (k + 1) ls) ≡ given_load (take k ls) + max (unsigned_abs (get_or ls k d).low) (unsigned_abs (get_or ls k d).high)
given_more ls k d l = rw add-one (given_next ls k d l)

-- ---- the first number that does not fit
pub unfit_none : {X : Type 0} (quantity : Quantity) (fits : ℤ → Bool) (f : X → ℤ) (xs : List X) → None ≡ position (λ x. if fits (f x) then false else true) xs → None ≡ first_unfit quantity fits (map f xs)
unfit_none quantity fits f xs e =
    ap (option_map (λ at. Range quantity at (get_or (map f xs) at (pos 0)))) (e ∙ sym (place_of_map f (λ z. if fits z then false else true) xs))

pub unfit_some : {X : Type 0} (quantity : Quantity) (fits : ℤ → Bool) (f : X → ℤ) (xs : List X) (at : ℕ) (d : X) (z : ℤ) → Some at ≡ position (λ x. if fits (f x) then false else true) xs → z ≡ f (get_or xs at d) → Some (Range quantity at z) ≡ first_unfit quantity fits (map f xs)
unfit_some quantity fits f xs at d z e g =
    ap (λ n. Some (Range quantity at n)) (g ∙ sym (entry_of_map f xs at d (pos 0) (place_in_list (λ x. if fits (f x) then false else true) xs at (sym e))))
    ∙ ap (option_map (λ at. Range quantity at (get_or (map f xs) at (pos 0)))) (e ∙ sym (place_of_map f (λ z. if fits z then false else true) xs))
