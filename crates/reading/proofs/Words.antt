-- The last word of a unit.
use Rattle.std.proofs.Common.{◌≡◌, ℕ, zero, suc, ◌+◌, ◌-◌, List, [], ◌∷◌, length, map, slice_get, Option, Some, None, IfSome, Bor, sym, ap, arith}
use Rattle.std.specs.Option.{option_copied}
use Rattle.reading.specs.declared.word.Word.{Word}
use Rattle.reading.specs.declared.word.Heard.{Heard}
use Rattle.reading.specs.Word.{token, heard_token, last_of}

last-at : (xs : List Word) (n : ℕ) (w : Word) → n + 1 ≡ length xs → slice_get xs n ≡ Some w → last_of (map token xs) ≡ Some (token w)
last-at [] n w h e = cc
last-at (x ∷ []) zero w h e = let same : x ≡ w = cc in ap (λ z. Some (token z)) same
last-at (x ∷ []) (suc n) w h e = absurd (omega arith)
last-at (x ∷ y ∷ xs) zero w h e = absurd (omega arith)
last-at (x ∷ y ∷ xs) (suc n) w h e = last-at (y ∷ xs) n w (omega arith) e

last-is : (xs : List Word) (w : Word) → slice_get xs (length xs - 1) ≡ Some w → last_of (map token xs) ≡ Some (token w)
last-is [] w e = cc
last-is (x ∷ xs) w e = last-at (x ∷ xs) (length (x ∷ xs) - 1) w (omega arith) e

pub last-found : (xs : List Word) (r : Option (Bor Word)) → option_copied r ≡ slice_get xs (length xs - 1) → IfSome r (λ w. last_of (map token xs) ≡ Some (token w.now))
last-found xs None e = tt
last-found xs (Some w) e = last-is xs w.now (sym e)

heard-last-at : {V : Type 0} (xs : List (Heard V)) (n : ℕ) (w : Heard V) → n + 1 ≡ length xs → slice_get xs n ≡ Some w → last_of (map heard_token xs) ≡ Some (heard_token w)
heard-last-at [] n w h e = cc
heard-last-at {V} (x ∷ []) zero w h e = let same : x ≡ w = cc in ap (λ (z : Heard V). Some (heard_token z)) same
heard-last-at (x ∷ []) (suc n) w h e = absurd (omega arith)
heard-last-at (x ∷ y ∷ xs) zero w h e = absurd (omega arith)
heard-last-at (x ∷ y ∷ xs) (suc n) w h e = heard-last-at (y ∷ xs) n w (omega arith) e

heard-last-is : {V : Type 0} (xs : List (Heard V)) (w : Heard V) → slice_get xs (length xs - 1) ≡ Some w → last_of (map heard_token xs) ≡ Some (heard_token w)
heard-last-is [] w e = cc
heard-last-is (x ∷ xs) w e = heard-last-at (x ∷ xs) (length (x ∷ xs) - 1) w (omega arith) e

pub heard-last-found : {V : Type 0} (xs : List (Heard V)) (r : Option (Bor (Heard V))) → option_copied r ≡ slice_get xs (length xs - 1) → IfSome r (λ w. last_of (map heard_token xs) ≡ Some (heard_token w.now))
heard-last-found xs None e = tt
heard-last-found xs (Some w) e = heard-last-is xs w.now (sym e)
