-- The widest of rails.
use Rattle.std.proofs.Common.{◌≡◌, ℕ, ◌+◌, ◌<◌, ℤ, Bool, true, false, cond, List, [], ◌∷◌, ◌++◌, All, filter, take, length, get_or, refl, ap, ◌∙◌, arith}
use Rattle.std.specs.Int.{int_max}
use Rattle.std.proofs.lemmas.Int.{ints, clamps}
use Rattle.std.proofs.lemmas.List.{append-nil}
use Rattle.std.proofs.lemmas.List.Elements.{filter_more, All-head, All-tail}
use Rattle.grid_plan.specs.Keeping.{IsLineWidth}
use Rattle.grid_plan.specs.declared.record.Rails.{Rails}
use Rattle.grid_shapes.specs.Site.{widest}
use Rattle.grid_shapes.specs.inside.Sites.{IsEvenWidth}

exchanged : (a b c : ℤ) → int_max a (int_max b c) ≡ int_max b (int_max a c)
exchanged a b c = omega (arith, ints, clamps)

widest_push : (xs : List Rails) (y : Rails) → widest (xs ++ y ∷ []) ≡ int_max y.width (widest xs)
widest_push [] y = refl
widest_push (x ∷ xs) y = ap (int_max x.width) (widest_push xs y) ∙ exchanged x.width y.width (widest xs)

pub widest_more : (p : Rails → Bool) (xs : List Rails) (i : ℕ) (d : Rails) → i < length xs → p (get_or xs i d) ≡ true
    → widest (filter p (take (i + 1) xs)) ≡ int_max (get_or xs i d).width (widest (filter p (take i xs)))
widest_more p xs i d within passes =
    ap widest (filter_more p xs i d within ∙ ap (λ b. filter p (take i xs) ++ cond b (get_or xs i d ∷ []) []) passes)
    ∙ widest_push (filter p (take i xs)) (get_or xs i d)

pub widest_kept : (p : Rails → Bool) (xs : List Rails) (i : ℕ) (d : Rails) → i < length xs → p (get_or xs i d) ≡ false
    → widest (filter p (take (i + 1) xs)) ≡ widest (filter p (take i xs))
widest_kept p xs i d within fails =
    ap widest (filter_more p xs i d within ∙ ap (λ b. filter p (take i xs) ++ cond b (get_or xs i d ∷ []) []) fails ∙ append-nil (filter p (take i xs)))

-- The widest is one of them, or 0.
chosen : (P : ℤ → Type 0) (b : Bool) (x y : ℤ) → P x → P y → P (cond b x y)
chosen P true x y px py = px
chosen P false x y px py = py

pub even_from : (z : ℤ) → IsLineWidth z → IsEvenWidth z
even_from z h = let low = h.0.0 in ((omega (arith, ints), h.1), h.0.1)

pub widest_even : (xs : List Rails) → All (λ (r : Rails). IsLineWidth r.width) xs → IsEvenWidth (widest xs)
widest_even [] all = ((omega (arith, ints), omega (arith, ints)), refl)
widest_even (x ∷ xs) all =
    chosen IsEvenWidth _ x.width (widest xs) (even_from x.width (All-head (λ (r : Rails). IsLineWidth r.width) x xs all))
    (widest_even xs (All-tail (λ (r : Rails). IsLineWidth r.width) x xs all))
