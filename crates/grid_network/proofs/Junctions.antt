-- The junctions in order.
use Rattle.std.proofs.Common.{◌≡◌, ℕ, ◌+◌, ◌<◌, ◌≤◌, ℤ, List, length, get_or, refl, subst, arith}
use Rattle.std.specs.Prelude.{◌<ℤ◌}
use Rattle.std.specs.List.Sorted.{IsStrictlySortedBy}
use Rattle.std.specs.Ordering.{ordering_then, nat_cmp, int_cmp, MatchOrdering}
use Rattle.std.specs.declared.cmp.Ordering.{Ordering}
use Rattle.std.specs.declared.cmp.Ordering.TheVariants.{Less, Equal, Greater}
use Rattle.std.proofs.lemmas.Cmp.{ranked, int_ranked}
use Rattle.std.proofs.lemmas.Map.Keys.{Less-from_sorted}
use Rattle.grid_network.specs.declared.junction.Junction.{Junction}
use Rattle.grid_network.specs.inside.Steps.{junction_cmp}

below_along : (x y : ℤ) → int_cmp x y ≡ Less → x <ℤ y
below_along x y e = let F : Ordering → Type 0 = λ r. MatchOrdering r (x <ℤ y) (x ≡ y) (y <ℤ x) in subst F e (int_ranked x y (int_cmp x y) refl)

less_along : (p q : ℕ) (x y : ℤ) → p ≡ q → (o : Ordering) → MatchOrdering o (p < q) (p ≡ q) (q < p) → ordering_then o (int_cmp x y) ≡ Less → x <ℤ y
less_along p q x y e Less rank h = absurd (omega arith)
less_along p q x y e Equal rank h = below_along x y h
less_along p q x y e Greater rank h = absurd (cc)

-- of two junctions of one piece that follow on each other the first lies before the second
pub rises : (js : List Junction) (i : ℕ) (d : Junction) → IsStrictlySortedBy junction_cmp js → i + 1 < length js
    → (get_or js i d).piece ≡ (get_or js (i + 1) d).piece → (get_or js i d).along <ℤ (get_or js (i + 1) d).along
rises js i d up within one =
    less_along (get_or js i d).piece (get_or js (i + 1) d).piece (get_or js i d).along (get_or js (i + 1) d).along one
    (nat_cmp (get_or js i d).piece (get_or js (i + 1) d).piece) (ranked (get_or js i d).piece (get_or js (i + 1) d).piece (nat_cmp (get_or js i d).piece (get_or js (i + 1) d).piece) refl)
    (Less-from_sorted junction_cmp js i (i + 1) d up (omega arith) within)

-- the same of any two junctions
pub lies_before : (js : List Junction) (i j : ℕ) (d : Junction) → IsStrictlySortedBy junction_cmp js → i < j → j < length js
    → (get_or js i d).piece ≡ (get_or js j d).piece → (get_or js i d).along <ℤ (get_or js j d).along
lies_before js i j d up below within one =
    less_along (get_or js i d).piece (get_or js j d).piece (get_or js i d).along (get_or js j d).along one
    (nat_cmp (get_or js i d).piece (get_or js j d).piece) (ranked (get_or js i d).piece (get_or js j d).piece (nat_cmp (get_or js i d).piece (get_or js j d).piece) refl)
    (Less-from_sorted junction_cmp js i j d up below within)

piece_first : (p q : ℕ) (r : Ordering) (o : Ordering) → MatchOrdering o (p < q) (p ≡ q) (q < p) → ordering_then o r ≡ Less → p ≤ q
piece_first p q r Less rank h = omega (arith, rank)
piece_first p q r Equal rank h = omega (arith, rank)
piece_first p q r Greater rank h = absurd (cc)

-- pieces do not fall
pub pieces_rise : (js : List Junction) (i j : ℕ) (d : Junction) → IsStrictlySortedBy junction_cmp js → i < j → j < length js → (get_or js i d).piece ≤ (get_or js j d).piece
pieces_rise js i j d up below within =
    piece_first (get_or js i d).piece (get_or js j d).piece (int_cmp (get_or js i d).along (get_or js j d).along)
    (nat_cmp (get_or js i d).piece (get_or js j d).piece) (ranked (get_or js i d).piece (get_or js j d).piece (nat_cmp (get_or js i d).piece (get_or js j d).piece) refl)
    (Less-from_sorted junction_cmp js i j d up below within)
