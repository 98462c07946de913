-- The ordered spots.
use Rattle.std.proofs.Common.{◌≡◌, true, false, true≢false, ℤ, List, get_or, refl, sym, ap, ◌∙◌, arith}
use Rattle.std.specs.Prelude.{◌<ℤ◌, ◌≤ℤ◌}
use Rattle.std.specs.Cmp.{IsTotalOrder}
use Rattle.std.specs.List.Sorted.{IsSorted, IsPartitionedBy}
use Rattle.std.specs.Ordering.{ordering_then, ordering_reverse, nat_cmp, int_cmp, is_lt, MatchOrdering}
use Rattle.std.specs.declared.cmp.Ordering.{Ordering}
use Rattle.std.specs.declared.cmp.Ordering.TheVariants.{Less, Equal, Greater}
use Rattle.std.proofs.lemmas.Cmp.{int_ranked, nat_cmp_total, int_cmp_total, on_total, then_total, tied_itself}
use Rattle.std.proofs.lemmas.Int.{ints}
use Rattle.std.proofs.lemmas.List.Sorted.{ranks_by, sorted_far}
use Rattle.grid_pieces.specs.declared.piece.Piece.{Piece}
use Rattle.grid_network.specs.declared.spot.Spot.{Spot}
use Rattle.grid_network.specs.inside.Steps.{spot_cmp, spot_on_piece}
use Rattle.grid_network.proofs.Numbered.{nat_equal, int_equal}

spot_order : IsTotalOrder spot_cmp
spot_order = then_total (on_total (λ s. s.net) nat_cmp_total) (then_total (on_total (λ s. s.layer) nat_cmp_total) (then_total (on_total (λ s. s.across) int_cmp_total) (on_total (λ s. s.along) int_cmp_total)))

-- what is not above something below z is below z
below_back : {K : Type 0} {R : K → K → Ordering} (o : IsTotalOrder R) (x y z : K) → is_lt (R y x) ≡ false → is_lt (R y z) ≡ true → is_lt (R x z) ≡ true
below_back {K} {R} o x y z up low = by (R x y) refl (less (R y z) low)
  where
    less : (r : Ordering) → is_lt r ≡ true → r ≡ Less
    less Less h = refl
    less Equal h = absurd (true≢false (sym h))
    less Greater h = absurd (true≢false (sym h))

    by : (r : Ordering) → R x y ≡ r → R y z ≡ Less → is_lt (R x z) ≡ true
    by Less e l = ap is_lt (o.trans x y z e l)
    by Equal e l = ap is_lt (o.congr x y z e ∙ l)
    by Greater e l = absurd (true≢false (sym (ap is_lt (o.antisymm y x ∙ ap ordering_reverse e)) ∙ up))

pub parted : (limit : Spot) (spots : List Spot) → IsSorted spot_cmp spots → IsPartitionedBy (λ s. is_lt (spot_cmp s limit)) spots
parted limit spots up i j d below within low =
    below_back spot_order (get_or spots i d) (get_or spots j d) limit (sorted_far _ (ranks_by spot_order (λ s. s)) spots up i j d below within) low

-- ---- which spots lie on a piece

between : (o p q : Ordering) → is_lt (ordering_then o p) ≡ false → is_lt (ordering_then o q) ≡ true → (o ≡ Equal) × (is_lt p ≡ false) × (is_lt q ≡ true)
between Less p q up low = absurd (true≢false up)
between Equal p q up low = (refl, up, low)
between Greater p q up low = absurd (true≢false (sym low))

not_below : (x y : ℤ) → (r : Ordering) → MatchOrdering r (x <ℤ y) (x ≡ y) (y <ℤ x) → is_lt r ≡ false → y ≤ℤ x
not_below x y Less rank h = absurd (true≢false h)
not_below x y Equal rank h = omega (arith, ints, rank)
not_below x y Greater rank h = omega (arith, ints, rank)

is_below : (x y : ℤ) → (r : Ordering) → MatchOrdering r (x <ℤ y) (x ≡ y) (y <ℤ x) → is_lt r ≡ true → x <ℤ y
is_below x y Less rank h = rank
is_below x y Equal rank h = absurd (true≢false (sym h))
is_below x y Greater rank h = absurd (true≢false (sym h))

from_not_below : (x y : ℤ) → (r : Ordering) → MatchOrdering r (x <ℤ y) (x ≡ y) (y <ℤ x) → y ≤ℤ x → is_lt r ≡ false
from_not_below x y Less rank h = absurd (omega (arith, ints, rank, h))
from_not_below x y Equal rank h = refl
from_not_below x y Greater rank h = refl

from_below : (x y : ℤ) → (r : Ordering) → MatchOrdering r (x <ℤ y) (x ≡ y) (y <ℤ x) → x <ℤ y → is_lt r ≡ true
from_below x y Less rank h = refl
from_below x y Equal rank h = absurd (omega (arith, ints, rank, h))
from_below x y Greater rank h = absurd (omega (arith, ints, rank, h))

-- a spot from one place up to below another of a piece is on the piece
pub on_piece : (piece : Piece) (from end : ℤ) (s : Spot) → is_lt (spot_cmp s (spot_on_piece piece from)) ≡ false → is_lt (spot_cmp s (spot_on_piece piece end)) ≡ true
    → (s ≡ spot_on_piece piece s.along) × (from ≤ℤ s.along) × (s.along <ℤ end)
on_piece piece from end s up low =
    let one = between (nat_cmp s.net piece.net) (ordering_then (nat_cmp s.layer piece.layer) (ordering_then (int_cmp s.across piece.centre) (int_cmp s.along from))) (ordering_then (nat_cmp s.layer piece.layer) (ordering_then (int_cmp s.across piece.centre) (int_cmp s.along end))) up low in
    let two = between (nat_cmp s.layer piece.layer) (ordering_then (int_cmp s.across piece.centre) (int_cmp s.along from)) (ordering_then (int_cmp s.across piece.centre) (int_cmp s.along end)) one.1 one.2 in
    let three = between (int_cmp s.across piece.centre) (int_cmp s.along from) (int_cmp s.along end) two.1 two.2 in
    let n = nat_equal s.net piece.net one.0 in
    let l = nat_equal s.layer piece.layer two.0 in
    let a = int_equal s.across piece.centre three.0 in (
      (λ k. record { net = n k; layer = l k; across = a k; along = s.along }),
      not_below s.along from (int_cmp s.along from) (int_ranked s.along from (int_cmp s.along from) refl) three.1,
      is_below s.along end (int_cmp s.along end) (int_ranked s.along end (int_cmp s.along end) refl) three.2,
    )

-- two spots of a piece compare by their places along it
along_piece : (piece : Piece) (x y : ℤ) → spot_cmp (spot_on_piece piece x) (spot_on_piece piece y) ≡ int_cmp x y
along_piece piece x y =
    ap (λ o. ordering_then o (ordering_then (nat_cmp piece.layer piece.layer) (ordering_then (int_cmp piece.centre piece.centre) (int_cmp x y)))) (tied_itself nat_cmp_total piece.net)
    ∙ ap (λ o. ordering_then o (ordering_then (int_cmp piece.centre piece.centre) (int_cmp x y))) (tied_itself nat_cmp_total piece.layer)
    ∙ ap (λ o. ordering_then o (int_cmp x y)) (tied_itself int_cmp_total piece.centre)

pub not_before : (piece : Piece) (x from : ℤ) → from ≤ℤ x → is_lt (spot_cmp (spot_on_piece piece x) (spot_on_piece piece from)) ≡ false
not_before piece x from h = ap is_lt (along_piece piece x from) ∙ from_not_below x from (int_cmp x from) (int_ranked x from (int_cmp x from) refl) h

pub before : (piece : Piece) (x end : ℤ) → x <ℤ end → is_lt (spot_cmp (spot_on_piece piece x) (spot_on_piece piece end)) ≡ true
before piece x end h = ap is_lt (along_piece piece x end) ∙ from_below x end (int_cmp x end) (int_ranked x end (int_cmp x end) refl) h
