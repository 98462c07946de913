-- Pieces line by line, and how far they reach.
use Rattle.std.specs.Prelude.{◌≡◌, ℕ, ℤ, pos, ◌<◌, ◌≤◌, ◌≤ℤ◌, false, List, AllPairs, length, slice_index_or}
use Rattle.std.specs.declared.cmp.Ordering.{Ordering}
use Rattle.std.specs.Ordering.{nat_cmp, int_cmp, bool_cmp, ordering_then, is_gt}
use Rattle.geom_rect.specs.declared.direction.Axis.{Axis}
use Rattle.geom_rect.specs.declared.direction.Axis.TheVariants.{X}
use Rattle.geom_rect.specs.declared.drawn.Shape.TheVariants.{Ring, Stripe}
use Rattle.grid_pieces.specs.declared.piece.Piece.{Piece}
use Rattle.grid_pieces.specs.Piece.{Among}
use Rattle.wire_pieces.specs.Pieces.{is_upright}
use Rattle.wire_pieces.specs.Centre.{along_of, across_of}

-- A place as a piece along an axis, without a cell and without width.
abbrev pub point_of : ℕ → ℕ → Axis → ℤ → ℤ → Piece
point_of net layer axis x y = record {
  net = net;
  layer = layer;
  axis = axis;
  centre = across_of axis x y;
  width = pos 0;
  from = along_of axis x y;
  to = along_of axis x y;
  shape = Stripe;
}

-- Lines by net, layer, axis and centre.
abbrev pub line_order : Piece → Piece → Ordering
line_order a b = ordering_then
    (ordering_then (ordering_then (nat_cmp a.net b.net) (nat_cmp a.layer b.layer))
    (bool_cmp (is_upright a.axis) (is_upright b.axis))) (int_cmp a.centre b.centre)

-- Pieces by line and start.
abbrev pub reach_order : Piece → Piece → Ordering
reach_order a b = ordering_then (line_order a b) (int_cmp a.from b.from)

-- The pieces of each line stand together, rising.
abbrev pub AreByLine : List Piece → Type 0
AreByLine pieces = AllPairs (λ (a b : Piece). is_gt (reach_order a b) ≡ false) pieces

-- Two pieces lie on one line, their widths aside.
pub record AreAlike (one other : Piece) : Type 0 where
  pub net : one.net ≡ other.net
  pub layer : one.layer ≡ other.layer
  pub axis : is_upright one.axis ≡ is_upright other.axis
  pub centre : one.centre ≡ other.centre

-- The point lies on the centre line of a piece along its axis.
abbrev pub IsOnAxis : List Piece → Piece → Type 0
IsOnAxis pieces point =
    Among (λ (p : Piece). AreAlike p point × (p.from ≤ℤ point.from) × (point.from ≤ℤ p.to)) pieces

-- The piece at a place of the list; beyond its end one without metal.
abbrev pub piece_of : List Piece → ℕ → Piece
piece_of pieces k = slice_index_or pieces k
    (record { net = 0; layer = 0; axis = X; centre = pos 0; width = pos 0; from = pos 0; to = pos 0; shape = Ring })

-- How far the pieces reach that lie on the line of the piece at a place and do not come after it.
pub record IsReach (pieces : List Piece) (k : ℕ) (reach : ℤ) : Type 0 where
  pub some : (j : ℕ) × (j ≤ k) × AreAlike (piece_of pieces j) (piece_of pieces k) × ((piece_of pieces j).to ≡ reach)
  pub most : (j : ℕ) → j ≤ k → AreAlike (piece_of pieces j) (piece_of pieces k) → (piece_of pieces j).to ≤ℤ reach

-- That of each of them.
pub record AreReaches (pieces : List Piece) (reaches : List ℤ) : Type 0 where
  pub as_many : length reaches ≡ length pieces
  pub each : (k : ℕ) → k < length pieces → IsReach pieces k (slice_index_or reaches k (pos 0))

-- That of those before a place.
pub record AreReachesTo (pieces : List Piece) (reaches : List ℤ) (at : ℕ) : Type 0 where
  pub long : length reaches ≡ at
  pub each : (k : ℕ) → k < at → IsReach pieces k (slice_index_or reaches k (pos 0))
