-- What is asked of a grid that is written.
use Rattle.std.specs.Prelude.{◌≡◌, ◌+◌, ◌<◌, ◌≤◌, ◌^◌, false, ℤ, pos, ◌≤ℤ◌, All, AllPairs, length}
use Rattle.std.specs.Ordering.{nat_cmp, int_cmp, ordering_then, is_gt}
use Rattle.std.specs.declared.cmp.Ordering.{Ordering}
use Rattle.grid_pieces.specs.declared.grid.Grid.{Grid}
use Rattle.grid_pieces.specs.declared.piece.Piece.{Piece}
use Rattle.grid_pieces.specs.declared.piece.StackAt.{StackAt}
use Rattle.grid_pieces.specs.Piece.{piece_order}
use Rattle.lef_tech.specs.declared.tech.Tech.{Tech}
use Rattle.via_arrays.specs.declared.parts.CutArray.{CutArray}

-- A cut is at most as wide as its pitch, which is at most 2 ^ 40.
abbrev pub PitchKeeps : ℤ → ℤ → Type 0
PitchKeeps cut pitch = (pos 0 ≤ℤ cut) × (cut ≤ℤ pitch) × (pitch ≤ℤ pos (2 ^ 40))

-- The rule of an array stands in the technology.
pub record ArrayFits (tech : Tech) (array : CutArray) : Type 0 where
  pub rule : array.rule < length tech.rules
  pub in_x : PitchKeeps array.cut_x array.pitch_x
  pub in_y : PitchKeeps array.cut_y array.pitch_y

-- The layers that a stack's arrays join stand in the technology.
pub record StackFits (tech : Tech) (at : StackAt) : Type 0 where
  pub arrays : All (ArrayFits tech) at.stack.arrays
  pub layers : at.stack.from + length at.stack.arrays ≤ length tech.routing

-- Stacks are compared by net, x, y and lowest layer, in turn.
abbrev pub stack_order : StackAt → StackAt → Ordering
stack_order a b = ordering_then
    (ordering_then (ordering_then (nat_cmp a.net b.net) (int_cmp a.x b.x)) (int_cmp a.y b.y)) (nat_cmp a.stack.from b.stack.from)

-- Each net is a power net or is none. Pieces are in the order of net, layer, centre, start and width, stacks in that of
-- net, x, y and lowest layer. The layers and rules that they name stand in the technology.
pub record GridFits (tech : Tech) (grid : Grid) : Type 0 where
  pub power : length grid.power ≡ length grid.nets
  pub pieces : AllPairs (λ (a b : Piece). is_gt (piece_order a b) ≡ false) grid.pieces
  pub stacks : AllPairs (λ (a b : StackAt). is_gt (stack_order a b) ≡ false) grid.stacks
  pub layers : All (λ (p : Piece). p.layer < length tech.routing) grid.pieces
  pub arrays : All (StackFits tech) grid.stacks
