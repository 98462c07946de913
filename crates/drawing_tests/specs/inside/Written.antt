-- What the tests build, inside this crate.
use Rattle.std.specs.Prelude.{◌≡◌, ℕ, ℤ, ◌<◌, ◌≤◌, All, length}
use Rattle.grid_pieces.specs.declared.grid.Grid.{Grid}
use Rattle.grid_pieces.specs.declared.piece.Piece.{Piece}
use Rattle.grid_pieces.specs.declared.piece.StackAt.{StackAt}
use Rattle.grid_pieces.specs.Limits.{PieceKeeps}
use Rattle.lef_tech.specs.declared.tech.Tech.{Tech}
use Rattle.def_writer.specs.Limits.{GridFits, StackFits}
use Rattle.wiring_file.specs.Written.{IsNear}
use Rattle.written_wiring.specs.Fits.{StackReads}

-- A stack of this net and place from the first layer up, which fits each technology of so many layers and rules.
pub record IsSmallStack (net : ℕ) (x y : ℤ) (at : StackAt) : Type 0 where
  pub of_net : at.net ≡ net
  pub at_x : at.x ≡ x
  pub at_y : at.y ≡ y
  pub lowest : at.stack.from ≡ 0
  pub fits : (tech : Tech) → 4 ≤ length tech.routing → 3 ≤ length tech.rules → StackFits tech at
  pub reads : IsNear x → IsNear y → StackReads at

-- A grid that fits each technology of so many layers and rules, and whose numbers may stand in their places.
pub record IsSmallGrid (grid : Grid) : Type 0 where
  pub fits : (tech : Tech) → 4 ≤ length tech.routing → 3 ≤ length tech.rules → GridFits tech grid
  pub pieces : All PieceKeeps grid.pieces
  pub stacks : All StackReads grid.stacks
  pub piece_nets : All (λ (p : Piece). p.net < length grid.nets) grid.pieces
  pub stack_nets : All (λ (at : StackAt). at.net < length grid.nets) grid.stacks
