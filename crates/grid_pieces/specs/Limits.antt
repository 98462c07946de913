-- What is asked of the shapes, pieces and stacks of a grid.
use Rattle.std.specs.Prelude.{◌≡◌, ℤ, pos, ◌≤ℤ◌, ◌<ℤ◌, ◌^◌, List, Contains}
use Rattle.geom_rect.specs.Rect.{IsInOrder, HasCoordinates}
use Rattle.geom_rect.specs.declared.drawn.Drawn.{Drawn}
use Rattle.grid_pieces.specs.declared.piece.Piece.{Piece}
use Rattle.grid_pieces.specs.declared.piece.StackAt.{StackAt}
use Rattle.geom_rect.specs.Drawn.{centred}
use Rattle.grid_pieces.specs.Line.{piece_rect}

-- A width is from 2 to 2 ^ 32 - 2.
abbrev pub WidthKeeps : ℤ → Type 0
WidthKeeps width = (pos 2 ≤ℤ width) × (width <ℤ pos (2 ^ 32))

-- Edges lie within 2 ^ 61 of 0.
abbrev pub DrawnKeeps : Drawn → Type 0
DrawnKeeps d = WidthKeeps d.width × HasCoordinates (centred d.axis d.centre d.width d.from d.to)

abbrev pub PieceKeeps : Piece → Type 0
PieceKeeps p = WidthKeeps p.width × (p.from <ℤ p.to) × HasCoordinates (piece_rect p)

abbrev pub StackKeeps : StackAt → Type 0
StackKeeps s = IsInOrder s.crossing

-- The shapes of one layer have one axis.
abbrev pub OneAxis : List Drawn → Type 0
OneAxis shapes = (a b : Drawn) → Contains shapes a → Contains shapes b → a.layer ≡ b.layer → a.axis ≡ b.axis
