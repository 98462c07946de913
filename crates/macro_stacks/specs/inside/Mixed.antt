-- Horizontal pieces of one list with vertical ones of another.
use Rattle.std.specs.Prelude.{Bool, true, false, List, ◌++◌}
use Rattle.std.specs.List.{filter}
use Rattle.geom_rect.specs.declared.direction.Axis.{Axis}
use Rattle.geom_rect.specs.declared.direction.Axis.TheVariants.{X, Y}
use Rattle.grid_pieces.specs.declared.piece.Piece.{Piece}

-- Whether two axes are one.
abbrev pub is_axis : Axis → Axis → Bool
is_axis X X = true
is_axis Y Y = true
is_axis X Y = false
is_axis Y X = false

-- Whether a piece goes along the axis.
abbrev pub goes : Axis → Piece → Bool
goes axis piece = is_axis axis piece.axis

-- The horizontal pieces of the first list, and then the vertical ones of the second.
abbrev pub mixed : List Piece → List Piece → List Piece
mixed flat upright = filter (goes X) flat ++ filter (goes Y) upright
