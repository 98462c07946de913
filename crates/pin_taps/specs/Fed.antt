-- Which pieces feed a block: those with metal of its pins that a stack joins to the grid (LEF/DEF 5.8 Language Reference, "MACRO",
-- PIN and PORT; OpenROAD PDN manual, add_pdn_connect).
use Rattle.std.specs.Prelude.{ℕ, ℤ, Bool, ◌==◌, ◌&&◌, ◌||◌, List, map, filter}
use Rattle.std.specs.List.{list_any}
use Rattle.geom_rect.specs.declared.direction.Axis.{Axis}
use Rattle.geom_rect.specs.declared.direction.Axis.TheVariants.{X, Y}
use Rattle.geom_rect.specs.declared.rect.Rect.{Rect}
use Rattle.grid_network.specs.Drawing.{piece_at}
use Rattle.grid_pieces.specs.declared.grid.Grid.{Grid}
use Rattle.grid_pieces.specs.declared.piece.Piece.{Piece}
use Rattle.grid_pieces.specs.declared.piece.StackAt.{StackAt}
use Rattle.macro_grid.specs.declared.record.MacroGrid.{MacroGrid}
use Rattle.pin_pieces.specs.declared.pin.PinPiece.{PinPiece}
use Rattle.rect_index.specs.Entry.{touches}

-- The centre line of a piece, and a point, as rectangles that are flat.
abbrev pub line_along : Axis → ℤ → ℤ → ℤ → Rect
line_along X centre from to = record { x1 = from; y1 = centre; x2 = to; y2 = centre }
line_along Y centre from to = record { x1 = centre; y1 = from; x2 = centre; y2 = to }

abbrev pub centre_line : Piece → Rect
centre_line piece = line_along piece.axis piece.centre piece.from piece.to

abbrev pub point : ℤ → ℤ → Rect
point x y = record { x1 = x; y1 = y; x2 = x; y2 = y }

-- The lowest or the highest layer of the stack is this one.
abbrev pub ends_on_layer : StackAt → ℕ → Bool
ends_on_layer stack layer = (stack.stack.from == layer) || (stack.stack.to == layer)

-- The stack has an end on the piece: it is of its net, stands on its centre line, the ends of the line included, and its lowest or
-- its highest layer is that of the piece.
abbrev pub ends_on : Piece → StackAt → Bool
ends_on piece stack =
    ((stack.net == piece.net) && touches (centre_line piece) (point stack.x stack.y)) && ends_on_layer stack piece.layer

abbrev pub has_stack_end : List StackAt → Piece → Bool
has_stack_end stacks piece = list_any (ends_on piece) stacks

-- The piece with metal of a pin feeds a net of the block that the component with this number is.
abbrev pub feeds : Grid → ℕ → ℕ → PinPiece → Bool
feeds grid component net pin = ((pin.component == component) && ((piece_at grid.pieces pin.piece).net == net))
    && has_stack_end grid.stacks (piece_at grid.pieces pin.piece)

-- The numbers of the pieces that feed a net of a block, in their order.
abbrev pub feeding : MacroGrid → ℕ → ℕ → List ℕ
feeding drawn component net = map (λ (pin : PinPiece). pin.piece) (filter (feeds drawn.grid component net) drawn.pins)
