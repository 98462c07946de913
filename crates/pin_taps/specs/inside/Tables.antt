-- What the pieces that feed a block are found by.
use Rattle.std.specs.Prelude.{◌≡◌, ℕ, pos, Bool, List, map, filter}
use Rattle.geom_rect.specs.declared.rect.Rect.{Rect}
use Rattle.grid_network.specs.Drawing.{piece_at}
use Rattle.grid_pieces.specs.declared.grid.Grid.{Grid}
use Rattle.grid_pieces.specs.declared.piece.StackAt.{StackAt}
use Rattle.macro_grid.specs.declared.record.MacroGrid.{MacroGrid}
use Rattle.pin_pieces.specs.declared.pin.PinPiece.{PinPiece}
use Rattle.rect_index.specs.declared.entry.Entry.{Entry}
use Rattle.pin_taps.specs.declared.ends.Ends.{Ends}
use Rattle.pin_taps.specs.Fed.{point, has_stack_end}

-- The ends of a stack, found by its net and its place.
abbrev pub stack_entry : StackAt → Entry Ends
stack_entry stack =
    record { group = stack.net; rect = point stack.x stack.y; item = record { from = stack.stack.from; to = stack.stack.to } }

-- A piece with metal of a pin, found by its component and its net.
abbrev pub net_point : ℕ → Rect
net_point net = point (pos net) (pos 0)

abbrev pub pin_entry : Grid → PinPiece → Entry ℕ
pin_entry grid pin =
    record { group = pin.component; rect = net_point (piece_at grid.pieces pin.piece).net; item = pin.piece }

-- One that a stack joins to the grid.
abbrev pub is_joined : Grid → PinPiece → Bool
is_joined grid pin = has_stack_end grid.stacks (piece_at grid.pieces pin.piece)

abbrev pub AreFeeding : MacroGrid → List (Entry ℕ) → Type 0
AreFeeding drawn entries = entries ≡ map (pin_entry drawn.grid) (filter (is_joined drawn.grid) drawn.pins)
