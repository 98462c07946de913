-- The pieces of a grid that have metal of pins of blocks (LEF/DEF 5.8 Language Reference, "MACRO", PIN and PORT).
use Rattle.std.specs.Prelude.{◌≡◌, ℤ, true, List, All, AllPairs, Contains}
use Rattle.std.specs.Ordering.{nat_cmp, ordering_then, is_lt}
use Rattle.std.specs.declared.cmp.Ordering.{Ordering}
use Rattle.geom_rect.specs.Run.{HasCell}
use Rattle.geom_rect.specs.Drawn.{drawn_run}
use Rattle.geom_rect.specs.declared.drawn.Drawn.{Drawn}
use Rattle.lef_tech.specs.declared.tech.Tech.{Tech}
use Rattle.grid_pieces.specs.Line.{drawn_line, piece_line, piece_run}
use Rattle.grid_pieces.specs.Piece.{Among}
use Rattle.grid_pieces.specs.declared.grid.DomainAt.{DomainAt}
use Rattle.grid_pieces.specs.declared.piece.Piece.{Piece}
use Rattle.grid_stacks.specs.Crossing.{At}
use Rattle.placed_blocks.specs.declared.block.PlacedBlock.{PlacedBlock}
use Rattle.pin_shapes.specs.Pins.{block_pins}
use Rattle.pin_pieces.specs.declared.pin.PinPiece.{PinPiece}

-- A shape and a piece lie on one line and have a cell in common.
abbrev pub ShareCell : Piece → Drawn → Type 0
ShareCell piece shape = (drawn_line shape ≡ piece_line piece)
    × ((t : ℤ) × HasCell (piece_run piece) t × HasCell (drawn_run shape) t)

-- The piece has metal of a pin of the block.
abbrev pub BearsPin : Tech → List DomainAt → PlacedBlock → Piece → Type 0
BearsPin tech domains block piece = Among (ShareCell piece) (block_pins tech domains block)

-- The piece with this number has metal of a pin of the block that the component is.
pub record IsPinPiece (tech : Tech) (domains : List DomainAt) (blocks : List PlacedBlock) (pieces : List Piece)
    (pin : PinPiece) : Type 0 where
  pub block : PlacedBlock
  pub is_block : Contains blocks block
  pub component : block.component ≡ pin.component
  pub piece : Piece
  pub is_piece : At pieces pin.piece piece
  pub bears : BearsPin tech domains block piece

-- They are compared by component and then by piece.
abbrev pub pin_order : PinPiece → PinPiece → Ordering
pin_order a b = ordering_then (nat_cmp a.component b.component) (nat_cmp a.piece b.piece)

-- All of them, each once and in order.
pub record ArePinPieces (tech : Tech) (domains : List DomainAt) (blocks : List PlacedBlock) (pieces : List Piece)
    (pins : List PinPiece) : Type 0 where
  pub each : All (IsPinPiece tech domains blocks pieces) pins
  pub every : (pin : PinPiece) → IsPinPiece tech domains blocks pieces pin → Contains pins pin
  pub in_order : AllPairs (λ a b. is_lt (pin_order a b) ≡ true) pins
