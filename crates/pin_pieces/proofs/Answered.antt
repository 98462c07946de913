-- The pairs of all blocks, in order.
use Rattle.std.proofs.Common.{◌↔◌, List, Contains, get_or, ap}
use Rattle.std.specs.List.Sorted.{IsStrictlySortedBy}
use Rattle.std.specs.Ordering.{is_lt}
use Rattle.std.proofs.lemmas.List.Elements.{All-contains_itself}
use Rattle.std.proofs.lemmas.Map.Keys.{Less-from_sorted}
use Rattle.lef_tech.specs.declared.tech.Tech.{Tech}
use Rattle.grid_pieces.specs.declared.grid.DomainAt.{DomainAt}
use Rattle.grid_pieces.specs.declared.piece.Piece.{Piece}
use Rattle.placed_blocks.specs.declared.block.PlacedBlock.{PlacedBlock}
use Rattle.pin_shapes.specs.Pins.{block_pins}
use Rattle.pin_pieces.specs.Pins.{IsPinPiece, pin_order, ArePinPieces}
use Rattle.pin_pieces.specs.declared.pin.PinPiece.{PinPiece}
use Rattle.pin_pieces.specs.inside.Steps.{Adds, ListsAll, OfAny, IsOnShape}
use Rattle.pin_pieces.proofs.Growing.{adds_same}

-- what a block gives
abbrev pub OfBlock : Tech → List DomainAt → List Piece → PlacedBlock → PinPiece → Type 0
OfBlock tech domains pieces block = OfAny (IsOnShape block.component pieces) (block_pins tech domains block)

pub of_blocks : (tech : Tech) (domains : List DomainAt) (blocks : List PlacedBlock) (pieces : List Piece) (old new : List PinPiece)
    → Adds (OfAny (OfBlock tech domains pieces) blocks) old new → Adds (IsPinPiece tech domains blocks pieces) old new
of_blocks tech domains blocks pieces old new =
    adds_same (OfAny (OfBlock tech domains pieces) blocks) (IsPinPiece tech domains blocks pieces) old new
    (λ pin h. record {
      block = h.0;
      is_block = h.1;
      component = h.2.2.component_is;
      piece = h.2.2.piece;
      is_piece = h.2.2.at;
      bears = (h.2.0, h.2.1, h.2.2.shares);
    })
    (λ pin h. (
      h.block,
      h.is_block,
      (h.bears.0, h.bears.1, record { component_is = h.component; piece = h.piece; at = h.is_piece; shares = h.bears.2 }),
    ))

pub answered : (tech : Tech) (domains : List DomainAt) (blocks : List PlacedBlock) (pieces : List Piece) (all pins : List PinPiece)
    → ListsAll (IsPinPiece tech domains blocks pieces) all → ((pin : PinPiece) → Contains pins pin ↔ Contains all pin) → IsStrictlySortedBy pin_order pins
    → ArePinPieces tech domains blocks pieces pins
answered tech domains blocks pieces all pins lists same sorted = record {
  each = λ k d within. (lists (get_or pins k d)).0 ((same (get_or pins k d)).0 (All-contains_itself pins k d within));
  every = λ pin is. (same pin).1 ((lists pin).1 is);
  in_order = λ i j d less within. ap is_lt (Less-from_sorted pin_order pins i j d sorted less within);
}
