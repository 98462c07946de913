-- Blocks in their places have one list of pieces, and one list of pieces with metal of their pins.
use Rattle.std.proofs.Common.{◌≡◌, true, List, subst, sym, ◌∙◌}
use Rattle.std.specs.Cmp.{IsTotalOrder}
use Rattle.std.specs.Ordering.{is_lt}
use Rattle.std.proofs.lemmas.Bool.{false≢true}
use Rattle.std.proofs.lemmas.Cmp.{nat_cmp_total, on_total, then_total}
use Rattle.std.proofs.lemmas.List.Elements.{All-contains}
use Rattle.std.proofs.lemmas.List.Sorted.{ranks_by}
use Rattle.geom_rect.specs.declared.drawn.Drawn.{Drawn}
use Rattle.lef_tech.specs.declared.tech.Tech.{Tech}
use Rattle.grid_pieces.specs.declared.grid.DomainAt.{DomainAt}
use Rattle.grid_pieces.specs.declared.piece.Piece.{Piece}
use Rattle.grid_pieces.specs.Piece.{ArePieces}
use Rattle.grid_plan.specs.declared.record.Plan.{Plan}
use Rattle.placed_blocks.specs.declared.block.PlacedBlock.{PlacedBlock}
use Rattle.pin_shapes.specs.Pins.{pin_shapes}
use Rattle.pin_pieces.specs.declared.pin.PinPiece.{PinPiece}
use Rattle.pin_pieces.specs.Pins.{IsPinPiece, ArePinPieces, pin_order}
use Rattle.macro_grid.specs.Drawing.{all_blocks, AreMacroPieces}
use Rattle.one_drawing.specs.Laws.Listed.{same_list}
use Rattle.one_drawing.specs.Laws.Pieced.{one_pieces}
use Rattle.one_macro_grid.proofs.Merged.{one_merged}
use Rattle.one_macro_grid.proofs.Shaped.{OneCut, one_macro_shapes}

-- The pieces of straps, rails and rings, and all pieces.
pub one_macro_pieces : OneCut → (tech : Tech) (plan : Plan) (placed : List PlacedBlock) (straps straps' pieces pieces' : List Piece) → AreMacroPieces tech plan placed straps pieces
    → AreMacroPieces tech plan placed straps' pieces' → (straps ≡ straps') × (pieces ≡ pieces')
one_macro_pieces cut tech plan placed straps straps' pieces pieces' x y =
    let shapes : x.shapes ≡ y.shapes = one_macro_shapes cut plan placed x.shapes y.shapes x.are_shapes y.are_shapes in
    let of_shapes : ArePieces y.shapes (all_blocks tech plan placed) straps = subst (λ (s : List Drawn). ArePieces s (all_blocks tech plan placed) straps) shapes x.are_straps in
    let same : straps ≡ straps' = one_pieces y.shapes (all_blocks tech plan placed) straps straps' of_shapes y.are_straps in
    let pins : x.pins ≡ y.pins = one_pieces (pin_shapes tech plan.domains placed) plan.blocks x.pins y.pins x.are_pins y.are_pins in
    (same, one_merged straps straps' x.pins y.pins pieces pieces' same pins x.merged y.merged)

-- ## pieces with metal of pins

pin_total : IsTotalOrder pin_order
pin_total = then_total (on_total (λ (p : PinPiece). p.component) nat_cmp_total) (on_total (λ (p : PinPiece). p.piece) nat_cmp_total)

pins_one_way : (a b : PinPiece) → is_lt (pin_order a b) ≡ true → is_lt (pin_order b a) ≡ true → ⊥
pins_one_way a b there back = false≢true (sym ((ranks_by pin_total (λ (p : PinPiece). p)).one_way a b there) ∙ back)

pub one_pins : (tech : Tech) (domains : List DomainAt) (blocks : List PlacedBlock) (pieces : List Piece) (a b : List PinPiece) → ArePinPieces tech domains blocks pieces a
    → ArePinPieces tech domains blocks pieces b → a ≡ b
one_pins tech domains blocks pieces a b x y =
    same_list (λ (p q : PinPiece). is_lt (pin_order p q) ≡ true) pins_one_way a b x.in_order y.in_order
    (λ pin has. y.every pin (All-contains (IsPinPiece tech domains blocks pieces) a pin x.each has)) (λ pin has. x.every pin (All-contains (IsPinPiece tech domains blocks pieces) b pin y.each has))
