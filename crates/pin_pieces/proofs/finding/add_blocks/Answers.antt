use Rattle.std.proofs.Common.{List, sym, ◌∙◌, subst}
use Rattle.geom_rect.specs.declared.drawn.Drawn.{Drawn}
use Rattle.placed_blocks.specs.declared.block.PlacedBlock.{PlacedBlock}
use Rattle.placed_blocks.specs.Limits.{BlockKeeps}
use Rattle.pin_pieces.specs.declared.pin.PinPiece.{PinPiece}
use Rattle.pin_pieces.specs.inside.Steps.{Adds, OfAny, IsOnShape}
use Rattle.pin_pieces.proofs.Growing.{over_more, over_all}
use Rattle.pin_pieces.proofs.Answered.{OfBlock, of_blocks}
use Rattle.pin_pieces.proofs.finding.add_blocks.Goals as goal

pub block_pins-requires : goal.block_pins-requires
block_pins-requires c =
    subst (BlockKeeps c.args.tech.now) (sym c.block-item.is) (c.requires.blocks c.loop-block.block-index c.block-item.result c.loop-block-test.true)

pub loop-block-preserved : goal.loop-block-preserved
loop-block-preserved c =
    let tech = c.args.tech.now in
    let domains = c.args.domains.now in
    let pieces = c.args.pieces.now in
    let block : PlacedBlock = c.block-item.result in
    let mid : List PinPiece = c.loop-block.pins.items in
    let new : List PinPiece = c.add_shapes.new.pins.items in
    let added : Adds (OfBlock tech domains pieces block) mid new =
    subst (λ (shapes : List Drawn). Adds (OfAny (IsOnShape block.component pieces) shapes) mid new) (c.deref.ensures.value ∙ c.in_ok-shapes.ensures.shapes) c.in_ok-add_shapes.ensures in
    over_more (OfBlock tech domains pieces) c.args.blocks.now c.loop-block.block-index block c.args.pins.now.items mid new c.loop-block-test.true c.loop-block.invariant
    (subst (λ (b : PlacedBlock). Adds (OfBlock tech domains pieces b) mid new) c.block-item.is added)

pub returns : goal.returns
returns c =
    let gives = OfBlock c.args.tech.now c.args.domains.now c.args.pieces.now in
    of_blocks c.args.tech.now c.args.domains.now c.args.blocks.now c.args.pieces.now c.args.pins.now.items c.loop-block.pins.items
    (over_all gives c.args.blocks.now c.loop-block.block-index c.args.pins.now.items c.loop-block.pins.items c.loop-block-test.false c.loop-block.invariant)
