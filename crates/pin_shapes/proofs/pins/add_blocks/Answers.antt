use Rattle.std.proofs.Common.{◌≡◌, ◌++◌, sym, subst}
use Rattle.placed_blocks.specs.declared.block.PlacedBlock.{PlacedBlock}
use Rattle.placed_blocks.specs.Limits.{BlockKeeps}
use Rattle.pin_shapes.specs.Pins.{block_pins}
use Rattle.pin_shapes.proofs.Keeping.{flat_more}
use Rattle.pin_shapes.proofs.pins.add_blocks.Goals as goal

pub add_block-requires : goal.add_block-requires
add_block-requires c =
    subst (BlockKeeps c.args.tech.now) (sym c.block-item.is) (c.requires c.loop-block.block-index c.block-item.result c.loop-block-test.true)

pub loop-block-preserved : goal.loop-block-preserved
loop-block-preserved c =
    let pins = block_pins c.args.tech.now c.args.domains.now in
    let before = c.loop-block.shapes.items in
    let after = c.add_block.new.shapes.items in
    flat_more pins c.args.blocks.now c.loop-block.block-index c.block-item.result c.args.shapes.now.items before after c.loop-block-test.true c.loop-block.invariant
    (subst (λ (block : PlacedBlock). after ≡ before ++ pins block) c.block-item.is c.in_ok-add_block.ensures)
