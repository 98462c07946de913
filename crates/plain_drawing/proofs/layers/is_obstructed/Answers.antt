use Rattle.std.proofs.Common.{pos, sym, ◌∙◌}
use Rattle.std.proofs.lemmas.Bool.{false≢true}
use Rattle.lef_tech.specs.declared.layer.LayerRef.TheVariants.{Routing}
use Rattle.grid_pieces.specs.declared.piece.Block.{Block}
use Rattle.plain_drawing.proofs.Sited.{obstructed_more, obstructed_none}
use Rattle.plain_drawing.proofs.layers.is_obstructed.Goals as goal

nothing : Block
nothing = record { layer = Routing 0; plain = record { x1 = pos 0; y1 = pos 0; x2 = pos 0; y2 = pos 0 }; grown = record { x1 = pos 0; y1 = pos 0; x2 = pos 0; y2 = pos 0 } }

pub loop-block-preserved : goal.loop-block-preserved
unfolding nothing
loop-block-preserved c =
    obstructed_more c.args.tech.now c.args.connect c.args.blocks.now c.args.rect c.loop-block.block-index nothing c.loop-block-test.true c.loop-block.invariant
    (λ obstructs. false≢true (sym c.if-obstructs.false ∙ c.obstructs.ensures.1 obstructs))

pub returns : goal.returns
returns c =
    (λ is. absurd (false≢true is), λ among. absurd (obstructed_none c.args.tech.now c.args.connect c.args.blocks.now c.args.rect c.loop-block.block-index c.loop-block-test.false c.loop-block.invariant among))
