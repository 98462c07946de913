use Rattle.std.proofs.Common.{Bool, List, All, length, sym, subst, ap, ◌∙◌}
use Rattle.block_rects.specs.Limits.{PartKeeps, ObstructionKeeps}
use Rattle.block_rects.specs.declared.part.Obstruction.{Obstruction}
use Rattle.block_rects.specs.declared.part.PinPart.{PinPart}
use Rattle.placed_blocks.proofs.Macros.{as_many}
use Rattle.placed_blocks.proofs.Outlines.{outline_keeps}
use Rattle.placed_blocks.proofs.placing.place_one.Goals as goal

pub returns-clause-keeps : goal.returns-clause-keeps
returns-clause-keeps c = record {
  outline = outline_keeps c.outline_of-outline.result c.outline_of-outline.ensures.outline;
  grown = c.grown_by.ensures.keeps;
  pins = subst (λ (pins : List PinPart). All (PartKeeps c.args.tech.now) pins) (sym c.new.ensures) c.in_ok-pins.ensures.keep;
  obstructions = subst (λ (all : List Obstruction). All ObstructionKeeps all) (sym c.new-2.ensures) c.in_ok-obstructions.ensures.keep;
  cuts = ap (λ (cuts : List Bool). length cuts) (c.new-3.ensures ∙ c.in_ok-cuts.ensures)
      ∙ as_many c.args.tech.now c.args.script.now c.args.at.grid c.deref.result.now c.deref-2.result.now;
}
