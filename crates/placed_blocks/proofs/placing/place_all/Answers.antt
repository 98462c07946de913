use Rattle.std.proofs.Common.{◌+◌, pos, List, All, take, None, sym, subst}
use Rattle.std.proofs.lemmas.List.Elements.{All-push}
use Rattle.geom_rect.specs.declared.direction.Orient.TheVariants.{N}
use Rattle.entry_list.specs.InTurn.{InTurn}
use Rattle.block_grids.specs.declared.block.BlockAt.{BlockAt}
use Rattle.placed_blocks.specs.declared.block.PlacedBlock.{PlacedBlock}
use Rattle.placed_blocks.specs.Limits.{BlockKeeps}
use Rattle.placed_blocks.specs.Placed.{IsPlacedBlock}
use Rattle.placed_blocks.proofs.Steps.{turn_more}
use Rattle.placed_blocks.proofs.placing.place_all.Goals as goal

-- What a read past a list gives.
abbrev nothing : BlockAt
nothing = record { component = 0; cell = 0; x = pos 0; y = pos 0; orient = N; grid = None }

pub loop-at-preserved : goal.loop-at-preserved
loop-at-preserved c =
    let says = IsPlacedBlock c.args.tech.now c.args.cells.now c.args.blocks.now c.args.script.now c.args.units c.args.regions.now in
    let at = c.loop-at.at-index in
    record {
      blocks = subst (λ (placed : List PlacedBlock). InTurn says (take (at + 1) c.args.ats.now) placed) (sym c.in_ok-push.ensures.items)
          (turn_more says c.args.ats.now c.loop-at.placed.items at nothing c.in_ok-block.block c.loop-at-test.true c.loop-at.invariant.blocks c.in_ok-block.ensures.block);
      keep = subst (λ (placed : List PlacedBlock). All (BlockKeeps c.args.tech.now) placed) (sym c.in_ok-push.ensures.items)
          (All-push (BlockKeeps c.args.tech.now) c.loop-at.placed.items c.in_ok-block.block c.loop-at.invariant.keep c.in_ok-block.ensures.keeps);
    }
