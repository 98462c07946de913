use Rattle.std.proofs.Common.{◌≡◌, List, Option, map, ap, ◌∙◌, subst}
use Rattle.geom_rect.specs.declared.rect.Rect.{Rect}
use Rattle.grid_pieces.specs.declared.grid.DomainAt.{DomainAt}
use Rattle.grid_plan.specs.Keeping.{plan_regions}
use Rattle.placed_blocks.specs.Placed.{ArePlacedBlocks}
use Rattle.macro_grid.proofs.laying.placed_in.Goals as goal

pub returns-clause-blocks : goal.returns-clause-blocks
returns-clause-blocks c =
    let are : c.deref.result.now ≡ plan_regions c.args.plan.now =
    c.deref.ensures.value ∙ c.in_ok-regions.ensures ∙ ap (λ (ds : List DomainAt). map (λ (d : DomainAt). d.region) ds) c.as_slice.ensures in
    subst (λ (rs : List (Option Rect)). ArePlacedBlocks c.args.tech.now c.args.cells.now c.args.blocks.now c.args.design.now c.args.script.now rs c.in_ok-placed.placed.items)
    are c.in_ok-placed.ensures.blocks
