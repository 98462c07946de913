use Rattle.std.proofs.Common.{List, All, map, sym, subst, ◌∙◌}
use Rattle.pdn_script.specs.declared.record.Domain.{Domain}
use Rattle.block_grids.specs.declared.block.BlockAt.{BlockAt}
use Rattle.block_grids.specs.declared.halo.Halo.{Halo}
use Rattle.placed_blocks.specs.inside.Near.{HaloKeeps, AtKeeps}
use Rattle.placed_blocks.proofs.Halos.{are_halos, all_keep}
use Rattle.placed_blocks.proofs.Keeping.{blocks_keep}
use Rattle.placed_blocks.proofs.placing.placed_blocks.Goals as goal

pub place_all-requires-clause-halos : goal.place_all-requires-clause-halos
place_all-requires-clause-halos c = are_halos c.args.design.now.units c.args.script.now.grids c.args.halos.now c.requires.halos

pub place_all-requires-clause-small : goal.place_all-requires-clause-small
place_all-requires-clause-small c = subst (λ (halos : List Halo). All HaloKeeps halos)
    (sym (are_halos c.args.design.now.units c.args.script.now.grids c.args.halos.now c.requires.halos))
    (all_keep c.args.design.now.units (map (λ (domain : Domain). domain.name) c.args.script.now.domains) c.args.script.now.grids
    (c.requires.design.some_units, c.requires.design.units) c.requires.script.grids)

pub place_all-requires-clause-ats : goal.place_all-requires-clause-ats
place_all-requires-clause-ats c = subst (λ (ats : List BlockAt). All AtKeeps ats) (sym (c.deref.ensures.value ∙ c.in_ok-ats.ensures))
    (blocks_keep c.args.cells.now c.args.design.now c.args.script.now c.requires.design)
