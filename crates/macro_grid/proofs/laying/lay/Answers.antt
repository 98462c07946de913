use Rattle.std.proofs.Common.{List, sym, subst}
use Rattle.entry_list.specs.InTurn.{InTurn}
use Rattle.block_grids.specs.declared.halo.Halo.{Halo}
use Rattle.block_grids.specs.Halo.{HasHalo}
use Rattle.macro_grid.proofs.laying.lay.Goals as goal

pub placed_in-requires-clause-halos : goal.placed_in-requires-clause-halos
placed_in-requires-clause-halos c =
    subst (λ (hs : List Halo). InTurn (HasHalo c.args.design.now.units) c.args.script.now.grids hs) (sym c.deref.ensures.value) c.in_ok-halos.ensures.halos
