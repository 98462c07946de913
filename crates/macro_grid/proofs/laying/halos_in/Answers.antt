use Rattle.macro_grid.proofs.Halos.{none_bad, bad_told}
use Rattle.macro_grid.proofs.laying.halos_in.Goals as goal

pub returns-in-Ok-clause-none : goal.returns-in-Ok-clause-none
returns-in-Ok-clause-none c = none_bad c.args.units 0 c.args.script.now.grids c.in-Ok.halos.items c.in-Ok.ensures

pub returns-in-Err-Halo-clause-refused : goal.returns-in-Err-Halo-clause-refused
returns-in-Err-Halo-clause-refused c = bad_told c.args.units c.in-Err-Halo.grid c.args.script.now (rw c.in-Err-Halo.field-0-is at c.in-Err-Halo.ensures)
