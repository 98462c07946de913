use Rattle.one_wired_grid.proofs.Refused.{names_of_grid}
use Rattle.one_wired_grid.proofs.laws.wired_grids_have_names.Goals as goal

pub returns : goal.returns
returns s = record { nets = names_of_grid }
