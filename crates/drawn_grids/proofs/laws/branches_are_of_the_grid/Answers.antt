use Rattle.drawn_grids.proofs.Joined.{branches_are}
use Rattle.drawn_grids.proofs.laws.branches_are_of_the_grid.Goals as goal

pub returns : goal.returns
returns s = record {
  branches = λ tech grid connects blocks units e keeps is_units pieces stacks is.
      branches_are tech grid connects blocks units keeps is_units pieces stacks e is;
}
