use Rattle.std.proofs.Common.{take}
use Rattle.entry_list.specs.InTurn.{InTurn}
use Rattle.grid_limits.specs.Limits.{IsBranchLimit}
use Rattle.grid_limits.proofs.branch.branch_limits.Given as goal

abbrev pub invariant-loop-branch : goal.invariant-loop-branch
invariant-loop-branch l = InTurn (IsBranchLimit l.tech l.grid) (take l.branch-index l.branches) l.limits.items
