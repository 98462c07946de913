use Rattle.std.proofs.Common.{take}
use Rattle.entry_list.specs.InTurn.{InTurn}
use Rattle.grid_plan.specs.Resolved.{IsDomainAt}
use Rattle.grid_plan.specs.inside.Tables.{names_in}
use Rattle.grid_plan.proofs.domains.domains.Given as goal

abbrev pub invariant-loop-domain : goal.invariant-loop-domain
invariant-loop-domain l = InTurn (IsDomainAt (names_in l.tables) l.nets l.design) (take l.domain-index l.script.domains) l.domains.items
