use Rattle.std.proofs.Common.{take}
use Rattle.grid_plan.specs.Names.{HaveNets}
use Rattle.name_table.specs.Numbering.{AreDistinct}
use Rattle.grid_plan.proofs.nets.net_table.Given as goal

abbrev pub invariant-loop-domain : goal.invariant-loop-domain
invariant-loop-domain l = AreDistinct l.table × HaveNets (take l.domain-index l.domains) l.table
