use Rattle.std.proofs.Common.{◌≡◌, take, None}
use Rattle.grid_plan.specs.Unknown.{unknown_of_domains}
use Rattle.grid_plan.specs.inside.Tables.{names_in}
use Rattle.grid_plan.proofs.resolve.of_domains.Given as goal

abbrev pub invariant-loop-domain : goal.invariant-loop-domain
invariant-loop-domain l = unknown_of_domains (names_in l.tables) (take l.domain-index l.domains) ≡ None
