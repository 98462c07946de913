use Rattle.std.proofs.Common.{◌≡◌, map, take}
use Rattle.pdn_script.specs.declared.record.Domain.{Domain}
use Rattle.grid_plan.proofs.tables.domains.Given as goal

abbrev pub invariant-loop-domain : goal.invariant-loop-domain
invariant-loop-domain l = map (λ n. n.now) l.names.items ≡ map (λ (domain : Domain). domain.name) (take l.domain-index l.script.domains)
