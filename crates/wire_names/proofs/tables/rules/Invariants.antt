use Rattle.std.proofs.Common.{◌≡◌, take, map}
use Rattle.lef_tech.specs.declared.rule.ViaRule.{ViaRule}
use Rattle.wire_names.proofs.tables.rules.Given as goal

abbrev pub invariant-loop-rule : goal.invariant-loop-rule
invariant-loop-rule l = map (λ n. n.now) l.names.items ≡ map (λ (rule : ViaRule). rule.name) (take l.rule-index l.tech.rules)
