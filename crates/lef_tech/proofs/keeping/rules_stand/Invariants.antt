use Rattle.std.proofs.Common.{All, take}
use Rattle.lef_tech.specs.inside.Looks.{LayersStand}
use Rattle.lef_tech.proofs.keeping.rules_stand.Given as goal

abbrev pub invariant-loop-rule : goal.invariant-loop-rule
invariant-loop-rule l = All (LayersStand l.tech) (take l.rule-index l.rules)
