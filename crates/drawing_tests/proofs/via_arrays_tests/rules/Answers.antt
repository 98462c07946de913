use Rattle.std.proofs.Common.{IfSome, Option, subst}
use Rattle.lef_tech.specs.declared.rule.ViaRule.{ViaRule}
use Rattle.drawing_tests.specs.inside.Arrays.{RuleFits}
use Rattle.drawing_tests.proofs.Arrays.{three_rules}
use Rattle.drawing_tests.proofs.via_arrays_tests.rules.Goals as goal

pub returns : goal.returns
returns c =
    three_rules c.in-Some.first c.in-Some-2.second c.in-Some-3.third c.in_ok-vec.field-0.items c.in_ok-vec.ensures.items
    (subst (λ (o : Option ViaRule). IfSome o RuleFits) c.in-Some.is c.in_ok-first.ensures)
    (subst (λ (o : Option ViaRule). IfSome o RuleFits) c.in-Some-2.is c.in_ok-second.ensures)
    (subst (λ (o : Option ViaRule). IfSome o RuleFits) c.in-Some-3.is c.in_ok-third.ensures)
