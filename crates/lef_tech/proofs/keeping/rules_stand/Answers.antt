use Rattle.std.proofs.Common.{All, subst, arith}
use Rattle.std.proofs.lemmas.List.{take_all}
use Rattle.std.proofs.lemmas.List.Elements.{All-more}
use Rattle.lef_tech.specs.declared.rule.ViaRule.{ViaRule}
use Rattle.lef_tech.specs.inside.Looks.{LayersStand}
use Rattle.lef_tech.proofs.keeping.rules_stand.Goals as goal

pub loop-rule-preserved : goal.loop-rule-preserved
loop-rule-preserved c =
    All-more (LayersStand c.args.tech.now) c.args.rules.now c.loop-rule.rule-index c.rule-item.result (omega (arith, c.loop-rule-test.true)) c.loop-rule.invariant
    (subst (λ (z : ViaRule). LayersStand c.args.tech.now z) c.rule-item.is (c.layers_stand.ensures c.if-not-layers_stand.false))

pub returns : goal.returns
returns c = λ t. subst (λ z. All (LayersStand c.args.tech.now) z) (take_all c.loop-rule.rule-index c.args.rules.now (omega (arith, c.loop-rule-test.false))) c.loop-rule.invariant
