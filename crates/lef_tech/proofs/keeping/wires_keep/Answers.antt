use Rattle.std.proofs.Common.{All, subst, arith}
use Rattle.std.proofs.lemmas.List.{take_all}
use Rattle.std.proofs.lemmas.List.Elements.{All-more}
use Rattle.lef_tech.specs.declared.layer.RoutingLayer.{RoutingLayer}
use Rattle.lef_tech.specs.inside.Looks.{WireDensityKeeps}
use Rattle.lef_tech.proofs.keeping.wires_keep.Goals as goal

pub loop-layer-preserved : goal.loop-layer-preserved
loop-layer-preserved c =
    All-more WireDensityKeeps c.args.layers.now c.loop-layer.layer-index c.layer-item.result (omega (arith, c.loop-layer-test.true)) c.loop-layer.invariant
    (subst (λ (z : RoutingLayer). WireDensityKeeps z) c.layer-item.is (c.wire_keeps.ensures c.if-not-wire_keeps.false))

pub returns : goal.returns
returns c = λ t. subst (λ z. All WireDensityKeeps z) (take_all c.loop-layer.layer-index c.args.layers.now (omega (arith, c.loop-layer-test.false))) c.loop-layer.invariant
