use Rattle.std.proofs.Common.{All, subst, arith}
use Rattle.std.proofs.lemmas.List.{take_all}
use Rattle.std.proofs.lemmas.List.Elements.{All-more}
use Rattle.lef_tech.specs.declared.layer.CutLayer.{CutLayer}
use Rattle.lef_tech.specs.inside.Looks.{CutDensityKeeps}
use Rattle.lef_tech.proofs.keeping.cuts_keep.Goals as goal

pub loop-layer-preserved : goal.loop-layer-preserved
loop-layer-preserved c =
    All-more CutDensityKeeps c.args.layers.now c.loop-layer.layer-index c.layer-item.result (omega (arith, c.loop-layer-test.true)) c.loop-layer.invariant
    (subst (λ (z : CutLayer). CutDensityKeeps z) c.layer-item.is (c.cut_keeps.ensures c.if-not-cut_keeps.false))

pub returns : goal.returns
returns c = λ t. subst (λ z. All CutDensityKeeps z) (take_all c.loop-layer.layer-index c.args.layers.now (omega (arith, c.loop-layer-test.false))) c.loop-layer.invariant
