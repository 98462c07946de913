use Rattle.std.proofs.Common.{◌≡◌, map, take}
use Rattle.lef_tech.specs.declared.layer.CutLayer.{CutLayer}
use Rattle.block_rects.proofs.names.cut_names.Given as goal

abbrev pub invariant-loop-layer : goal.invariant-loop-layer
invariant-loop-layer l = map (λ n. n.now) l.names.items ≡ map (λ (layer : CutLayer). layer.name) (take l.layer-index l.tech.cuts)
