use Rattle.std.proofs.Common.{All, take}
use Rattle.lef_tech.specs.inside.Looks.{WireDensityKeeps}
use Rattle.lef_tech.proofs.keeping.wires_keep.Given as goal

abbrev pub invariant-loop-layer : goal.invariant-loop-layer
invariant-loop-layer l = All WireDensityKeeps (take l.layer-index l.layers)
