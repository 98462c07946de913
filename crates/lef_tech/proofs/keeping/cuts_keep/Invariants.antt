use Rattle.std.proofs.Common.{All, take}
use Rattle.lef_tech.specs.inside.Looks.{CutDensityKeeps}
use Rattle.lef_tech.proofs.keeping.cuts_keep.Given as goal

abbrev pub invariant-loop-layer : goal.invariant-loop-layer
invariant-loop-layer l = All CutDensityKeeps (take l.layer-index l.layers)
