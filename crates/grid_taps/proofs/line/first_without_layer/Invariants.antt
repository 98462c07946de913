use Rattle.std.proofs.Common.{take}
use Rattle.bias_file.specs.declared.record.PadAt.{PadAt}
use Rattle.grid_taps.specs.Naming.{IsFirst, IsUnknown}
use Rattle.grid_taps.specs.inside.Steps.{NumberAmong}
use Rattle.grid_taps.proofs.line.first_without_layer.Given as goal

abbrev pub invariant-loop-pad : goal.invariant-loop-pad
invariant-loop-pad l = IsFirst (NumberAmong (λ (p : PadAt). p.line) (λ (p : PadAt). IsUnknown l.layers p.layer) (take l.pad-index l.pads)) l.first
