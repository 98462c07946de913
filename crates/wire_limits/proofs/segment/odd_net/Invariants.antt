use Rattle.std.proofs.Common.{◌≡◌, ◌<◌, ℕ, slice_get, Some}
use Rattle.def_wiring.specs.declared.record.WiredNet.{WiredNet}
use Rattle.wire_limits.specs.Segments.{AreEven}
use Rattle.wire_limits.proofs.segment.odd_net.Given as goal

abbrev pub invariant-loop-place : goal.invariant-loop-place
invariant-loop-place l = (k : ℕ) (other : WiredNet) → k < l.place → slice_get l.nets k ≡ Some other → AreEven other
