use Rattle.std.proofs.Common.{◌≡◌, ◌<◌, ℕ, slice_get, Some}
use Rattle.def_wiring.specs.declared.record.Segment.{Segment}
use Rattle.wire_limits.specs.Segments.{IsEven}
use Rattle.wire_limits.proofs.segment.odd_width.Given as goal

abbrev pub invariant-loop-segment : goal.invariant-loop-segment
invariant-loop-segment l = (k : ℕ) (other : Segment) → k < l.segment-index → slice_get l.segments k ≡ Some other → IsEven other
