use Rattle.std.proofs.Common.{◌≡◌, ◌<◌, ℕ, slice_get, Some}
use Rattle.geom_rect.specs.declared.drawn.Drawn.{Drawn}
use Rattle.wire_limits.specs.Segments.{HasSheet}
use Rattle.wire_limits.proofs.segment.bare_layer.Given as goal

abbrev pub invariant-loop-shape : goal.invariant-loop-shape
invariant-loop-shape l = (k : ℕ) (other : Drawn) → k < l.shape-index → slice_get l.shapes k ≡ Some other → HasSheet l.tech other
