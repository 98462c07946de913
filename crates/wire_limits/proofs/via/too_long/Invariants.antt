use Rattle.std.proofs.Common.{◌≡◌, ◌<◌, ℕ, slice_get, Some}
use Rattle.wire_names.specs.declared.record.NamedVia.{NamedVia}
use Rattle.wire_limits.specs.Vias.{IsUsed, HasSize}
use Rattle.wire_limits.proofs.via.too_long.Given as goal

abbrev pub invariant-loop-place : goal.invariant-loop-place
invariant-loop-place l = (k : ℕ) (other : NamedVia) → k < l.place → slice_get l.vias k ≡ Some other → IsUsed l.spots k → HasSize other
