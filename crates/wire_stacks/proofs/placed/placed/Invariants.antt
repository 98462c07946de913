use Rattle.std.proofs.Common.{◌≡◌, ℕ, length, slice_get, Some}
use Rattle.wire_chains.specs.declared.via.ViaAt.{ViaAt}
use Rattle.wire_names.specs.declared.record.Spot.{Spot}
use Rattle.wire_stacks.specs.Vias.{IsViaAt}
use Rattle.wire_stacks.proofs.placed.placed.Given as goal

abbrev pub invariant-loop-place : goal.invariant-loop-place
invariant-loop-place l = (length l.placed.items ≡ l.place) × ((k : ℕ) (spot : Spot) (at : ViaAt) → slice_get l.spots k ≡ Some spot → slice_get l.placed.items k ≡ Some at → IsViaAt l.vias l.lines k spot at)
