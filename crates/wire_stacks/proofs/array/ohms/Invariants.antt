use Rattle.std.proofs.Common.{◌≡◌, ℕ, length, slice_get, Some}
use Rattle.wire_chains.specs.declared.via.ViaAt.{ViaAt}
use Rattle.via_arrays.specs.Pairs.{HasResistance}
use Rattle.wire_stacks.specs.Vias.{via_at, array_of}
use Rattle.wire_stacks.proofs.array.ohms.Given as goal

abbrev pub invariant-loop-via : goal.invariant-loop-via
invariant-loop-via l = (length l.ohms.items ≡ l.via-index) × ((k : ℕ) (via : ViaAt) (r : ℕ) → slice_get l.chain k ≡ Some via → slice_get l.ohms.items k ≡ Some r → HasResistance l.tech (via_at l.vias via.via).rule (array_of (via_at l.vias via.via)) r)
