use Rattle.std.proofs.Common.{◌≡◌, take, map}
use Rattle.wire_chains.specs.declared.via.ViaAt.{ViaAt}
use Rattle.wire_stacks.specs.Vias.{via_at, array_of}
use Rattle.wire_stacks.proofs.array.arrays.Given as goal

abbrev pub invariant-loop-via : goal.invariant-loop-via
invariant-loop-via l = l.arrays.items ≡ map (λ (via : ViaAt). array_of (via_at l.vias via.via)) (take l.via-index l.chain)
