use Rattle.std.proofs.Common.{◌≡◌, ℕ, length, slice_get, List, Some}
use Rattle.wire_chains.specs.declared.via.ViaAt.{ViaAt}
use Rattle.wire_stacks.specs.declared.made.Made.{Made}
use Rattle.wire_stacks.specs.inside.Made.{IsMade}
use Rattle.wire_stacks.proofs.made.all_made.Given as goal

abbrev pub invariant-loop-place : goal.invariant-loop-place
invariant-loop-place l = (length l.made.items ≡ l.place) × ((k : ℕ) (chain : List ViaAt) (one : Made) → slice_get l.chains k ≡ Some chain → slice_get l.made.items k ≡ Some one → IsMade l.tech l.vias chain k one)
