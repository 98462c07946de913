-- What is left of the refusals of a build where every limit is kept, and how it is told.
use Rattle.std.specs.Prelude.{◌≡◌, ⊤, ℕ, ◌<◌, List, slice_index}
use Rattle.grid_net.specs.declared.error.NetError.{NetError}
use Rattle.grid_net.specs.declared.error.NetError.TheVariants.{BadEnd, Range, PadConflict as NetPadConflict, Want as NetWant}
use Rattle.group_net.specs.declared.merge.GroupError.{GroupError}
use Rattle.group_net.specs.declared.merge.GroupError.TheVariants.{PadConflict, Want}

-- Pads of a node below a count differ, or memory was wanting.
abbrev pub IsLeft : NetError → ℕ → Type 0
IsLeft (BadEnd at) count = ⊥
IsLeft (Range quantity at number) count = ⊥
IsLeft (NetPadConflict node first second) count = node < count
IsLeft NetWant count = ⊤

-- The same refusal, with the first node of a group in the place of its number.
abbrev pub AsTold : NetError → List ℕ → GroupError → Type 0
AsTold (NetPadConflict number first second) firsts told = told ≡ PadConflict (slice_index firsts number) first second
AsTold NetWant firsts told = told ≡ Want
AsTold (BadEnd at) firsts told = ⊥
AsTold (Range quantity at number) firsts told = ⊥
