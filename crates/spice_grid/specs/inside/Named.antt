-- The error of a network, inside this crate.
use Rattle.std.specs.Prelude.{ℕ, List, Some}
use Rattle.grid_net.specs.declared.error.NetError.{NetError}
use Rattle.spice_grid.specs.declared.error.SpiceKind.{SpiceKind}
use Rattle.spice_grid.specs.declared.error.SpiceKind.TheVariants.{Net, Want}
use Rattle.spice_grid.specs.Named.{IsRefusedFor}

-- The error of a network is told so, where its nodes have these names; want of memory aside.
abbrev pub IsToldAs : List (List ℕ) → NetError → SpiceKind → Type 0
IsToldAs names error (Net refusal) = IsRefusedFor names (Some error) refusal
IsToldAs names error Want = Unit {0}
IsToldAs names error _ = ⊥
