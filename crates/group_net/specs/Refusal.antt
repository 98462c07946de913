-- What refuses to merge a network.
use Rattle.std.specs.Prelude.{⊤, ℕ, List}
use Rattle.grid_net.specs.Network.{Network}
use Rattle.group_net.specs.declared.merge.GroupError.{GroupError}
use Rattle.group_net.specs.declared.merge.GroupError.TheVariants.{PadConflict, Want}
use Rattle.group_net.specs.Merging.{IsConflict}

-- A conflict is told only where it stands; memory may always be wanting.
abbrev pub IsRefusal : Network → List (ℕ × ℕ) → GroupError → Type 0
IsRefusal net shorts (PadConflict node first second) = IsConflict net shorts node first second
IsRefusal net shorts Want = ⊤
