-- What refuses to merge a netlist.
use Rattle.std.specs.Prelude.{◌≡◌, ⊤, ℕ, [], slice_index_or}
use Rattle.spice_grid.specs.declared.named.Named.{Named}
use Rattle.group_net.specs.Merging.{IsConflict}
use Rattle.short_merge.specs.declared.merged.MergeError.{MergeError}
use Rattle.short_merge.specs.declared.merged.MergeError.TheVariants.{PadConflict, Want}

-- Two pads of one group differ, and the group is told by its name; or memory was wanting, which may always be.
abbrev pub IsMergeRefusal : Named → MergeError → Type 0
IsMergeRefusal named (PadConflict name first second) =
    (node : ℕ) × IsConflict named.net named.shorts node first second × (name ≡ slice_index_or named.names node [])
IsMergeRefusal named Want = ⊤
