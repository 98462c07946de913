-- The loads of nodes, as a list has them, drawn out of their groups.
use Rattle.std.specs.Prelude.{ℕ, pos, List, slice_index, slice_index_or}
use Rattle.grid_net.specs.declared.part.Load.{Load}
use Rattle.grid_net.specs.declared.part.LoadRange.{LoadRange}

abbrev pub load_at : List LoadRange → List ℕ → ℕ → Load
load_at loads group i =
    let range : LoadRange = slice_index_or loads i (record { low = pos 0; high = pos 0 }) in
    record { node = slice_index group i; low = range.low; high = range.high }
