use Rattle.std.proofs.Common.{◌≡◌, fold, take}
use Rattle.def_writer.specs.Via.{with_array}
use Rattle.def_writer.proofs.via.add_arrays.Given as goal

abbrev pub invariant-loop-array : goal.invariant-loop-array
invariant-loop-array l = l.vias.entries ≡ fold with_array l.initial.vias.entries (take l.array-index l.arrays)
