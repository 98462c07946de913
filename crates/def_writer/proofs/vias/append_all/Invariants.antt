use Rattle.std.proofs.Common.{◌≡◌, ◌++◌, map, All}
use Rattle.std.specs.BTreeMap.{values}
use Rattle.def_writer.specs.Limits.{ArrayFits}
use Rattle.def_writer.specs.Line.{text_of}
use Rattle.def_writer.specs.Via.{via_line}
use Rattle.def_writer.proofs.vias.append_all.Given as goal

-- What is written, and the lines of the vias that are left.
abbrev pub invariant-loop-array : goal.invariant-loop-array
invariant-loop-array l = record {
  written : l.out.items ++ text_of (map (via_line l.tech) l.array-iterator) ≡ l.initial.out.items ++ text_of (map (via_line l.tech) (values l.vias));
  left : All (ArrayFits l.tech) l.array-iterator;
}
