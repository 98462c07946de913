use Rattle.std.proofs.Common.{◌≡◌, take}
use Rattle.def_writer.specs.Via.{arrays_of, by_via}
use Rattle.def_writer.proofs.via.by_via.Given as goal

abbrev pub invariant-loop-at : goal.invariant-loop-at
invariant-loop-at l = l.vias.entries ≡ by_via (arrays_of (take l.at-index l.stacks))
