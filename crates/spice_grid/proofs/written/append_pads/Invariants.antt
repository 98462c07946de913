use Rattle.std.proofs.Common.{◌≡◌, ◌++◌, take}
use Rattle.std.specs.List.{flat_map, enumerate_from}
use Rattle.spice_grid.specs.Written.{pad_line}
use Rattle.spice_grid.proofs.written.append_pads.Given as goal

abbrev pub invariant-loop-place : goal.invariant-loop-place
invariant-loop-place l = l.out.items ≡ l.initial.out.items ++ flat_map (pad_line l.names) (enumerate_from 1 (take l.place l.pads))
