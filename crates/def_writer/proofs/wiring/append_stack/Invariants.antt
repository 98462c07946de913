use Rattle.std.proofs.Common.{◌≡◌, ◌++◌, map, take}
use Rattle.std.specs.List.{enumerate_from}
use Rattle.def_writer.specs.Line.{text_of}
use Rattle.def_writer.specs.Wiring.{array_words, wiring_lines}
use Rattle.def_writer.proofs.wiring.append_stack.Given as goal

abbrev pub invariant-loop-level : goal.invariant-loop-level
invariant-loop-level l =
    l.out.items ≡ l.initial.out.items ++ text_of (wiring_lines l.first (map (array_words l.tech (l.at.x, l.at.y)) (enumerate_from l.at.stack.from (take l.level l.at.stack.arrays))))
