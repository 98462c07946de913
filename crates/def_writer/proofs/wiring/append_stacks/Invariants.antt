use Rattle.std.proofs.Common.{◌≡◌, ◌++◌, length, take, ◌&&◌}
use Rattle.std.specs.Prelude.{◌==◌}
use Rattle.std.specs.List.{flat_map}
use Rattle.def_writer.specs.Line.{text_of}
use Rattle.def_writer.specs.Wiring.{stack_words, wiring_lines}
use Rattle.def_writer.proofs.wiring.append_stacks.Given as goal

-- The lines of the stacks before this one are written, and the next line is the first where none was before.
abbrev pub invariant-loop-at : goal.invariant-loop-at
invariant-loop-at l = record {
  written : l.out.items ≡ l.fn.out.items ++ text_of (wiring_lines l.initial.first (flat_map (stack_words l.tech) (take l.at-index l.stacks)));
  first : l.first ≡ (l.initial.first && (length (flat_map (stack_words l.tech) (take l.at-index l.stacks)) == 0));
}
