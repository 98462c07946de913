use Rattle.std.proofs.Common.{◌≡◌, ◌++◌, map, take}
use Rattle.std.specs.Prelude.{true}
use Rattle.def_writer.specs.Line.{text_of}
use Rattle.def_writer.specs.Wiring.{piece_words, wiring_lines}
use Rattle.def_writer.proofs.wiring.append_pieces.Given as goal

abbrev pub invariant-loop-place : goal.invariant-loop-place
invariant-loop-place l = l.out.items ≡ l.initial.out.items ++ text_of (wiring_lines true (map (piece_words l.tech) (take l.place l.pieces)))
