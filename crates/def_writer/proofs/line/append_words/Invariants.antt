use Rattle.std.proofs.Common.{◌≡◌, ◌++◌, map, take}
use Rattle.std.specs.Prelude.{◌==◌}
use Rattle.def_writer.specs.inside.Line.{spaced}
use Rattle.def_writer.proofs.line.append_words.Given as goal

-- The words before this one are written.
abbrev pub invariant-loop-word : goal.invariant-loop-word
invariant-loop-word l = record {
  written : l.out.items ≡ l.initial.out.items ++ spaced (map (λ word. word.now) (take l.word-index l.words));
  first : l.first ≡ (l.word-index == 0);
}
