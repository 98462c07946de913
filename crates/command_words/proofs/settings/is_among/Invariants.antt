use Rattle.std.proofs.Common.{take, Contains}
use Rattle.command_words.specs.inside.Split.{texts}
use Rattle.command_words.proofs.settings.is_among.Given as goal

abbrev pub invariant-loop-other : goal.invariant-loop-other
invariant-loop-other l = Contains (texts (take l.other-index l.words)) l.word → ⊥
