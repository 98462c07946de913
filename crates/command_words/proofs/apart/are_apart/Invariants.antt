use Rattle.std.proofs.Common.{take}
use Rattle.command_words.specs.Words.{AreApart}
use Rattle.command_words.specs.inside.Split.{texts}
use Rattle.command_words.proofs.apart.are_apart.Given as goal

abbrev pub invariant-loop-at : goal.invariant-loop-at
invariant-loop-at l = AreApart (texts (take l.at l.names))
