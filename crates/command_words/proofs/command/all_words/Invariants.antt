use Rattle.std.proofs.Common.{◌≡◌, take}
use Rattle.command_words.specs.inside.Split.{texts}
use Rattle.command_words.proofs.command.all_words.Given as goal

abbrev pub invariant-loop-at : goal.invariant-loop-at
invariant-loop-at l = texts l.all.items ≡ take l.at l.words
