use Rattle.std.proofs.Common.{◌≡◌, drop}
use Rattle.pdn_script.specs.inside.Value.{number_from, number_in}
use Rattle.pdn_script.proofs.given.number.Given as goal

abbrev pub invariant-loop-word : goal.invariant-loop-word
invariant-loop-word l = number_from l.option l.waits (drop l.word-index l.words) ≡ number_in l.option l.words
