use Rattle.std.proofs.Common.{◌≡◌, map, drop}
use Rattle.pdn_script.specs.Given.{value_from, value}
use Rattle.reading.specs.Word.{heard_token}
use Rattle.pdn_script.proofs.given.value.Given as goal

abbrev pub invariant-loop-word : goal.invariant-loop-word
invariant-loop-word l = value_from l.option l.waits (map heard_token (drop l.word-index l.words)) ≡ value l.option (map heard_token l.words)
