use Rattle.std.proofs.Common.{◌≡◌, map, drop}
use Rattle.pdn_script.specs.Given.{value_at_from, value_at}
use Rattle.reading.specs.Word.{heard_token}
use Rattle.pdn_script.proofs.given.value_at.Given as goal

abbrev pub invariant-loop-at : goal.invariant-loop-at
invariant-loop-at l = value_at_from l.option l.waits l.at (map heard_token (drop l.at l.words)) ≡ value_at l.option (map heard_token l.words)
