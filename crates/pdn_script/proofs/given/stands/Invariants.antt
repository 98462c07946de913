use Rattle.std.proofs.Common.{◌≡◌, map, drop}
use Rattle.pdn_script.specs.Given.{stands_from, stands}
use Rattle.reading.specs.Word.{heard_token}
use Rattle.pdn_script.proofs.given.stands.Given as goal

abbrev pub invariant-loop-word : goal.invariant-loop-word
invariant-loop-word l = stands_from l.option l.waits (map heard_token (drop l.word-index l.words)) ≡ stands l.option (map heard_token l.words)
