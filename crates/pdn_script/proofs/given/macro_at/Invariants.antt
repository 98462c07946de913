use Rattle.std.proofs.Common.{◌≡◌, map, drop}
use Rattle.pdn_script.specs.Given.{macro_at_from, macro_at}
use Rattle.reading.specs.Word.{heard_token}
use Rattle.pdn_script.proofs.given.macro_at.Given as goal

abbrev pub invariant-loop-at : goal.invariant-loop-at
invariant-loop-at l = macro_at_from l.waits l.at (map heard_token (drop l.at l.words)) ≡ macro_at (map heard_token l.words)
