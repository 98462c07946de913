use Rattle.std.proofs.Common.{◌≡◌, map, drop}
use Rattle.pdn_script.specs.Fault.{lacks_in, lacks}
use Rattle.reading.specs.Word.{heard_token}
use Rattle.pdn_script.proofs.fault.lacks.Given as goal

abbrev pub invariant-loop-row : goal.invariant-loop-row
invariant-loop-row l = lacks_in (drop l.row-index l.row-items) l.rail (map heard_token l.words) ≡ lacks l.fn.command (map heard_token l.words)
