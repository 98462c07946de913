use Rattle.std.proofs.Common.{◌≡◌, take, None}
use Rattle.wire_names.specs.Names.{first_some, unknown_in_via}
use Rattle.wire_names.specs.inside.Tables.{names_in}
use Rattle.wire_names.proofs.unknown.in_vias.Given as goal

abbrev pub invariant-loop-via : goal.invariant-loop-via
invariant-loop-via l = first_some (unknown_in_via (names_in l.tables)) (take l.via-index l.vias) ≡ None
