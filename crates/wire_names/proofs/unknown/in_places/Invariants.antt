use Rattle.std.proofs.Common.{◌≡◌, take, None}
use Rattle.wire_names.specs.Names.{first_some, unknown_in_place}
use Rattle.wire_names.specs.inside.Tables.{names_in}
use Rattle.wire_names.proofs.unknown.in_places.Given as goal

abbrev pub invariant-loop-place : goal.invariant-loop-place
invariant-loop-place l = first_some (unknown_in_place (names_in l.tables)) (take l.place-index l.places) ≡ None
