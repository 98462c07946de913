use Rattle.std.proofs.Common.{◌≡◌, take, None}
use Rattle.wire_names.specs.Names.{first_some, unknown_in_segment}
use Rattle.wire_names.specs.inside.Tables.{names_in}
use Rattle.wire_names.proofs.unknown.in_segments.Given as goal

abbrev pub invariant-loop-segment : goal.invariant-loop-segment
invariant-loop-segment l = first_some (unknown_in_segment (names_in l.tables)) (take l.segment-index l.segments) ≡ None
