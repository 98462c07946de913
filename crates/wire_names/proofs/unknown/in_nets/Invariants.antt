use Rattle.std.proofs.Common.{◌≡◌, take, None}
use Rattle.wire_names.specs.Names.{first_some, unknown_in_net}
use Rattle.wire_names.specs.inside.Tables.{names_in}
use Rattle.wire_names.proofs.unknown.in_nets.Given as goal

abbrev pub invariant-loop-net : goal.invariant-loop-net
invariant-loop-net l = first_some (unknown_in_net (names_in l.tables)) (take l.net-index l.nets) ≡ None
