use Rattle.std.proofs.Common.{◌≡◌, take, map, filter}
use Rattle.wire_names.specs.Nets.{is_wired}
use Rattle.wire_names.proofs.pair.wired_nets.Given as goal

abbrev pub invariant-loop-net : goal.invariant-loop-net
invariant-loop-net l = map (λ n. n.now) l.some.items ≡ filter (is_wired l.power) (take l.net-index l.nets)
