use Rattle.std.proofs.Common.{◌≡◌, map, take}
use Rattle.name_table.proofs.table.names_of.Given as goal

abbrev pub invariant-loop-numbered : goal.invariant-loop-numbered
invariant-loop-numbered l = l.names.items ≡ map (λ n. n.name.name) (take l.numbered-index l.sorted)
