use Rattle.std.proofs.Common.{◌≡◌, map, take}
use Rattle.node_names.specs.inside.Entries.{entries_of}
use Rattle.node_names.proofs.names.names_of.Given as goal

abbrev pub invariant-loop-numbered : goal.invariant-loop-numbered
invariant-loop-numbered l = l.names.items ≡ map (λ e. e.1) (entries_of (take l.numbered-index l.sorted))
