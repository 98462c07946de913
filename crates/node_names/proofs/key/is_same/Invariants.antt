use Rattle.std.proofs.Common.{◌≡◌, drop}
use Rattle.std.specs.Str.{bytes_eq}
use Rattle.node_names.specs.Folding.{folded}
use Rattle.node_names.proofs.key.is_same.Given as goal

abbrev pub invariant-loop-i : goal.invariant-loop-i
invariant-loop-i l = bytes_eq (folded l.first) (folded l.second) ≡ bytes_eq (drop l.i (folded l.first)) (drop l.i (folded l.second))
