use Rattle.std.proofs.Common.{◌≡◌, ◌-◌, ◌<◌, ◌^◌, drop}
use Rattle.node_names.specs.Folding.{folded}
use Rattle.node_names.specs.inside.Head.{head_from}
use Rattle.node_names.proofs.key.head_of.Given as goal

-- The other bytes make the head of what is there so far.
abbrev pub invariant-loop-i : goal.invariant-loop-i
invariant-loop-i l = (head_from l.head (16 - l.i) (drop l.i (folded l.name)) ≡ head_from 0 16 (folded l.name)) × (l.head < 256 ^ l.i)
