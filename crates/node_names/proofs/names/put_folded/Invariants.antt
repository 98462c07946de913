use Rattle.std.proofs.Common.{◌≡◌, take}
use Rattle.node_names.specs.Folding.{folded}
use Rattle.node_names.proofs.names.put_folded.Given as goal

abbrev pub invariant-loop-byte : goal.invariant-loop-byte
invariant-loop-byte l = l.buffer.items ≡ folded (take l.byte-index l.name)
