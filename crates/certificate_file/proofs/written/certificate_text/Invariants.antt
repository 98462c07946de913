use Rattle.std.proofs.Common.{◌≡◌, ◌++◌, take, codes}
use Rattle.certificate_file.specs.Written.{rows_text}
use Rattle.certificate_file.proofs.written.certificate_text.Given as goal

abbrev pub invariant-loop-node : goal.invariant-loop-node
invariant-loop-node l = l.text.items ≡ codes "pdn certificate 1\n" ++ rows_text (take l.node l.names) (take l.node l.high) (take l.node l.low)
