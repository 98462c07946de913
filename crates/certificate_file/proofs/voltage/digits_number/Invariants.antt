use Rattle.certificate_file.proofs.Voltages.{SoFar}
use Rattle.certificate_file.proofs.voltage.digits_number.Given as goal

abbrev pub invariant-loop-byte : goal.invariant-loop-byte
invariant-loop-byte l = SoFar l.digits l.byte-index l.number
