use Rattle.fixed_decimal.proofs.Runs.{ExponentSoFar}
use Rattle.fixed_decimal.proofs.digits.take_exponent_digits.Given as goal

abbrev pub invariant-loop-i : goal.invariant-loop-i
invariant-loop-i l = ExponentSoFar l.text l.i l.value
