use Rattle.fixed_decimal.proofs.Runs.{DigitsSoFar}
use Rattle.fixed_decimal.proofs.digits.take_digits.Given as goal

abbrev pub invariant-loop-i : goal.invariant-loop-i
invariant-loop-i l = DigitsSoFar l.fn.before l.text l.i l.digits
