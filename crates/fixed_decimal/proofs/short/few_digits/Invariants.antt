use Rattle.fixed_decimal.proofs.Few.{FewSoFar}
use Rattle.fixed_decimal.proofs.short.few_digits.Given as goal

abbrev pub invariant-loop-i : goal.invariant-loop-i
invariant-loop-i l = FewSoFar l.fn.before l.text l.i l.value
