use Rattle.std.proofs.Common.{rules, arith, ◌≡◌, ℕ, ◌+◌, ◌-◌, ◌*◌, get_or, subst, sym}
use Rattle.std.specs.Char.{IsAsciiDigit}
use Rattle.fixed_decimal.proofs.Runs.{ExponentSoFar, exponent_step, exponent_stays}
use Rattle.fixed_decimal.proofs.digits.take_exponent_digits.Goals as goal
use Rattle.fixed_decimal.proofs.digits.take_exponent_digits.Goals.{then-value-lt-EXPONENT_LIMIT, else-value-lt-EXPONENT_LIMIT}

pub loop-i-preserved : goal.loop-i-preserved
loop-i-preserved c =
    let digit : IsAsciiDigit (get_or c.args.text.now c.loop-i.i 0) = search rules in
    let P : ℕ → Type 0 = λ x. ExponentSoFar c.args.text.now (c.loop-i.i + 1) x in
    elim c.if-value-lt-EXPONENT_LIMIT.branch [
      | then-value-lt-EXPONENT_LIMIT w ↦
          let is = w.value-is in
          let from = w.from.ensures in
          let e : c.if-value-lt-EXPONENT_LIMIT.value ≡ c.loop-i.value * 10 + (get_or c.args.text.now c.loop-i.i 0 - 48) = omega arith in
          subst P (sym e) (exponent_step c.args.text.now c.loop-i.i c.loop-i.value (omega arith) digit (omega arith) c.loop-i.invariant)
      | else-value-lt-EXPONENT_LIMIT w ↦
          subst P (sym w.value-is) (exponent_stays c.args.text.now c.loop-i.i c.loop-i.value (omega arith) digit (omega arith) c.loop-i.invariant)
    ]
