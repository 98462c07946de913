use Rattle.std.proofs.Common.{rules, arith, ◌≡◌, ◌+◌, ◌-◌, ◌*◌, get_or, subst, sym}
use Rattle.std.specs.Char.{IsAsciiDigit}
use Rattle.fixed_decimal.proofs.Few.{FewSoFar, few_step}
use Rattle.fixed_decimal.proofs.short.few_digits.Goals as goal

pub loop-i-preserved : goal.loop-i-preserved
loop-i-preserved c =
    let digit : IsAsciiDigit (get_or c.args.text.now c.loop-i.i 0) = search rules in
    let from = c.from.ensures in
    let is : c.from.result ≡ get_or c.args.text.now c.loop-i.i 0 - 48 = omega arith in
    subst (λ n. FewSoFar c.args.before c.args.text.now (c.loop-i.i + 1) (c.loop-i.value * 10 + n)) (sym is)
    (few_step c.args.before c.args.text.now c.loop-i.i c.loop-i.value (omega arith) digit (omega arith) c.loop-i.invariant)
