use Rattle.std.proofs.Common.{rules, arith, get_or}
use Rattle.std.specs.Char.{IsAsciiDigit}
use Rattle.fixed_decimal.proofs.Runs.{digits_step}
use Rattle.fixed_decimal.proofs.digits.take_digits.Goals as goal

pub loop-i-preserved : goal.loop-i-preserved
loop-i-preserved c =
    let digit : IsAsciiDigit (get_or c.args.text.now c.loop-i.i 0) = search rules in
    let x = c.if-not-is_ascii_digit.ensures.cases in
    digits_step c.args.before c.args.text.now c.loop-i.i c.loop-i.digits c.push-digits.result (omega arith) digit c.loop-i.invariant c.push-digits.ensures.keeps c.push-digits.ensures.count
