use Rattle.std.proofs.Common.{rules, arith, get_or}
use Rattle.std.specs.Char.{IsAsciiDigit}
use Rattle.fixed_decimal.proofs.Runs.{run_more}
use Rattle.fixed_decimal.proofs.short.digit_count.Goals as goal

pub loop-i-preserved : goal.loop-i-preserved
loop-i-preserved c =
    let digit : IsAsciiDigit (get_or c.args.text.now c.loop-i.i 0) = search rules in
    run_more c.args.text.now c.loop-i.i (omega arith) digit c.loop-i.invariant
