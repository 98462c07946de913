use Rattle.std.proofs.Common.{rules, ◌<◌, length}
use Rattle.fixed_decimal.proofs.Integers.{tells}
use Rattle.fixed_decimal.proofs.integer.is_integer.Goals as goal

pub returns-then-not-is_empty : goal.returns-then-not-is_empty
returns-then-not-is_empty c =
    let some : 0 < length c.without_minus-digits.result.now = search rules in
    tells c.args.text.now c.without_minus-digits.result.now c.are_digits.result c.without_minus-digits.ensures some c.are_digits.ensures
