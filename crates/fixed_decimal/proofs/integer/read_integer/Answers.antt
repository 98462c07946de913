use Rattle.fixed_decimal.specs.Integer.{IsInteger}
use Rattle.fixed_decimal.proofs.Integers.{integer_unique, integer_answer}
use Rattle.fixed_decimal.proofs.TextLaws.{answer_once}
use Rattle.fixed_decimal.proofs.integer.read_integer.Goals as goal

pub returns-then-is_integer-clause-answer : goal.returns-then-is_integer-clause-answer
returns-then-is_integer-clause-answer c =
    let n = c.is_integer.ensures.0 c.if-is_integer.true in
    integer_answer 0 c.args.limit c.args.text.now n.0 n.1 c.read.result c.read.ensures.answer

pub returns-then-is_integer-clause-only : goal.returns-then-is_integer-clause-only
returns-then-is_integer-clause-only c = λ other a.
    let n = c.is_integer.ensures.0 c.if-is_integer.true in
    answer_once IsInteger 0 c.args.limit c.args.text.now (integer_unique c.args.text.now) other c.read.result a
    (integer_answer 0 c.args.limit c.args.text.now n.0 n.1 c.read.result c.read.ensures.answer)
