use Rattle.std.proofs.Common.{rules, ◌≡◌, ◌<◌, length, subst, sym}
use Rattle.fixed_decimal.specs.inside.Kept.{AnswersNumber}
use Rattle.fixed_decimal.specs.Number.{Number, IsDecimal, number_of}
use Rattle.fixed_decimal.proofs.Settled.{settled_answer, no_decimal, no_decimal_at_all, the_decimal, scaled_by_one}
use Rattle.fixed_decimal.proofs.reader.read_in_full.Goals as goal
use Rattle.fixed_decimal.proofs.reader.read_in_full.Goals.{After-rounded}

pub returns-in_default : goal.returns-in_default
returns-in_default c = no_decimal_at_all c.args.text.now c.in_default.ensures.none

pub returns-then-not-is_empty : goal.returns-then-not-is_empty
returns-then-not-is_empty c = λ n is.
    let some : 0 < length c.in-Some.rest.now = search rules in
    no_decimal c.args.text.now c.in-Some.number c.in-Some.rest.now c.in-Some.ensures.some some n is

module _ (c : After-rounded) where
  the_number : Number
  the_number = number_of c.in-Some.ensures.some.spelling

  is_number : IsDecimal c.args.text.now the_number
  unfolding the_number
  is_number =
      let none : length c.in-Some.rest.now ≡ 0 = search rules in
      the_decimal c.args.text.now c.in-Some.number c.in-Some.rest.now c.in-Some.ensures.some none

  answered : AnswersNumber the_number c.args.places c.args.limit c.rounded.result
  unfolding the_number
  answered =
      let P : Number → Type 0 = λ n. AnswersNumber n c.args.places c.args.limit c.rounded.result in
      subst P (scaled_by_one the_number) (c.rounded.ensures the_number (sym c.in-Some.ensures.some.negative) c.in-Some.ensures.some.describes)

pub returns : goal.returns
returns c = settled_answer IsDecimal c.args.text.now c.args.places c.args.limit c.rounded.result (the_number c) (is_number c) (answered c)
