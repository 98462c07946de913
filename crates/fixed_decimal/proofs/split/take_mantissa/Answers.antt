use Rattle.std.proofs.Common.{arith, ◌≡◌, ◌+◌, ◌<◌, ◌∙◌, sym, ap, inl, inr, drop, ◌++◌, codes, false}
use Rattle.fixed_decimal.specs.inside.Split.{begins_digit}
use Rattle.fixed_decimal.proofs.Taking.{mantissa_pointed, no_mantissa_at_point, rest_is}
use Rattle.fixed_decimal.proofs.split.take_mantissa.Goals as goal

pub returns-then-decimals-eq0-clause-none : goal.returns-then-decimals-eq0-clause-none
returns-then-decimals-eq0-clause-none c = λ whole fraction rest m.
    let none : begins_digit c.in-Some.after.now ≡ false = sym (ap (λ n. begins_digit (drop n c.in-Some.after.now)) c.if-decimals-eq0.true) ∙ c.take_digits-decimals.ensures.run.ends in
    let point : drop c.take_digits-before.result.1 c.args.text.now ≡ codes "." ++ c.in-Some.after.now = sym (rest_is c.args.text.now c.take_digits-before.result.1) ∙ c.in-Some.ensures.some in
    let is : c.args.text.now ≡ codes "." ++ c.in-Some.after.now = sym (ap (λ n. drop n c.args.text.now) c.if-before-eq0-2.true) ∙ point in
    no_mantissa_at_point c.args.text.now c.in-Some.after.now whole fraction rest is none m

pub returns-clause-some : goal.returns-clause-some
returns-clause-some c =
    let some : 0 < c.take_digits-before.result.1 + c.take_digits-decimals.result.1 = elim c.else-before-eq0-2.either [ inl both ↦ omega arith | inr other ↦ omega arith ] in
    mantissa_pointed c.args.text.now c.in-Some.after.now c.take_digits-before.result.1 c.take_digits-decimals.result.1 c.take_digits-before.result.0 c.take_digits-decimals.result.0
    c.take_digits-before.ensures.run c.in-Some.ensures.some c.take_digits-decimals.ensures.run (c.take_digits-before.ensures.keeps 0 c.none.ensures.keeps) c.take_digits-decimals.ensures.keeps some
