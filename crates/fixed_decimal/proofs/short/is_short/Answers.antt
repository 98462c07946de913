use Rattle.std.proofs.Common.{arith, drop, subst, sym}
use Rattle.fixed_decimal.specs.Short.{IsShort}
use Rattle.fixed_decimal.specs.inside.Short.{IsShortFraction}
use Rattle.fixed_decimal.proofs.Few.{short_has, short_none, short_not, short_is, short_after}
use Rattle.fixed_decimal.proofs.Taking.{rest_is}
use Rattle.fixed_decimal.proofs.short.is_short.Goals as goal
use Rattle.fixed_decimal.proofs.short.is_short.Goals.{After-is_short_after, then-before-eq0-via-then-before-eq0, then-before-eq0-via-else-before-eq0+then-before-whole}

pub returns-then-before-eq0-clause-short : goal.returns-then-before-eq0-clause-short
returns-then-before-eq0-clause-short c =
    let unsigned = c.take_sign.result.1.now in
    let count = c.digit_count-before.result in (
      λ yes. absurd (cc),
      λ s. absurd (elim c.then-before-eq0.branch [
        | then-before-eq0-via-then-before-eq0 w ↦
            short_none c.args.text.now unsigned c.take_sign.result.0 count c.args.whole c.args.decimals c.take_sign.ensures c.digit_count-before.ensures w.if-before-eq0.true s
        | then-before-eq0-via-else-before-eq0+then-before-whole w ↦
            short_not c.args.text.now unsigned c.take_sign.result.0 count c.args.whole c.args.decimals c.take_sign.ensures c.digit_count-before.ensures w.if-before-whole.true s
      ]),
    )

short : (c : After-is_short_after) → IsShortFraction c.args.decimals (drop c.digit_count-before.result c.take_sign.result.1.now) → IsShort c.args.whole c.args.decimals c.args.text.now
short c f =
    let some = c.if-before-eq0.false in
    short_is c.args.text.now c.take_sign.result.1.now c.take_sign.result.0 c.digit_count-before.result c.args.whole c.args.decimals c.take_sign.ensures c.digit_count-before.ensures (omega arith) c.if-before-whole.false f

pub returns-clause-short : goal.returns-clause-short
returns-clause-short c =
    let rest = rest_is c.take_sign.result.1.now c.digit_count-before.result in (
      λ yes. short c (subst (IsShortFraction c.args.decimals) rest (c.is_short_after.ensures.0 yes)),
      λ s. c.is_short_after.ensures.1 (subst (IsShortFraction c.args.decimals) (sym rest)
          (short_after c.args.text.now c.take_sign.result.1.now c.take_sign.result.0 c.digit_count-before.result c.args.whole c.args.decimals c.take_sign.ensures c.digit_count-before.ensures s)),
    )

pub returns-clause-value : goal.returns-clause-value
returns-clause-value c = λ yes places limit enough fit.
    let rest = rest_is c.take_sign.result.1.now c.digit_count-before.result in
    short_has c.args.text.now c.args.whole c.args.decimals (short c (subst (IsShortFraction c.args.decimals) rest (c.is_short_after.ensures.0 yes))) places limit enough fit
