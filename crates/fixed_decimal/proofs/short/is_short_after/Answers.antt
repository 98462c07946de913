use Rattle.std.proofs.lemmas.Bool.{eqb-true, eq-eqb}
use Rattle.std.proofs.Common.{length}
use Rattle.fixed_decimal.proofs.Few.{fraction_is, fraction_all}
use Rattle.fixed_decimal.proofs.short.is_short_after.Goals as goal

pub returns-then-after-decimals : goal.returns-then-after-decimals
returns-then-after-decimals c =
    let after = c.in-Some.after.now in
    let count = c.digit_count.result in (
      λ yes. fraction_is c.args.decimals c.args.text.now after c.in-Some.ensures.some count c.digit_count.ensures (eqb-true count (length after) yes) c.if-after-decimals.true,
      λ f. eq-eqb count (length after) (fraction_all c.args.decimals c.args.text.now after c.in-Some.ensures.some count c.digit_count.ensures f),
    )
