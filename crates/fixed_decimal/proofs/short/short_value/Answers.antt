use Rattle.std.proofs.Common.{rules, arith, FitsSigned, subst, sym, ◌∙◌}
use Rattle.std.specs.Int.{w64}
use Rattle.std.proofs.lemmas.Int.{to_z-of_z}
use Rattle.fixed_decimal.specs.Value.{DecimalReads}
use Rattle.fixed_decimal.proofs.Few.{short_reads}
use Rattle.fixed_decimal.proofs.short.short_value.Goals as goal

pub returns : goal.returns
returns c =
    let fits : FitsSigned w64 c.with_sign.result = search rules in
    let whole = to_z-of_z w64 c.with_sign.result fits in
    subst (λ v. DecimalReads c.args.places c.args.limit c.args.text.now v) (sym (whole ∙ c.with_sign.ensures))
    (short_reads c.args.text.now c.take_sign-negative.result.1.now c.take_sign-negative.result.0 c.args.places c.args.limit c.in_ok-magnitude.magnitude c.take_sign-negative.ensures c.in_ok-magnitude.ensures (omega arith))
