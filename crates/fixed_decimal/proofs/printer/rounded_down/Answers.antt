use Rattle.std.proofs.Common.{rules, arith, ◌<◌, ℤ, subst, sym, ap, ◌∙◌, FitsSigned}
use Rattle.std.specs.Int.{w128, int_div_euclid}
use Rattle.std.proofs.lemmas.Int.{ints, to_z-of_z}
use Rattle.fixed_decimal.specs.Printed.{IsRoundedDown}
use Rattle.fixed_decimal.proofs.Floors.{rounded_down_is}
use Rattle.fixed_decimal.proofs.printer.rounded_down.Goals as goal

pub returns : goal.returns
returns c = λ u is.
    let value : FitsSigned w128 c.args.value = c.ranges.value in
    let unit : FitsSigned w128 c.args.unit = c.ranges.unit in
    let fits : FitsSigned w128 c.div_euclid.result = search rules in
    let computed = simp to_z-of_z at c.div_euclid.ensures in
    let whole = to_z-of_z w128 c.div_euclid.result fits in
    let some : 0 < u = omega (arith, ints, is) in
    let P : ℤ → Type 0 = λ q. IsRoundedDown c.args.value u q in
    subst P (sym (whole ∙ (computed ∙ ap (int_div_euclid c.args.value) is))) (rounded_down_is c.args.value u some)
