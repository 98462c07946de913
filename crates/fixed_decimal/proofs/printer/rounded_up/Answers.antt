use Rattle.std.proofs.Common.{rules, arith, ◌≡◌, ◌<◌, ℤ, pos, ◌+ℤ◌, subst, sym, ap, ◌∙◌, FitsSigned, to_z, of_z}
use Rattle.std.specs.Int.{w128, int_div_euclid, int_rem_euclid}
use Rattle.std.proofs.lemmas.Int.{ints, to_z-of_z}
use Rattle.fixed_decimal.specs.Printed.{IsRoundedUp}
use Rattle.fixed_decimal.proofs.Floors.{rounded_up_exact, rounded_up_next}
use Rattle.fixed_decimal.proofs.printer.rounded_up.Goals as goal

pub returns-then-rem_euclid-eq0 : goal.returns-then-rem_euclid-eq0
returns-then-rem_euclid-eq0 c = λ u is.
    let value : FitsSigned w128 c.args.value = c.ranges.value in
    let unit : FitsSigned w128 c.args.unit = c.ranges.unit in
    let fits : FitsSigned w128 c.div_euclid-below.result = search rules in
    let computed = simp to_z-of_z at c.div_euclid-below.ensures in
    let rest = simp to_z-of_z at c.rem_euclid.ensures.value in
    let rest_fits : FitsSigned w128 c.rem_euclid.result = search rules in
    let whole = to_z-of_z w128 c.div_euclid-below.result fits in
    let some : 0 < u = omega (arith, ints, is) in
    let none : c.rem_euclid.result ≡ pos 0 = omega (arith, ints, c.if-rem_euclid-eq0.true, rest_fits) in
    let P : ℤ → Type 0 = λ q. IsRoundedUp c.args.value u q in
    subst P (sym (whole ∙ (computed ∙ ap (int_div_euclid c.args.value) is))) (rounded_up_exact c.args.value u some (sym (rest ∙ ap (int_rem_euclid c.args.value) is) ∙ none))

pub returns-else-rem_euclid-eq0 : goal.returns-else-rem_euclid-eq0
returns-else-rem_euclid-eq0 c = λ u is.
    let value : FitsSigned w128 c.args.value = c.ranges.value in
    let unit : FitsSigned w128 c.args.unit = c.ranges.unit in
    let fits : FitsSigned w128 c.div_euclid-below.result = search rules in
    let computed = simp to_z-of_z at c.div_euclid-below.ensures in
    let rest = simp to_z-of_z at c.rem_euclid.ensures.value in
    let some : 0 < u = omega (arith, ints, is) in
    let other : int_rem_euclid c.args.value (pos u) ≡ pos 0 → ⊥ = λ none.
    c.if-rem_euclid-eq0.false (ap (of_z w128) ((rest ∙ ap (int_rem_euclid c.args.value) is) ∙ none)) in
    let P : ℤ → Type 0 = λ q. IsRoundedUp c.args.value u q in
    let quotient = computed ∙ ap (int_div_euclid c.args.value) is in
    let next_fits : FitsSigned w128 (c.div_euclid-below.result +ℤ pos 1) = search rules in
    let next : to_z w128 (of_z w128 (to_z w128 (of_z w128 c.div_euclid-below.result) +ℤ pos 1)) ≡ c.div_euclid-below.result +ℤ pos 1 = omega (arith, ints) in
    subst P (sym (next ∙ ap (λ q. q +ℤ pos 1) quotient)) (rounded_up_next c.args.value u some other)
