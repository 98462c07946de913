use Rattle.std.proofs.Common.{rules, ◌≡◌, ℕ, ℤ, pos, subst, sym, ◌∙◌, FitsSigned, to_z, of_z}
use Rattle.std.specs.Int.{w128}
use Rattle.std.proofs.lemmas.Int.{to_z-of_z}
use Rattle.fixed_decimal.specs.declared.printer.Direction.{Direction}
use Rattle.fixed_decimal.specs.inside.Rounded.{IsRounded}
use Rattle.fixed_decimal.proofs.printer.rounded.Goals as goal

along : (direction : Direction) (value result : ℤ) (u : ℕ) → FitsSigned w128 value → FitsSigned w128 result →
    IsRounded direction (to_z w128 (of_z w128 value)) u result → IsRounded direction value u (to_z w128 (of_z w128 result))
along direction value result u fits kept h =
    subst (λ z. IsRounded direction value u z) (sym (to_z-of_z w128 result kept)) (subst (λ z. IsRounded direction z u result) (to_z-of_z w128 value fits) h)

pub returns-in-Down : goal.returns-in-Down
returns-in-Down c = λ u is.
    let kept : FitsSigned w128 c.rounded_down.result = search rules in
    let unit : to_z w128 (of_z w128 c.args.unit) ≡ pos u = to_z-of_z w128 c.args.unit c.ranges.unit ∙ is in
    along c.args.direction c.args.value c.rounded_down.result u c.ranges.value kept
    (subst (λ z. IsRounded z (to_z w128 (of_z w128 c.args.value)) u c.rounded_down.result) (sym c.in-Down.is) (c.rounded_down.ensures u unit))

pub returns-in-Up : goal.returns-in-Up
returns-in-Up c = λ u is.
    let kept : FitsSigned w128 c.rounded_up.result = search rules in
    let unit : to_z w128 (of_z w128 c.args.unit) ≡ pos u = to_z-of_z w128 c.args.unit c.ranges.unit ∙ is in
    along c.args.direction c.args.value c.rounded_up.result u c.ranges.value kept
    (subst (λ z. IsRounded z (to_z w128 (of_z w128 c.args.value)) u c.rounded_up.result) (sym c.in-Up.is) (c.rounded_up.ensures u unit))
