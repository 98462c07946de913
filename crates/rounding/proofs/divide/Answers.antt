use Rattle.std.proofs.Common.{◌∙◌, ◌^◌, ◌<ℤ◌, ◌≤ℤ◌, ◌-ℤ◌, ◌+ℤ◌, ◌*ℤ◌, pos, ap, sym, arith, to_z-of_z, SFits}
use mir.Syntax.{w128}
use lib.Signed.{quot_z}
use Rattle.std.proofs.lemmas.Int.{ints}
use Rattle.rounding.specs.declared.Round.{Round}
use Rattle.rounding.specs.Rounding.{quotient}
use Rattle.rounding.specs.Laws.{floor_in_limit}
use Rattle.rounding.proofs.Whole.{truncated, quotient_down, quotient_over, quotient_up, quotient_under, next_at_most}
use Rattle.rounding.proofs.divide.Goals as goal

pub returns-then-product-z : goal.returns-then-product-z
returns-then-product-z c =
    let z = c.args.z in
    let r = c.args.r in
    let fz = c.ranges.z in
    let fr = c.ranges.r in
    let t = truncated z r fz c.requires in
    let fq = t.quotient in
    let fp = t.product in
    let test = simp to_z-of_z at c.if-product-z.true in
    let over : z <ℤ (quot_z z r *ℤ r) = omega (arith, ints, test) in
    let e = quotient_over z r c.requires over in
    let l = floor_in_limit z r (2 ^ 127) c.requires (omega (arith, ints, fz)) (omega (arith, ints, fz)) in
    let fd : SFits w128 (quot_z z r -ℤ pos 1) = omega (arith, ints, e, l, fq) in
    simp to_z-of_z (e ∙ ap (λ (d : Round). quotient d z r) (sym c.in-Down.is))

pub returns-else-product-z : goal.returns-else-product-z
returns-else-product-z c =
    let z = c.args.z in
    let r = c.args.r in
    let fz = c.ranges.z in
    let fr = c.ranges.r in
    let t = truncated z r fz c.requires in
    let fq = t.quotient in
    let fp = t.product in
    let test = simp to_z-of_z at c.if-product-z.false in
    let under : (quot_z z r *ℤ r) ≤ℤ z = omega (arith, ints, test) in
    simp to_z-of_z (quotient_down z r c.requires under ∙ ap (λ (d : Round). quotient d z r) (sym c.in-Down.is))

pub returns-then-product-z-2 : goal.returns-then-product-z-2
returns-then-product-z-2 c =
    let z = c.args.z in
    let r = c.args.r in
    let fz = c.ranges.z in
    let fr = c.ranges.r in
    let t = truncated z r fz c.requires in
    let fq = t.quotient in
    let fp = t.product in
    let test = simp to_z-of_z at c.if-product-z-2.true in
    let under : (quot_z z r *ℤ r) <ℤ z = omega (arith, ints, test) in
    let top = next_at_most z r c.requires under in
    let fd : SFits w128 (quot_z z r +ℤ pos 1) = omega (arith, ints, top, fq, fz) in
    simp to_z-of_z (quotient_under z r c.requires under ∙ ap (λ (d : Round). quotient d z r) (sym c.in-Up.is))

pub returns-else-product-z-2 : goal.returns-else-product-z-2
returns-else-product-z-2 c =
    let z = c.args.z in
    let r = c.args.r in
    let fz = c.ranges.z in
    let fr = c.ranges.r in
    let t = truncated z r fz c.requires in
    let fq = t.quotient in
    let fp = t.product in
    let test = simp to_z-of_z at c.if-product-z-2.false in
    let over : z ≤ℤ (quot_z z r *ℤ r) = omega (arith, ints, test) in
    simp to_z-of_z (quotient_up z r c.requires over ∙ ap (λ (d : Round). quotient d z r) (sym c.in-Up.is))
