use Rattle.std.proofs.Common.{◌≡◌, ◌∙◌, ◌^◌, ◌*◌, ◌≤ℤ◌, ◌<ℤ◌, ◌+ℤ◌, ◌*ℤ◌, pos, ap, arith, to_z-of_z, SFits}
use mir.Syntax.{w128}
use Rattle.std.proofs.lemmas.Int.{ints}
use Rattle.rounding.specs.Rounding.{floor_div, ceil_div}
use Rattle.rounding.specs.Laws.{ceiling_in_limit}
use Rattle.bound_check.proofs.Adding.{product_fits, next_is_ceiling, same_is_ceiling}
use Rattle.bound_check.proofs.by_resistor.rounded_up.Goals as goal

pub overflow_mul-product : goal.overflow_mul-product
overflow_mul-product c =
    let fr = c.ranges.ohms in
    let fd = c.ranges.down in
    let fp = product_fits c.args.difference c.args.ohms c.requires.resists fr c.requires.difference in
    let e = ap (λ y. c.args.ohms *ℤ y) c.requires.down in
    simp to_z-of_z (omega (arith, ints, fp, e))

pub returns-then-product-difference : goal.returns-then-product-difference
returns-then-product-difference c =
    let z = c.args.difference in
    let r = c.args.ohms in
    let fz = c.ranges.difference in
    let fr = c.ranges.ohms in
    let fd = c.ranges.down in
    let e : r *ℤ c.args.down ≡ r *ℤ floor_div z r = ap (λ y. r *ℤ y) c.requires.down in
    let fp : SFits w128 (r *ℤ c.args.down) = omega (arith, ints, e, product_fits z r c.requires.resists fr c.requires.difference) in
    let test = simp to_z-of_z at c.if-product-difference.true in
    let under : (r *ℤ floor_div z r) <ℤ z = omega (arith, ints, test, e) in
    let up = next_is_ceiling z r c.requires.resists under in
    let limit = ceiling_in_limit z r (2 * 10 ^ 37) c.requires.resists c.requires.difference.0 c.requires.difference.1 in
    let next : c.args.down +ℤ pos 1 ≡ ceil_div z r = omega (arith, ints, c.requires.down, up) in
    let fn : SFits w128 (c.args.down +ℤ pos 1) = omega (arith, ints, next, limit) in
    simp to_z-of_z (record {
      value = next;
      within = (omega (arith, ints, next, limit), omega (arith, ints, next, limit));
    })

pub returns-else-product-difference : goal.returns-else-product-difference
returns-else-product-difference c =
    let z = c.args.difference in
    let r = c.args.ohms in
    let fz = c.ranges.difference in
    let fr = c.ranges.ohms in
    let fd = c.ranges.down in
    let e : r *ℤ c.args.down ≡ r *ℤ floor_div z r = ap (λ y. r *ℤ y) c.requires.down in
    let fp : SFits w128 (r *ℤ c.args.down) = omega (arith, ints, e, product_fits z r c.requires.resists fr c.requires.difference) in
    let test = simp to_z-of_z at c.if-product-difference.false in
    let over : z ≤ℤ (r *ℤ floor_div z r) = omega (arith, ints, test, e) in
    let limit = ceiling_in_limit z r (2 * 10 ^ 37) c.requires.resists c.requires.difference.0 c.requires.difference.1 in
    let same : c.args.down ≡ ceil_div z r = c.requires.down ∙ same_is_ceiling z r c.requires.resists over in
    simp to_z-of_z (record {
      value = same;
      within = (omega (arith, ints, same, limit), omega (arith, ints, same, limit));
    })
