use Rattle.std.proofs.Common.{◌≡◌, ℕ, ◌*◌, ◌^◌, ◌≤◌, to_z, of_z, rules, ap, arith}
use mir.Syntax.{w64}
use Rattle.std.specs.Prelude.{unsigned_abs}
use Rattle.em_rules.proofs.Limited.{density_fits, density_below, width_below, wire_product}
use Rattle.em_rules.proofs.limits.wire_limit.Goals as goal

pub density_at-requires-clause-fits : goal.density_at-requires-clause-fits
density_at-requires-clause-fits c =
    density_fits c.args.layer.now.density (10 ^ 11) (10 ^ 18) c.from-units.result 20000 c.requires.layer.density (omega (arith, c.from-units.ensures, c.requires.units)) (omega arith)

pub overflow_mul-result : goal.overflow_mul-result
overflow_mul-result c =
    let kept : to_z w64 (of_z w64 c.args.width) ≡ c.args.width = search rules in
    let width : ℕ = unsigned_abs (to_z w64 (of_z w64 c.args.width)) in
    let few : unsigned_abs (to_z w64 (of_z w64 c.args.width)) ≤ 2 ^ 32 = omega (arith, ap unsigned_abs kept, width_below c.args.width c.requires.width) in
    let low = density_below c.args.layer.now.density (10 ^ 11) (10 ^ 18) (unsigned_abs (to_z w64 (of_z w64 c.args.width)) * 1000000) c.from-units.result c.in_ok-density.density c.requires.layer.density c.in_ok-density.ensures in
    omega (arith, wire_product c.in_ok-density.density (unsigned_abs (to_z w64 (of_z w64 c.args.width))) low few)
