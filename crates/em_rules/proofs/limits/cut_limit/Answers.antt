use Rattle.std.proofs.Common.{◌≡◌, ℕ, ◌*◌, ◌^◌, to_z, of_z, rules, sym, subst, arith}
use mir.Syntax.{w64}
use Rattle.std.specs.Prelude.{unsigned_abs}
use Rattle.em_rules.proofs.Limited.{IsPart, density_fits, density_below, part_of, area_product, cuts_product, current_product, square_below}
use Rattle.em_rules.proofs.limits.cut_limit.Goals as goal

pub overflow_mul-area-2 : goal.overflow_mul-area-2
overflow_mul-area-2 c =
    let array = c.args.array.now in
    let x : to_z w64 (of_z w64 c.args.array.now.cut_x) ≡ c.args.array.now.cut_x = search rules in
    let y : to_z w64 (of_z w64 c.args.array.now.cut_y) ≡ c.args.array.now.cut_y = search rules in
    let row : IsPart array.columns (unsigned_abs (to_z w64 (of_z w64 c.args.array.now.cut_x))) = subst (λ z. IsPart array.columns (unsigned_abs z)) (sym x) (part_of array.columns array.cut_x c.requires.array.row) in
    let column : IsPart array.rows (unsigned_abs (to_z w64 (of_z w64 c.args.array.now.cut_y))) = subst (λ z. IsPart array.rows (unsigned_abs z)) (sym y) (part_of array.rows array.cut_y c.requires.array.column) in
    omega (arith, area_product (unsigned_abs (to_z w64 (of_z w64 c.args.array.now.cut_x))) (unsigned_abs (to_z w64 (of_z w64 c.args.array.now.cut_y))) row.one column.one)

pub density_at-requires-clause-fits : goal.density_at-requires-clause-fits
density_at-requires-clause-fits c =
    let square : c.from-3.result * c.from-4.result ≡ c.args.units * c.args.units = λ i. c.from-3.ensures i * c.from-4.ensures i in
    density_fits c.args.layer.now.density (10 ^ 14) (10 ^ 15) (c.from-3.result * c.from-4.result) (4 * 10 ^ 8) c.requires.layer.density (omega (arith, square, square_below c.args.units c.requires.units.1)) (omega arith)

pub overflow_mul-result : goal.overflow_mul-result
overflow_mul-result c =
    let array = c.args.array.now in
    let x : to_z w64 (of_z w64 c.args.array.now.cut_x) ≡ c.args.array.now.cut_x = search rules in
    let y : to_z w64 (of_z w64 c.args.array.now.cut_y) ≡ c.args.array.now.cut_y = search rules in
    let row : IsPart array.columns (unsigned_abs (to_z w64 (of_z w64 c.args.array.now.cut_x))) = subst (λ z. IsPart array.columns (unsigned_abs z)) (sym x) (part_of array.columns array.cut_x c.requires.array.row) in
    let column : IsPart array.rows (unsigned_abs (to_z w64 (of_z w64 c.args.array.now.cut_y))) = subst (λ z. IsPart array.rows (unsigned_abs z)) (sym y) (part_of array.rows array.cut_y c.requires.array.column) in
    let in_row : IsPart c.from.result (unsigned_abs (to_z w64 (of_z w64 c.args.array.now.cut_x))) = subst (λ n. IsPart n (unsigned_abs (to_z w64 (of_z w64 c.args.array.now.cut_x)))) (sym c.from.ensures) row in
    let in_column : IsPart c.from-2.result (unsigned_abs (to_z w64 (of_z w64 c.args.array.now.cut_y))) = subst (λ n. IsPart n (unsigned_abs (to_z w64 (of_z w64 c.args.array.now.cut_y)))) (sym c.from-2.ensures) column in
    omega (arith, cuts_product (unsigned_abs (to_z w64 (of_z w64 c.args.array.now.cut_x))) (unsigned_abs (to_z w64 (of_z w64 c.args.array.now.cut_y))) c.from.result c.from-2.result in_row.all in_column.all)

pub overflow_mul-result-2 : goal.overflow_mul-result-2
overflow_mul-result-2 c =
    let array = c.args.array.now in
    let x : to_z w64 (of_z w64 c.args.array.now.cut_x) ≡ c.args.array.now.cut_x = search rules in
    let y : to_z w64 (of_z w64 c.args.array.now.cut_y) ≡ c.args.array.now.cut_y = search rules in
    let row : IsPart array.columns (unsigned_abs (to_z w64 (of_z w64 c.args.array.now.cut_x))) = subst (λ z. IsPart array.columns (unsigned_abs z)) (sym x) (part_of array.columns array.cut_x c.requires.array.row) in
    let column : IsPart array.rows (unsigned_abs (to_z w64 (of_z w64 c.args.array.now.cut_y))) = subst (λ z. IsPart array.rows (unsigned_abs z)) (sym y) (part_of array.rows array.cut_y c.requires.array.column) in
    let in_row : IsPart c.from.result (unsigned_abs (to_z w64 (of_z w64 c.args.array.now.cut_x))) = subst (λ n. IsPart n (unsigned_abs (to_z w64 (of_z w64 c.args.array.now.cut_x)))) (sym c.from.ensures) row in
    let in_column : IsPart c.from-2.result (unsigned_abs (to_z w64 (of_z w64 c.args.array.now.cut_y))) = subst (λ n. IsPart n (unsigned_abs (to_z w64 (of_z w64 c.args.array.now.cut_y)))) (sym c.from-2.ensures) column in
    let area : ℕ = unsigned_abs (to_z w64 (of_z w64 c.args.array.now.cut_x)) * unsigned_abs (to_z w64 (of_z w64 c.args.array.now.cut_y)) in
    let low = density_below c.args.layer.now.density (10 ^ 14) (10 ^ 15) (area * 1000000000000) (c.from-3.result * c.from-4.result) c.in_ok-density.density c.requires.layer.density c.in_ok-density.ensures in
    omega (arith, current_product c.in_ok-density.density (unsigned_abs (to_z w64 (of_z w64 c.args.array.now.cut_x))) (unsigned_abs (to_z w64 (of_z w64 c.args.array.now.cut_y))) c.from.result c.from-2.result low in_row.all in_column.all)
