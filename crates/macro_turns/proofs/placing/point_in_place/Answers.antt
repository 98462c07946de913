use Rattle.std.proofs.Common.{◌+ℤ◌, SFits, w64, arith, rules, sym, ap, subst}
use Rattle.std.proofs.lemmas.Int.{ints, to_z-of_z}
use Rattle.macro_turns.specs.declared.turned.Point.{Point}
use Rattle.macro_turns.specs.Turns.{moved}
use Rattle.macro_turns.proofs.Places.{IsTwice, near}
use Rattle.macro_turns.proofs.placing.point_in_place.Goals as goal

pub overflow_add-result : goal.overflow_add-result
overflow_add-result c =
    let corner = c.requires.placed.corner in
    let reach = subst (λ (p : Point). IsTwice p.x × IsTwice p.y) (sym c.turned-turned.ensures) (near c.args.placed c.args.point c.requires.placed c.requires.point) in
    omega (arith, ints)

pub overflow_add-result-2 : goal.overflow_add-result-2
overflow_add-result-2 c =
    let corner = c.requires.placed.corner in
    let reach = subst (λ (p : Point). IsTwice p.x × IsTwice p.y) (sym c.turned-turned.ensures) (near c.args.placed c.args.point c.requires.placed c.requires.point) in
    omega (arith, ints)

pub returns : goal.returns
returns c =
    let placed = c.args.placed in
    let at = c.turned-turned.result in
    let corner = c.requires.placed.corner in
    let reach = subst (λ (p : Point). IsTwice p.x × IsTwice p.y) (sym c.turned-turned.ensures) (near placed c.args.point c.requires.placed c.requires.point) in
    let x : SFits w64 placed.corner.x = search rules in
    let y : SFits w64 placed.corner.y = search rules in
    let turned_x : SFits w64 at.x = search rules in
    let turned_y : SFits w64 at.y = search rules in
    let sum_x : SFits w64 (placed.corner.x +ℤ at.x) = omega (arith, ints) in
    let sum_y : SFits w64 (placed.corner.y +ℤ at.y) = omega (arith, ints) in
    simp to_z-of_z (ap (moved placed.corner) c.turned-turned.ensures)
