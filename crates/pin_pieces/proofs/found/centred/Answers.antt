use Rattle.std.proofs.Common.{◌+ℤ◌, ◌-ℤ◌, pos, ◌≤ℤ◌, sym, ap, arith, SFits, w64, rules}
use Rattle.std.proofs.lemmas.Int.{ints, to_z-of_z}
use Rattle.geom_rect.specs.declared.direction.Axis.{Axis}
use Rattle.geom_rect.specs.Drawn.{half, centred}
use Rattle.grid_pieces.specs.Laws.Geometry.{half_within, edges}
use Rattle.pin_pieces.proofs.found.centred.Goals as goal

pub returns-in-X : goal.returns-in-X
returns-in-X c =
    let p = c.args in
    let wide : pos 0 ≤ℤ p.width = omega (arith, ints, c.requires.width.0) in
    let halves = half_within p.width wide in
    let ends = edges p.axis p.centre p.width p.from p.to c.requires.coordinates in
    let width : SFits w64 p.width = search rules in
    let centre : SFits w64 p.centre = search rules in
    let from : SFits w64 p.from = search rules in
    let to : SFits w64 p.to = search rules in
    let halved : SFits w64 (half p.width) = omega (arith, ints) in
    let low : SFits w64 (p.centre -ℤ half p.width) = omega (arith, ints) in
    let high : SFits w64 (p.centre +ℤ half p.width) = omega (arith, ints) in
    simp to_z-of_z (sym (ap (λ (axis : Axis). centred axis p.centre p.width p.from p.to) c.in-X.is))

pub returns-in-Y : goal.returns-in-Y
returns-in-Y c =
    let p = c.args in
    let wide : pos 0 ≤ℤ p.width = omega (arith, ints, c.requires.width.0) in
    let halves = half_within p.width wide in
    let ends = edges p.axis p.centre p.width p.from p.to c.requires.coordinates in
    let width : SFits w64 p.width = search rules in
    let centre : SFits w64 p.centre = search rules in
    let from : SFits w64 p.from = search rules in
    let to : SFits w64 p.to = search rules in
    let halved : SFits w64 (half p.width) = omega (arith, ints) in
    let low : SFits w64 (p.centre -ℤ half p.width) = omega (arith, ints) in
    let high : SFits w64 (p.centre +ℤ half p.width) = omega (arith, ints) in
    simp to_z-of_z (sym (ap (λ (axis : Axis). centred axis p.centre p.width p.from p.to) c.in-Y.is))
