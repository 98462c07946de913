use Rattle.std.proofs.Common.{◌+ℤ◌, ◌-ℤ◌, sym, ap, arith, SFits, w64}
use Rattle.std.proofs.lemmas.Int.{ints, to_z-of_z}
use Rattle.geom_rect.specs.Drawn.{half, centred}
use Rattle.grid_pieces.specs.Laws.Geometry.{half_within, edges}
use Rattle.grid_pieces.proofs.metal.rect_of.Goals as goal

pub returns-in-X : goal.returns-in-X
returns-in-X c =
    let width : SFits w64 c.args.width = c.ranges.width in
    let centre : SFits w64 c.args.centre = c.ranges.centre in
    let from : SFits w64 c.args.from = c.ranges.from in
    let to : SFits w64 c.args.to = c.ranges.to in
    let wide = c.requires.width in
    let halves = half_within c.args.width (omega (arith, ints)) in
    let ends = edges c.args.axis c.args.centre c.args.width c.args.from c.args.to c.requires.within in
    let halved : SFits w64 (half c.args.width) = omega (arith, ints) in
    let low : SFits w64 (c.args.centre -ℤ half c.args.width) = omega (arith, ints) in
    let high : SFits w64 (c.args.centre +ℤ half c.args.width) = omega (arith, ints) in
    simp to_z-of_z (ap (λ a. centred a c.args.centre c.args.width c.args.from c.args.to) (sym c.in-X.is))

pub returns-in-Y : goal.returns-in-Y
returns-in-Y c =
    let width : SFits w64 c.args.width = c.ranges.width in
    let centre : SFits w64 c.args.centre = c.ranges.centre in
    let from : SFits w64 c.args.from = c.ranges.from in
    let to : SFits w64 c.args.to = c.ranges.to in
    let wide = c.requires.width in
    let halves = half_within c.args.width (omega (arith, ints)) in
    let ends = edges c.args.axis c.args.centre c.args.width c.args.from c.args.to c.requires.within in
    let halved : SFits w64 (half c.args.width) = omega (arith, ints) in
    let low : SFits w64 (c.args.centre -ℤ half c.args.width) = omega (arith, ints) in
    let high : SFits w64 (c.args.centre +ℤ half c.args.width) = omega (arith, ints) in
    simp to_z-of_z (ap (λ a. centred a c.args.centre c.args.width c.args.from c.args.to) (sym c.in-Y.is))
