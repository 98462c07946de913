use Rattle.std.proofs.Common.{◌+ℤ◌, ◌-ℤ◌, refl, arith, rules, SFits, w64}
use Rattle.std.proofs.lemmas.Int.{ints, to_z-of_z}
use Rattle.geom_rect.specs.Drawn.{half}
use Rattle.grid_pieces.specs.Laws.Geometry.{half_within}
use Rattle.grid_pieces.proofs.blockages.window_of.Goals as goal

pub returns : goal.returns
returns c =
    let wide = c.requires.width in
    let low_in = c.requires.low in
    let high_in = c.requires.high in
    let centre : SFits w64 c.args.line.centre = search rules in
    let width : SFits w64 c.args.line.width = search rules in
    let halves = half_within c.args.line.width (omega (arith, ints)) in
    let halved : SFits w64 (half c.args.line.width) = omega (arith, ints) in
    let low : SFits w64 (c.args.line.centre -ℤ half c.args.line.width) = omega (arith, ints) in
    let high : SFits w64 (c.args.line.centre +ℤ half c.args.line.width) = omega (arith, ints) in
    simp to_z-of_z refl
