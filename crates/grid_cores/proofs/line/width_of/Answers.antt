use Rattle.std.proofs.Common.{◌+ℤ◌, ◌-ℤ◌, rules, arith, SFits, w64}
use Rattle.std.proofs.lemmas.Int.{ints, to_z-of_z}
use Rattle.geom_rect.specs.Drawn.{half}
use Rattle.grid_cores.proofs.line.width_of.Goals as goal

pub returns : goal.returns
returns c =
    let line = c.args.line in
    let width : SFits w64 line.width = search rules in
    let centre : SFits w64 line.centre = search rules in
    let wide = c.requires.0 in
    let from = c.requires.1 in
    let to = c.requires.2 in
    let halved : SFits w64 (half line.width) = omega (arith, ints) in
    let low : SFits w64 (line.centre -ℤ half line.width) = omega (arith, ints) in
    let high : SFits w64 (line.centre +ℤ half line.width) = omega (arith, ints) in
    simp to_z-of_z
