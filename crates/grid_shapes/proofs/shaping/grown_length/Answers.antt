use Rattle.std.proofs.Common.{◌+ℤ◌, arith, SFits, w64}
use Rattle.std.proofs.lemmas.Int.{ints, to_z-of_z}
use Rattle.geom_rect.specs.Drawn.{half}
use Rattle.grid_shapes.proofs.shaping.grown_length.Goals as goal

pub returns : goal.returns
returns c =
    let spacing : SFits w64 c.args.spacing = c.ranges.spacing in
    let width : SFits w64 c.args.width = c.ranges.width in
    let a = c.requires.spacing.0 in
    let b = c.requires.spacing.1 in
    let d = c.requires.width.0.0 in
    let e = c.requires.width.0.1 in
    let f = c.requires.width.1 in
    let halved : SFits w64 (half c.args.width) = omega (arith, ints) in
    let sum : SFits w64 (c.args.spacing +ℤ half c.args.width) = omega (arith, ints) in
    simp to_z-of_z
