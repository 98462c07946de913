use Rattle.std.proofs.Common.{◌+ℤ◌, ◌-ℤ◌, SFits, w64, arith}
use Rattle.std.proofs.lemmas.Int.{ints, to_z-of_z}
use Rattle.wire_stacks.proofs.crossing.around.Goals as goal

pub returns : goal.returns
returns c =
    let x : SFits w64 c.args.x = c.ranges.x in
    let y : SFits w64 c.args.y = c.ranges.y in
    let wide : SFits w64 c.args.wide = c.ranges.wide in
    let high : SFits w64 c.args.high = c.ranges.high in
    let near_x = c.requires.x in
    let near_y = c.requires.y in
    let wide_few = c.requires.wide in
    let high_few = c.requires.high in
    let x1 : SFits w64 (c.args.x -ℤ c.args.wide) = omega (arith, ints) in
    let y1 : SFits w64 (c.args.y -ℤ c.args.high) = omega (arith, ints) in
    let x2 : SFits w64 (c.args.x +ℤ c.args.wide) = omega (arith, ints) in
    let y2 : SFits w64 (c.args.y +ℤ c.args.high) = omega (arith, ints) in
    simp to_z-of_z
