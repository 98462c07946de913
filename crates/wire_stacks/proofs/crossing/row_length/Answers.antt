use Rattle.std.proofs.Common.{pos, ◌+ℤ◌, ◌-ℤ◌, ◌*ℤ◌, SFits, w64, arith}
use Rattle.std.proofs.lemmas.Int.{ints, to_z-of_z}
use Rattle.wire_stacks.proofs.Halving.{product_least}
use Rattle.wire_stacks.proofs.crossing.row_length.Goals as goal

pub returns-clause-some : goal.returns-clause-some
returns-clause-some c =
    let cut : SFits w64 c.args.cut = c.ranges.cut in
    let pitch : SFits w64 c.args.pitch = c.ranges.pitch in
    let least = product_least c.args.count c.args.pitch c.requires.some c.requires.some_pitch in
    let size = c.requires.size in
    let some = c.requires.cut in
    let near = c.requires.pitch in
    let many : SFits w64 (pos c.args.count) = omega (arith, ints) in
    let product : SFits w64 (pos c.args.count *ℤ c.args.pitch) = omega (arith, ints) in
    let sum : SFits w64 ((pos c.args.count *ℤ c.args.pitch) +ℤ c.args.cut) = omega (arith, ints) in
    let row : SFits w64 (((pos c.args.count *ℤ c.args.pitch) +ℤ c.args.cut) -ℤ c.args.pitch) = omega (arith, ints) in
    simp c.from.ensures (simp to_z-of_z (omega (arith, ints)))

pub returns-clause-few : goal.returns-clause-few
returns-clause-few c =
    let cut : SFits w64 c.args.cut = c.ranges.cut in
    let pitch : SFits w64 c.args.pitch = c.ranges.pitch in
    let least = product_least c.args.count c.args.pitch c.requires.some c.requires.some_pitch in
    let size = c.requires.size in
    let some = c.requires.cut in
    let near = c.requires.pitch in
    let many : SFits w64 (pos c.args.count) = omega (arith, ints) in
    let product : SFits w64 (pos c.args.count *ℤ c.args.pitch) = omega (arith, ints) in
    let sum : SFits w64 ((pos c.args.count *ℤ c.args.pitch) +ℤ c.args.cut) = omega (arith, ints) in
    let row : SFits w64 (((pos c.args.count *ℤ c.args.pitch) +ℤ c.args.cut) -ℤ c.args.pitch) = omega (arith, ints) in
    simp c.from.ensures (simp to_z-of_z (omega (arith, ints)))
