use Rattle.std.proofs.Common.{pos, ◌+ℤ◌, ◌*ℤ◌, SFits, w64, rules, arith}
use Rattle.std.proofs.lemmas.Int.{ints, to_z-of_z}
use Rattle.wire_stacks.proofs.crossing.half_of.Goals as goal

pub returns-clause-reaches : goal.returns-clause-reaches
returns-clause-reaches c =
    let enclosure : SFits w64 c.args.enclosure = c.ranges.enclosure in
    let length = c.requires.enclosure in
    let some = c.row_length-row.ensures.some in
    let few = c.row_length-row.ensures.few in
    let cut : SFits w64 c.args.cut = c.ranges.cut in
    let pitch : SFits w64 c.args.pitch = c.ranges.pitch in
    let is = simp to_z-of_z at c.row_length-row.ensures.is in
    let row : SFits w64 c.row_length-row.result = omega (arith, ints) in
    let twice : SFits w64 (pos 2 *ℤ c.args.enclosure) = omega (arith, ints) in
    let long : SFits w64 (c.row_length-row.result +ℤ (pos 2 *ℤ c.args.enclosure)) = omega (arith, ints) in
    let half : SFits w64 c.half_up.result = search rules in
    let reaches = simp to_z-of_z at c.half_up.ensures.reaches in
    simp to_z-of_z (omega (arith, ints))

pub returns-clause-least : goal.returns-clause-least
returns-clause-least c = λ other le.
    let enclosure : SFits w64 c.args.enclosure = c.ranges.enclosure in
    let length = c.requires.enclosure in
    let some = c.row_length-row.ensures.some in
    let few = c.row_length-row.ensures.few in
    let cut : SFits w64 c.args.cut = c.ranges.cut in
    let pitch : SFits w64 c.args.pitch = c.ranges.pitch in
    let is = simp to_z-of_z at c.row_length-row.ensures.is in
    let row : SFits w64 c.row_length-row.result = omega (arith, ints) in
    let twice : SFits w64 (pos 2 *ℤ c.args.enclosure) = omega (arith, ints) in
    let long : SFits w64 (c.row_length-row.result +ℤ (pos 2 *ℤ c.args.enclosure)) = omega (arith, ints) in
    let half : SFits w64 c.half_up.result = search rules in
    let least = simp to_z-of_z at c.half_up.ensures.least in
    simp to_z-of_z (least other (omega (arith, ints)))
