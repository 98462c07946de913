use Rattle.std.proofs.Common.{SFits, w64, rules}
use Rattle.std.proofs.lemmas.Int.{to_z-of_z}
use Rattle.wire_stacks.proofs.Halving.{half_x}
use Rattle.wire_stacks.proofs.crossing.half_width_of.Goals as goal

pub returns : goal.returns
returns c =
    let via = c.args.via.now in
    let lower : SFits w64 via.lower_x = search rules in
    let upper : SFits w64 via.upper_x = search rules in
    let cut : SFits w64 via.cut_x = search rules in
    let pitch : SFits w64 via.pitch_x = search rules in
    let greater : SFits w64 c.greater.result = search rules in
    let half : SFits w64 c.half_of.result = search rules in
    simp to_z-of_z
    (half_x via c.greater.result c.half_of.result (simp to_z-of_z at c.greater.ensures.one) (simp to_z-of_z at c.greater.ensures.other) (simp to_z-of_z at c.greater.ensures.either)
    (simp to_z-of_z at c.half_of.ensures.reaches) (simp to_z-of_z at c.half_of.ensures.least) c.half_of.ensures.some c.half_of.ensures.few)
