use Rattle.std.proofs.Common.{SFits, w64, rules}
use Rattle.std.proofs.lemmas.Int.{to_z-of_z}
use Rattle.wire_names.proofs.via.via_with.Goals as goal

pub returns-clause-is : goal.returns-clause-is
returns-clause-is c =
    let via = c.args.via.now in
    let f1 : SFits w64 via.columns = search rules in
    let f2 : SFits w64 via.rows = search rules in
    let f3 : SFits w64 via.cut_x = search rules in
    let f4 : SFits w64 via.cut_y = search rules in
    let f5 : SFits w64 via.gap_x = search rules in
    let f6 : SFits w64 via.gap_y = search rules in
    let f7 : SFits w64 via.lower_x = search rules in
    let f8 : SFits w64 via.lower_y = search rules in
    let f9 : SFits w64 via.upper_x = search rules in
    let f10 : SFits w64 via.upper_y = search rules in
    let f11 : SFits w64 c.pitch.result = search rules in
    let f12 : SFits w64 c.pitch-2.result = search rules in
    simp to_z-of_z (simp (c.count.ensures.is, c.count-2.ensures.is, c.pitch.ensures.is, c.pitch-2.ensures.is) (simp to_z-of_z))
