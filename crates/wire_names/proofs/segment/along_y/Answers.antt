use Rattle.std.proofs.Common.{SFits, w64, rules}
use Rattle.std.proofs.lemmas.Int.{to_z-of_z}
use Rattle.wire_names.proofs.segment.along_y.Goals as goal

pub returns-clause-is : goal.returns-clause-is
returns-clause-is c =
    let s = c.args.segment.now in
    let f1 : SFits w64 s.x1 = search rules in
    let f2 : SFits w64 s.y1 = search rules in
    let f3 : SFits w64 s.x2 = search rules in
    let f4 : SFits w64 s.y2 = search rules in
    let f5 : SFits w64 s.e1 = search rules in
    let f6 : SFits w64 s.e2 = search rules in
    let f7 : SFits w64 s.width = search rules in
    let f8 : SFits w64 c.low_end.result = search rules in
    let f9 : SFits w64 c.high_end.result = search rules in
    simp to_z-of_z (simp (c.low_end.ensures.is, c.high_end.ensures.is) (simp to_z-of_z))
