use Rattle.std.proofs.Common.{rules, SFits, w64}
use Rattle.std.proofs.lemmas.Int.{to_z-of_z}
use Rattle.geom_rect.proofs.Shares.{ShareSquare-decides, then_decides, else_decides}
use Rattle.geom_rect.proofs.rect.share_square.Goals as goal

pub returns-then-share_length : goal.returns-then-share_length
returns-then-share_length c =
    let ax1 : SFits w64 c.args.a.x1 = search rules in
    let ax2 : SFits w64 c.args.a.x2 = search rules in
    let bx1 : SFits w64 c.args.b.x1 = search rules in
    let bx2 : SFits w64 c.args.b.x2 = search rules in
    let ay1 : SFits w64 c.args.a.y1 = search rules in
    let ay2 : SFits w64 c.args.a.y2 = search rules in
    let by1 : SFits w64 c.args.b.y1 = search rules in
    let by2 : SFits w64 c.args.b.y2 = search rules in
    let side : SFits w64 c.args.side = c.ranges.side in
    let in_x = simp to_z-of_z at c.share_length.ensures in
    let in_y = simp to_z-of_z at c.share_length-then-share_length.ensures in
    then_decides _ _ _ c.share_length-then-share_length.result (ShareSquare-decides c.args.a c.args.b c.args.side) (in_x.0 c.if-share_length.true) in_y

pub returns-else-share_length : goal.returns-else-share_length
returns-else-share_length c =
    let ax1 : SFits w64 c.args.a.x1 = search rules in
    let ax2 : SFits w64 c.args.a.x2 = search rules in
    let bx1 : SFits w64 c.args.b.x1 = search rules in
    let bx2 : SFits w64 c.args.b.x2 = search rules in
    let side : SFits w64 c.args.side = c.ranges.side in
    let in_x = simp to_z-of_z at c.share_length.ensures in
    else_decides _ _ _ c.share_length.result (ShareSquare-decides c.args.a c.args.b c.args.side) in_x c.if-share_length.false
