use Rattle.std.proofs.Common.{◌≡◌, true, ◌&&◌, SFits, w64, rules, sym, ap, ◌∙◌}
use Rattle.std.proofs.lemmas.Int.{to_z-of_z}
use Rattle.grid_plan.specs.Regions.{share_length}
use Rattle.grid_plan.proofs.span.share_area.Goals as goal

pub returns-then-share_length : goal.returns-then-share_length
returns-then-share_length c =
    let a = c.args.a in
    let b = c.args.b in
    let ax1 : SFits w64 a.x1 = search rules in
    let ay1 : SFits w64 a.y1 = search rules in
    let ax2 : SFits w64 a.x2 = search rules in
    let ay2 : SFits w64 a.y2 = search rules in
    let bx1 : SFits w64 b.x1 = search rules in
    let by1 : SFits w64 b.y1 = search rules in
    let bx2 : SFits w64 b.x2 = search rules in
    let by2 : SFits w64 b.y2 = search rules in
    let told : c.share_length.result ≡ share_length a.x1 a.x2 b.x1 b.x2 = simp to_z-of_z at c.share_length.ensures in
    let first : share_length a.x1 a.x2 b.x1 b.x2 ≡ true = sym told ∙ c.if-share_length.true in
    let second : c.share_length-then-share_length.result ≡ share_length a.y1 a.y2 b.y1 b.y2 = simp to_z-of_z at c.share_length-then-share_length.ensures in
    second ∙ sym (ap (λ z. z && share_length a.y1 a.y2 b.y1 b.y2) first)
