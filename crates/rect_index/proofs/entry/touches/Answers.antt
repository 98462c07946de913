use Rattle.std.proofs.Common.{◌≡◌, true, ◌&&◌, SFits, w64, rules, sym, ap, ◌∙◌}
use Rattle.std.proofs.lemmas.Int.{to_z-of_z}
use Rattle.rect_index.specs.Entry.{share}
use Rattle.rect_index.proofs.entry.touches.Goals as goal

pub returns-then-share : goal.returns-then-share
returns-then-share c =
    let window = c.args.window in
    let rect = c.args.rect in
    let wx1 : SFits w64 window.x1 = search rules in
    let wx2 : SFits w64 window.x2 = search rules in
    let wy1 : SFits w64 window.y1 = search rules in
    let wy2 : SFits w64 window.y2 = search rules in
    let x1 : SFits w64 rect.x1 = search rules in
    let y1 : SFits w64 rect.y1 = search rules in
    let x2 : SFits w64 rect.x2 = search rules in
    let y2 : SFits w64 rect.y2 = search rules in
    let told : c.share.result ≡ share window.x1 window.x2 rect.x1 rect.x2 = simp to_z-of_z at c.share.ensures in
    let first : share window.x1 window.x2 rect.x1 rect.x2 ≡ true = sym told ∙ c.if-share.true in
    let second : c.share-then-share.result ≡ share window.y1 window.y2 rect.y1 rect.y2 = simp to_z-of_z at c.share-then-share.ensures in
    second ∙ sym (ap (λ b. b && share window.y1 window.y2 rect.y1 rect.y2) first)
