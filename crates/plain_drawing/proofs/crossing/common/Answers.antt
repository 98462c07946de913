use Rattle.std.proofs.Common.{◌≡◌, SFits, w64, rules}
use Rattle.std.specs.Int.{int_max, int_min}
use Rattle.std.proofs.lemmas.Int.{to_z-of_z}
use Rattle.plain_drawing.proofs.crossing.common.Goals as goal

pub returns : goal.returns
returns c =
    let a = c.args.a in
    let b = c.args.b in
    let ax1 : SFits w64 a.x1 = search rules in let ay1 : SFits w64 a.y1 = search rules in
    let ax2 : SFits w64 a.x2 = search rules in let ay2 : SFits w64 a.y2 = search rules in
    let bx1 : SFits w64 b.x1 = search rules in let by1 : SFits w64 b.y1 = search rules in
    let bx2 : SFits w64 b.x2 = search rules in let by2 : SFits w64 b.y2 = search rules in
    let left : SFits w64 c.max.result = search rules in let low : SFits w64 c.max-2.result = search rules in
    let right : SFits w64 c.min.result = search rules in let high : SFits w64 c.min-2.result = search rules in
    let x1 : c.max.result ≡ int_max a.x1 b.x1 = simp to_z-of_z at c.max.ensures.value in let y1 : c.max-2.result ≡ int_max a.y1 b.y1 = simp to_z-of_z at c.max-2.ensures.value in
    let x2 : c.min.result ≡ int_min a.x2 b.x2 = simp to_z-of_z at c.min.ensures.value in let y2 : c.min-2.result ≡ int_min a.y2 b.y2 = simp to_z-of_z at c.min-2.ensures.value in
    simp to_z-of_z (λ i. record { x1 = x1 i; y1 = y1 i; x2 = x2 i; y2 = y2 i })
