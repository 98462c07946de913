use Rattle.std.proofs.Common.{◌≡◌, ◌+ℤ◌, ◌-ℤ◌, rules, SFits, w64}
use Rattle.std.proofs.lemmas.Int.{to_z-of_z}
use Rattle.ring_layout.specs.Rings.{taken}
use Rattle.ring_layout.proofs.drawing.outer_edges.Goals as goal

pub returns : goal.returns
returns c =
    let rule = c.args.rule.now in
    let core = c.args.core in
    let x1 : SFits w64 core.x1 = search rules in
    let y1 : SFits w64 core.y1 = search rules in
    let x2 : SFits w64 core.x2 = search rules in
    let y2 : SFits w64 core.y2 = search rules in
    let left : SFits w64 rule.left = search rules in
    let bottom : SFits w64 rule.bottom = search rules in
    let right : SFits w64 rule.right = search rules in
    let top : SFits w64 rule.top = search rules in
    let width_v : SFits w64 rule.width_v = search rules in
    let width_h : SFits w64 rule.width_h = search rules in
    let spacing_v : SFits w64 rule.spacing_v = search rules in
    let spacing_h : SFits w64 rule.spacing_h = search rules in
    let flat_from : SFits w64 c.outer_span-flat.result.from = search rules in
    let flat_to : SFits w64 c.outer_span-flat.result.to = search rules in
    let upright_from : SFits w64 c.outer_span-upright.result.from = search rules in
    let upright_to : SFits w64 c.outer_span-upright.result.to = search rules in
    let is_x1 : c.outer_span-flat.result.from ≡ (core.x1 -ℤ rule.left) -ℤ taken c.args.place rule.width_v rule.spacing_v =
    simp to_z-of_z at c.outer_span-flat.ensures.from in
    let is_x2 : c.outer_span-flat.result.to ≡ (core.x2 +ℤ rule.right) +ℤ taken c.args.place rule.width_v rule.spacing_v =
    simp to_z-of_z at c.outer_span-flat.ensures.to in
    let is_y1 : c.outer_span-upright.result.from ≡ (core.y1 -ℤ rule.bottom) -ℤ taken c.args.place rule.width_h rule.spacing_h =
    simp to_z-of_z at c.outer_span-upright.ensures.from in
    let is_y2 : c.outer_span-upright.result.to ≡ (core.y2 +ℤ rule.top) +ℤ taken c.args.place rule.width_h rule.spacing_h =
    simp to_z-of_z at c.outer_span-upright.ensures.to in
    simp to_z-of_z (λ i. record { x1 = is_x1 i; y1 = is_y1 i; x2 = is_x2 i; y2 = is_y2 i })
