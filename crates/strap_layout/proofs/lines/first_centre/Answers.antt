use Rattle.std.proofs.Common.{◌≡◌, ℤ, pos, ◌+ℤ◌, ◌*ℤ◌, ◌^◌, ap, ◌∙◌, rules, arith, SFits, w64}
use Rattle.std.specs.Int.{w128}
use Rattle.std.proofs.lemmas.Int.{ints, to_z-of_z}
use Rattle.geom_rect.specs.declared.run.Run.{Run}
use Rattle.strap_layout.specs.Lines.{across}
use Rattle.strap_layout.specs.inside.Lines.{IsNear}
use Rattle.strap_layout.proofs.Steps.{place_near}
use Rattle.strap_layout.proofs.lines.first_centre.Goals as goal

pub returns : goal.returns
returns c =
    let rule = c.args.rule.now in
    let way = pos c.args.place *ℤ rule.apart in
    let apart : SFits w64 rule.apart = search rules in
    let offset : SFits w64 rule.offset = search rules in
    let edge : SFits w64 c.across.result.from = search rules in
    let stepped : SFits w128 c.stepped.result = search rules in
    let from_edge : c.from-edge.result ≡ c.across.result.from = simp to_z-of_z at c.from-edge.ensures in
    let from_offset : c.from.result ≡ rule.offset = simp to_z-of_z at c.from.ensures in
    let edge_fits : SFits w128 c.from-edge.result = search rules in
    let offset_fits : SFits w128 c.from.result = search rules in
    let sum : SFits w128 (c.from-edge.result +ℤ c.from.result) = omega (arith, ints) in
    let is : c.stepped.result ≡ (c.from-edge.result +ℤ c.from.result) +ℤ way = simp to_z-of_z at c.stepped.ensures in
    let near : IsNear (2 ^ 123) way = place_near c.args.place rule.apart c.requires apart in
    let low = near.0 in
    let high = near.1 in
    record {
      value = to_z-of_z w128 c.stepped.result stepped ∙ is
          ∙ ap (λ (z : ℤ). (z +ℤ c.from.result) +ℤ way) (from_edge ∙ ap (λ (run : Run). run.from) c.across.ensures)
          ∙ ap (λ (z : ℤ). ((across rule.axis c.args.core).from +ℤ z) +ℤ way) from_offset;
      near = simp to_z-of_z (omega (arith, ints), omega (arith, ints));
    }
