use Rattle.std.proofs.Common.{SFits, w64, rules, sym, ◌∙◌, subst}
use Rattle.std.proofs.lemmas.Int.{to_z-of_z}
use Rattle.def_wiring.specs.declared.number.Quantity.TheVariants.{Any, NotNegative}
use Rattle.def_wiring.specs.Number.{IsNumber}
use Rattle.def_wiring.specs.Record.{IsReach}
use Rattle.def_wiring.proofs.wire.segment_of.Goals as goal

pub returns : goal.returns
returns c =
    let path = c.args.path.now in
    let from = c.args.from.now in
    let one = c.in_ok-one.one in
    let two = c.in_ok-two.two in
    let width : SFits w64 c.in_ok-width.width = search rules in
    let x1 : SFits w64 c.in_ok-one.one.x = search rules in
    let y1 : SFits w64 c.in_ok-one.one.y = search rules in
    let e1 : SFits w64 c.in_ok-one.one.e = search rules in
    let x2 : SFits w64 c.in_ok-two.two.x = search rules in
    let y2 : SFits w64 c.in_ok-two.two.y = search rules in
    let e2 : SFits w64 c.in_ok-two.two.e = search rules in
    record {
      layer = c.in_ok-layer.ensures ∙ c.bytes.ensures;
      width = subst (λ z. IsNumber NotNegative path.width z) (sym (to_z-of_z w64 c.in_ok-width.width width)) c.in_ok-width.ensures;
      x1 = subst (λ z. IsNumber Any from.x z) (sym (to_z-of_z w64 one.x x1)) c.in_ok-one.ensures.x;
      y1 = subst (λ z. IsNumber Any from.y z) (sym (to_z-of_z w64 one.y y1)) c.in_ok-one.ensures.y;
      e1 = subst (λ z. IsReach from.reach z) (sym (to_z-of_z w64 one.e e1)) c.in_ok-one.ensures.e;
      x2 = subst (λ z. IsNumber Any path.x z) (sym (to_z-of_z w64 two.x x2)) c.in_ok-two.ensures.x;
      y2 = subst (λ z. IsNumber Any path.y z) (sym (to_z-of_z w64 two.y y2)) c.in_ok-two.ensures.y;
      e2 = subst (λ z. IsReach path.reach z) (sym (to_z-of_z w64 two.e e2)) c.in_ok-two.ensures.e;
      straight = c.in_ok-straight.ensures;
      shape = c.shape_of.ensures;
    }
