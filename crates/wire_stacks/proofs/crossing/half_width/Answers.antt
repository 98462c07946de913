use Rattle.std.proofs.Common.{pos, false, get_or, subst, SFits, w64, to_z, rules, arith}
use Rattle.std.proofs.lemmas.Int.{to_z-of_z}
use Rattle.std.proofs.lemmas.List.{get_or_default, take_all}
use Rattle.std.proofs.lemmas.List.Elements.{All-contains}
use Rattle.wire_chains.specs.declared.via.ViaAt.{ViaAt}
use Rattle.wire_stacks.specs.inside.Halves.{ReachesX, IsHalfTo, IsUsable}
use Rattle.wire_stacks.specs.Vias.{via_at}
use Rattle.wire_stacks.proofs.Halving.{half_more, half_all, positive_x}
use Rattle.wire_stacks.proofs.crossing.half_width.Goals as goal

pub loop-via-preserved : goal.loop-via-preserved
loop-via-preserved c =
    let d : ViaAt = record { net = 0; x = pos 0; y = pos 0; layer = 0; held = false; via = 0; number = 0 } in
    let vias = c.args.vias.now in let chain = c.args.chain.now in
    let i = c.loop-via.via-index in let half = to_z w64 c.loop-via.half-bits in
    let via = get_or chain i d in
    let one : SFits w64 c.half_width_of.result = search rules in
    let most : SFits w64 c.greater-half.result = search rules in
    simp to_z-of_z
    (half_more ReachesX vias chain i via half c.half_width_of.result c.greater-half.result c.loop-via-test.true (get_or_default chain i d via c.loop-via-test.true)
    c.loop-via.invariant c.half_width_of.ensures c.greater-half.ensures.one (simp to_z-of_z at c.greater-half.ensures.other) (simp to_z-of_z at c.greater-half.ensures.either))

pub returns : goal.returns
returns c =
    let vias = c.args.vias.now in let chain = c.args.chain.now in
    let half = to_z w64 c.loop-via.half-bits in
    half_all ReachesX vias chain half c.requires.some
    (λ via other has reaches. positive_x (via_at vias via.via) other (All-contains (IsUsable vias) chain via c.requires.usable has).keeps reaches)
    (subst (λ taken. IsHalfTo ReachesX vias taken half) (take_all c.loop-via.via-index chain (omega arith)) c.loop-via.invariant)
