use Rattle.std.proofs.Common.{pos, get_or, subst, sym, arith}
use Rattle.std.proofs.lemmas.Grind.{common_steps}
use Rattle.std.proofs.lemmas.List.{get_or_default}
use Rattle.wire_names.specs.declared.record.Spot.{Spot}
use Rattle.wire_stacks.specs.Vias.{IsViaAt}
use Rattle.wire_stacks.proofs.Lists.{indexed_more}
use Rattle.wire_stacks.proofs.placed.placed.Goals as goal

pub loop-place-preserved : goal.loop-place-preserved
loop-place-preserved c =
    let d : Spot = record { net = 0; via = 0; x = pos 0; y = pos 0 } in
    let spots = c.args.spots.now in
    let i = c.loop-place.place in
    let spot = get_or spots i d in
    let old = c.loop-place.placed.items in
    let at = c.via_at.result in
    let is : IsViaAt c.args.vias.now c.args.lines.now i spot at = subst (λ n. IsViaAt c.args.vias.now c.args.lines.now n spot at) c.in_ok-number.ensures c.via_at.ensures in (
      grind (arith, common_steps),
      rw c.in_ok-push.ensures.items
          (indexed_more (IsViaAt c.args.vias.now c.args.lines.now) spots old i spot at (sym c.loop-place.invariant.0) (get_or_default spots i d spot c.loop-place-test.true) is c.loop-place.invariant.1),
    )
