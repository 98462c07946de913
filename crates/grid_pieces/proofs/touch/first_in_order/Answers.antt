use Rattle.std.proofs.Common.{length, subst}
use Rattle.grid_pieces.specs.inside.Sweep.{NoneBefore}
use Rattle.grid_pieces.proofs.First.{swept, none_touch, least_of}
use Rattle.grid_pieces.proofs.touch.first_in_order.Goals as goal

pub first_place-requires : goal.first_place-requires
first_place-requires c = swept c.args.metal.now c.requires.upright c.requires.in_order

pub returns-then-first-metal : goal.returns-then-first-metal
returns-then-first-metal c =
    let all = c.args.metal.now in
    none_touch all (subst (λ n. NoneBefore all n (length all)) c.if-first-metal.true c.in_ok-first.ensures.none)

pub touch_at-requires-clause-places : goal.touch_at-requires-clause-places
touch_at-requires-clause-places c =
    let end = c.second_place-second.ensures in
    least_of c.args.metal.now c.in_ok-first.first c.second_place-second.result c.in_ok-first.ensures c.if-first-metal.false end.behind end.within end.none end.touches
