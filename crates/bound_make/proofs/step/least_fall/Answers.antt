use Rattle.std.proofs.Common.{length, arith, to_z-of_z, SFits, rules}
use mir.Syntax.{w128}
use Rattle.std.proofs.lemmas.Int.{ints, clamps}
use Rattle.bound_make.specs.inside.Moving.{FallsAtMost}
use Rattle.bound_make.proofs.Steps.{is_place, least_step}
use Rattle.bound_make.proofs.step.least_fall.Goals as goal

pub fall_at-room-requires-clause-place_in : goal.fall_at-room-requires-clause-place_in
fall_at-room-requires-clause-place_in c =
    is_place (length c.args.x.now) c.args.resistors.now c.requires.ends c.args.x.now c.args.node c.args.around.now c.requires.around_is c.loop-place.place-index c.loop-place-test.true

pub loop-place-preserved : goal.loop-place-preserved
loop-place-preserved c =
    let inv = c.loop-place.invariant in
    let fo : SFits w128 c.loop-place.least = search rules in
    let fr : SFits w128 c.fall_at-room.result = search rules in
    let fm : SFits w128 c.min-least.result = search rules in
    let fu : SFits w128 c.args.units = search rules in
    let value = simp to_z-of_z at c.min-least.ensures.value in
    let here = simp to_z-of_z at c.fall_at-room.ensures.room in
    let so_far = simp to_z-of_z at inv.room in
    let keeps = FallsAtMost c.args.resistors.now c.args.x.now c.args.node c.args.units in
    let next = least_step keeps (λ a b place le room e least less. room e least (omega (arith, ints, less, le))) c.args.around.now c.loop-place.place-index c.loop-place.least c.fall_at-room.result c.min-least.result (record { positive = omega (arith, ints, inv.positive); at_most = omega (arith, ints, inv.at_most); room = λ k l e least less. so_far k l e least (omega (arith, ints, less)) }) c.fall_at-room.ensures.positive here (omega (arith, ints, clamps, value)) in
    simp to_z-of_z (record { positive = next.positive; at_most = next.at_most; room = next.room })
