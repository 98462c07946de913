use Rattle.std.proofs.Common.{rules, arith, ◌+◌, ◌-◌, ◌<◌, ◌^◌}
use Rattle.fixed_decimal.proofs.Shifting.{raised_some, raised_none, lowered_some}
use Rattle.fixed_decimal.proofs.round.nearest.Goals as goal

pub returns-then-down-up-clause-some : goal.returns-then-down-up-clause-some
returns-then-down-up-clause-some c =
    let few : c.args.digits.dropped < 2 ^ 64 = search rules in
    let from = c.from.ensures in
    raised_some c.args.digits c.args.up c.args.down (c.args.up + c.from.result - c.args.down) c.requires.one few c.raised.result (omega arith) c.raised.ensures.some

pub returns-then-down-up-clause-none : goal.returns-then-down-up-clause-none
returns-then-down-up-clause-none c =
    let few : c.args.digits.dropped < 2 ^ 64 = search rules in
    let from = c.from.ensures in
    raised_none c.args.digits c.args.up c.args.down (c.args.up + c.from.result - c.args.down) c.requires.one few c.raised.result (omega arith) c.raised.ensures.none

pub returns-else-down-up-clause-some : goal.returns-else-down-up-clause-some
returns-else-down-up-clause-some c =
    let few : c.args.digits.dropped < 2 ^ 64 = search rules in
    let from = c.from.ensures in
    lowered_some c.args.digits c.args.up c.args.down (c.args.down - (c.args.up + c.from.result)) c.requires.one few c.lowered.result (omega arith) (omega arith) c.lowered.ensures
