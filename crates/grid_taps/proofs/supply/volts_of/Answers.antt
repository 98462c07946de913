use Rattle.std.proofs.Common.{List, ◌+◌, Option, ℤ, subst, sym, ◌∙◌, take}
use Rattle.grid_taps.specs.inside.Steps.{AreVolts}
use Rattle.grid_taps.proofs.Supplies.{volts_more}
use Rattle.grid_taps.proofs.supply.volts_of.Goals as goal

pub loop-net-preserved : goal.loop-net-preserved
loop-net-preserved c =
    let nets = c.args.nets.now in
    let i = c.loop-net.net-index in (
      c.supply_of.ensures.same ∙ c.loop-net.invariant.0,
      subst (λ (volts : List (Option ℤ)). AreVolts c.args.supplies.now (take (i + 1) nets) volts) (sym c.in_ok-push.ensures.items)
          (volts_more c.args.supplies.now nets c.loop-net.volts.items i c.net-item.result c.bytes.result.now c.supply_of.result c.loop-net-test.true
          (c.bytes.ensures ∙ c.net-item.is) c.supply_of.ensures.volts c.loop-net.invariant.1),
    )
