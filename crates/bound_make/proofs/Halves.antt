-- Within the limits of a network the lists that are made meet the whole test of a certificate, its limits on size included.
use Rattle.std.proofs.Common.{ℕ, ◌<◌, ℤ, pos, ◌-ℤ◌, ◌<ℤ◌, arith, List}
use Rattle.std.proofs.lemmas.Int.{ints}
use Rattle.rounding.specs.Rounding.{floor_div}
use Rattle.grid_net.specs.Network.{Network, IsNetwork, entry_of}
use Rattle.grid_net.specs.Certificate.{flow_limit, IsHighHalf, IsLowHalf, IsTight}
use Rattle.bound_make.specs.inside.Raising.{held_floor, IsTightAbove, PadsWithin, IsHighAnswer, FitsLimits}
use Rattle.bound_make.specs.Scale.{margin, flow_reach}
use Rattle.bound_make.specs.inside.Mirror.{IsTightBelow, IsLowAnswer}
use Rattle.bound_make.proofs.Flows.{held_is_rule}
use Rattle.bound_make.proofs.Held.{flows_within, held_within}
use Rattle.bound_make.proofs.Sides.{high_is_plain, low_is_plain, low_flows_within}
use Rattle.bound_make.proofs.Limits.{reach_fits, range_fits}

module _ (net : Network) (wf : IsNetwork net) (k r : ℕ) (bottom top : ℤ) (fits : FitsLimits net k r bottom top) (pads : PadsWithin net bottom top) where
  pub reach_in_limit : flow_reach net < flow_limit
  reach_in_limit = let h = reach_fits net wf k r fits.nodes fits.resistors fits.loads fits.levels fits.ohms in omega arith

  pub span_in_limit : (top -ℤ bottom) <ℤ pos flow_limit
  span_in_limit = omega (arith, ints, fits.bottom_fits, fits.top_fits)

  pub high_is_half : (start high : ℕ → ℤ) → IsHighAnswer (held_floor (pos flow_limit)) net bottom top (margin net k r) start high → IsHighHalf net high × IsTightAbove floor_div net high
  high_is_half start high made =
      let plain = high_is_plain net wf flow_limit bottom top high made.holds made.tight pads reach_in_limit span_in_limit in
      let range = range_fits net wf k r fits.nodes fits.resistors fits.loads fits.levels fits.ohms in (
        record {
          values = λ i l. (let a = made.at_least i l in let b = made.at_most i l in (omega (arith, ints, a, range, fits.bottom_fits), omega (arith, ints, b, range, fits.top_fits)));
          flows = flows_within (held_floor (pos flow_limit)) (held_is_rule (pos flow_limit) (omega (arith, ints))) net wf flow_limit (held_within flow_limit) bottom top high made.holds made.tight pads reach_in_limit span_in_limit;
          holds = plain.0;
        },
        plain.1,
      )

  pub low_is_half : (start low : ℕ → ℤ) → IsLowAnswer (held_floor (pos flow_limit)) net bottom top (margin net k r) start low → IsLowHalf net low × IsTightBelow floor_div net low
  low_is_half start low made =
      let plain = low_is_plain net wf flow_limit bottom top low made.holds made.tight pads reach_in_limit span_in_limit in
      let range = range_fits net wf k r fits.nodes fits.resistors fits.loads fits.levels fits.ohms in (
        record {
          values = λ i l. (let a = made.at_least i l in let b = made.at_most i l in (omega (arith, ints, a, range, fits.bottom_fits), omega (arith, ints, b, range, fits.top_fits)));
          flows = low_flows_within net wf flow_limit bottom top low made.holds made.tight pads reach_in_limit span_in_limit;
          holds = plain.0;
        },
        plain.1,
      )

-- ---- the two sides of the tightness
module _ (net : Network) (high low : List ℤ) where
  pub tight_from_sides : IsTightAbove floor_div net (entry_of high) → IsTightBelow floor_div net (entry_of low) → IsTight net high low
  tight_from_sides up down = record { high_pads = up.pads; low_pads = down.pads; high_sums = up.sums; low_sums = down.sums }

  pub tight_above : IsTight net high low → IsTightAbove floor_div net (entry_of high)
  tight_above tight = record { pads = tight.high_pads; sums = tight.high_sums }

  pub tight_below : IsTight net high low → IsTightBelow floor_div net (entry_of low)
  tight_below tight = record { pads = tight.low_pads; sums = tight.low_sums }
