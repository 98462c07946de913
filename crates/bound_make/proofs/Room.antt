-- How far a difference of potential may move before the held flow has changed by so many units.
use Rattle.std.proofs.Common.{◌⊎◌, inl, inr, ap, ◌≡◌, ◌*◌, ◌^◌, ℤ, pos, neg_ℤ, ◌+ℤ◌, ◌-ℤ◌, ◌*ℤ◌, ◌≤ℤ◌, ◌<ℤ◌, arith}
use Rattle.std.proofs.lemmas.Int.{ints, clamps, by_lt_z}
use Rattle.std.specs.Int.{int_min}
use Rattle.rounding.specs.Rounding.{IsFloor, floor_div}
use Rattle.rounding.specs.Laws.{times_le, times_lt_out, times_next, times_one, times_sum, times_difference, floor_is, floor_in_limit}
use Rattle.grid_net.specs.Limits.{IsInLimit}
use Rattle.grid_net.specs.Certificate.{value_limit, flow_limit}
use Rattle.bound_make.specs.inside.Raising.{held}
use Rattle.bound_make.specs.inside.Moving.{held_rule}

abbrev pub far : ℤ
far = pos (10 ^ 37)

abbrev pub limit : ℤ
limit = pos flow_limit

times_zero : (r : ℤ) → r *ℤ pos 0 ≡ pos 0
times_zero r = let a = times_sum r (pos 0) (pos 0) in omega (arith, ints, a)

-- A flow is as it is, or held at one end of the limit.
abbrev IsHeld : ℤ → Type 0
IsHeld a = (held limit a ≡ a) ⊎ (((held limit a ≡ limit) × (limit ≤ℤ a)) ⊎ ((held limit a ≡ neg_ℤ limit) × (a <ℤ neg_ℤ limit)))

-- What the room of a step rests on: where it ends, as a flow `to` that is `is`, and as a potential, which both fit.
pub record IsEnd (z r from to is : ℤ) : Type 0 where
  pub from_is : from ≡ held_rule z r
  pub within : IsInLimit (2 * 10 ^ 37) to
  pub volts_are : r *ℤ to ≡ r *ℤ is
  pub volts_within : IsInLimit (4 * value_limit) (r *ℤ to)

-- A flow that is not held at the upper limit is at least the floor, and its potential lies between 0 and the difference, or near it.
module _ (z r u : ℤ) (resists : pos 1 ≤ℤ r) (few : r ≤ℤ pos (10 ^ 12)) (within : IsInLimit (2 * value_limit) z) (some : pos 1 ≤ℤ u) where
  abbrev F : ℤ
  F = floor_div z r

  abbrev flow : ℤ
  flow = held_rule z r

  abbrev most : ℤ
  most = floor_div far r

  abbrev units : ℤ
  units = int_min u most

  abbrev f : IsFloor z r F
  f = floor_is z r resists

  abbrev g : IsFloor far r most
  g = floor_is far r resists

  pub most_some : pos 1 ≤ℤ most
  most_some =
      let a : (r *ℤ pos 1) <ℤ (r *ℤ (most +ℤ pos 1)) = omega (arith, ints, g.next_is_above, times_one r, few) in
      let b = times_lt_out r (pos 1) (most +ℤ pos 1) resists a in
      omega (arith, ints, b)

  pub most_fits : most ≤ℤ far
  most_fits = (floor_in_limit far r (10 ^ 37) resists (omega (arith, ints)) (omega (arith, ints))).1

  pub units_some : pos 1 ≤ℤ units
  units_some = omega (arith, ints, clamps, some, most_some)

  pub units_fit : units ≤ℤ far
  units_fit = omega (arith, ints, clamps, most_fits)

  -- The units that are taken fit.
  pub units_far : (r *ℤ units) ≤ℤ far
  units_far =
      let a = times_le r units most (omega (arith, ints, resists)) (omega (arith, ints, clamps)) in
      omega (arith, ints, a, g.reached)

  pub units_pos : r ≤ℤ (r *ℤ units)
  units_pos =
      let a = times_le r (pos 1) units (omega (arith, ints, resists)) units_some in
      omega (arith, ints, a, times_one r)

  pub flow_within : IsInLimit flow_limit flow
  flow_within = (omega (arith, ints, clamps), omega (arith, ints, clamps))

  -- A flow's difference of potential is near the difference, or between it and 0 where the flow is held.
  pub flow_volts : IsInLimit (3 * value_limit) (r *ℤ flow)
  flow_volts = by_case (held_cases F)
    where
      next : r *ℤ (F +ℤ pos 1) ≡ r *ℤ F +ℤ r
      next = times_next r F

      held_cases : (a : ℤ) → IsHeld a
      held_cases a = by_lt_z a (neg_ℤ limit) (λ lt. inr (inr (omega (arith, ints, clamps), lt))) (λ ge. by_lt_z limit a (λ lt. inr (inl (omega (arith, ints, clamps), omega (arith, ints)))) (λ le. inl (omega (arith, ints, clamps))))

      by_case : IsHeld F → IsInLimit (3 * value_limit) (r *ℤ flow)
      by_case (inl e) =
          let same = ap (λ a. r *ℤ a) e in
          (omega (arith, ints, same, f.next_is_above, next, within, few), omega (arith, ints, same, f.reached, within))
      by_case (inr (inl (e, le))) =
          let same = ap (λ a. r *ℤ a) e in
          let a = times_le r limit F (omega (arith, ints, resists)) le in
          let b = times_le r (pos 0) limit (omega (arith, ints, resists)) (omega (arith, ints)) in
          (omega (arith, ints, same, b, times_zero r), omega (arith, ints, same, a, f.reached, within))
      by_case (inr (inr (e, lt))) =
          let same = ap (λ a. r *ℤ a) e in
          let a = times_le r (F +ℤ pos 1) (neg_ℤ limit) (omega (arith, ints, resists)) (omega (arith, ints, lt)) in
          let b = times_le r (neg_ℤ limit) (pos 0) (omega (arith, ints, resists)) (omega (arith, ints)) in
          (omega (arith, ints, same, a, f.next_is_above, within), omega (arith, ints, same, b, times_zero r))

  -- The flow at which the room ends, counted up or down from the held flow by the units that are taken.
  pub rise_end : (from more : ℤ) → from ≡ flow → more ≡ units → IsEnd z r from (from +ℤ more) (flow +ℤ units)
  rise_end from more e n =
      let same : from +ℤ more ≡ flow +ℤ units = omega (arith, ints, e, n) in
      let volts : r *ℤ (from +ℤ more) ≡ r *ℤ (flow +ℤ units) = ap (λ i. r *ℤ i) same in
      record {
        from_is = e;
        within = (omega (arith, ints, same, flow_within, units_some), omega (arith, ints, same, flow_within, units_fit));
        volts_are = volts;
        volts_within = (
          omega (arith, ints, volts, times_sum r flow units, flow_volts, units_pos, resists),
          omega (arith, ints, volts, times_sum r flow units, flow_volts, units_far),
        );
      }

  pub fall_end : (from less : ℤ) → from ≡ flow → less ≡ units → IsEnd z r from (from -ℤ less) (flow -ℤ units)
  fall_end from less e n =
      let same : from -ℤ less ≡ flow -ℤ units = omega (arith, ints, e, n) in
      let volts : r *ℤ (from -ℤ less) ≡ r *ℤ (flow -ℤ units) = ap (λ i. r *ℤ i) same in
      record {
        from_is = e;
        within = (omega (arith, ints, same, flow_within, units_fit), omega (arith, ints, same, flow_within, units_some));
        volts_are = volts;
        volts_within = (
          omega (arith, ints, volts, times_difference r flow units, flow_volts, units_far),
          omega (arith, ints, volts, times_difference r flow units, flow_volts, units_pos, resists),
        );
      }

  -- ---- rising
  pub rise_some : flow <ℤ limit → pos 1 ≤ℤ (r *ℤ (flow +ℤ units) -ℤ z)
  rise_some low =
      let a = times_le r (F +ℤ pos 1) (flow +ℤ units) (omega (arith, ints, resists)) (omega (arith, ints, clamps, low, units_some)) in
      omega (arith, ints, a, f.next_is_above)

  pub rise_room_is : flow <ℤ limit → (e : ℤ) → pos 0 ≤ℤ e → e <ℤ (r *ℤ (flow +ℤ units) -ℤ z) → (held_rule (z +ℤ e) r -ℤ flow) <ℤ u
  rise_room_is low e least less =
      let g' = floor_is (z +ℤ e) r resists in
      let b = times_lt_out r (floor_div (z +ℤ e) r) (flow +ℤ units) resists (omega (arith, ints, g'.reached, less)) in
      let fits = flow_within in
      held_less (floor_div (z +ℤ e) r) flow u units b fits (omega (arith, ints, clamps)) some
    where
      held_less : (G a u s : ℤ) → G <ℤ (a +ℤ s) → IsInLimit flow_limit a → s ≤ℤ u → pos 1 ≤ℤ u → (held limit G -ℤ a) <ℤ u
      held_less G a u s h w k o = omega (arith, ints, clamps, w)

  pub rise_room_full : limit ≤ℤ flow → (e : ℤ) → (held_rule (z +ℤ e) r -ℤ flow) <ℤ u
  rise_room_full full e = at_top (floor_div (z +ℤ e) r) flow u full some
    where
      at_top : (G a u : ℤ) → limit ≤ℤ a → pos 1 ≤ℤ u → (held limit G -ℤ a) <ℤ u
      at_top G a u h o = omega (arith, ints, clamps)

  -- ---- falling
  pub fall_some : neg_ℤ limit <ℤ flow → pos 1 ≤ℤ (z -ℤ r *ℤ (flow -ℤ units))
  fall_some high =
      let a = times_le r (flow -ℤ units) (F -ℤ pos 1) (omega (arith, ints, resists)) (omega (arith, ints, clamps, high, units_some)) in
      omega (arith, ints, a, f.reached, times_difference r F (pos 1), times_one r, resists)

  pub fall_room_is : neg_ℤ limit <ℤ flow → (e : ℤ) → pos 0 ≤ℤ e → e ≤ℤ (z -ℤ r *ℤ (flow -ℤ units)) → (flow -ℤ held_rule (z -ℤ e) r) ≤ℤ u
  fall_room_is high e least less =
      let g' = floor_is (z -ℤ e) r resists in
      let b = times_lt_out r (flow -ℤ units) (floor_div (z -ℤ e) r +ℤ pos 1) resists (omega (arith, ints, g'.next_is_above, less)) in
      held_less (floor_div (z -ℤ e) r) flow u units (omega (arith, ints, b)) flow_within (omega (arith, ints, clamps)) some
    where
      held_less : (G a u s : ℤ) → (a -ℤ s) ≤ℤ G → IsInLimit flow_limit a → s ≤ℤ u → pos 1 ≤ℤ u → (a -ℤ held limit G) ≤ℤ u
      held_less G a u s h w k o = omega (arith, ints, clamps, w)

  pub fall_room_full : flow ≤ℤ neg_ℤ limit → (e : ℤ) → (flow -ℤ held_rule (z -ℤ e) r) ≤ℤ u
  fall_room_full full e = at_bottom (floor_div (z -ℤ e) r) flow u full some
    where
      at_bottom : (G a u : ℤ) → a ≤ℤ neg_ℤ limit → pos 1 ≤ℤ u → (a -ℤ held limit G) ≤ℤ u
      at_bottom G a u h o = omega (arith, ints, clamps)
