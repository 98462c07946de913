use Rattle.std.proofs.Common.{inl, inr, Option, ◌∷◌, [], pos, ◌-ℤ◌, SFits, w64, rules, refl, sym, subst, arith}
use Rattle.std.specs.Prelude.{MatchOption}
use Rattle.std.proofs.lemmas.Int.{ints, to_z-of_z}
use Rattle.grid_network.specs.declared.pad.Tap.{Tap}
use Rattle.grid_taps.specs.declared.tapping.Pair.{Pair}
use Rattle.grid_taps.specs.Taps.{HasNoTaps, AreTapsOf, LacksRail}
use Rattle.grid_taps.proofs.TapSteps.{zero_less}
use Rattle.grid_taps.proofs.tapping.pair_of.Goals as goal

pub returns-in_err-power-clause-pair : goal.returns-in_err-power-clause-pair
returns-in_err-power-clause-pair c =
    let lacks : LacksRail c.args.grid.now c.args.cells.now c.args.component.now = record {
      column = c.in_ok-seat.seat.column;
      domain = c.in_ok-seat.seat.domain;
      placed = c.in_ok-seat.ensures.seat;
      net = c.in_ok-seat.seat.domain.power;
      of_domain = inl refl;
      none = c.in_err-power.ensures;
    } in
    subst (λ (o : Option Pair). MatchOption o (HasNoTaps c.args.grid.now c.args.cells.now c.args.component.now)
    (λ pair. AreTapsOf c.args.grid.now c.args.cells.now c.args.component.now c.args.range.low c.args.range.high (pair.power ∷ pair.ground ∷ [])))
    (sym c.from_residual-in_err-power.ensures) (inr (inr (inr lacks)))

pub returns-in_err-ground-clause-pair : goal.returns-in_err-ground-clause-pair
returns-in_err-ground-clause-pair c =
    let lacks : LacksRail c.args.grid.now c.args.cells.now c.args.component.now = record {
      column = c.in_ok-seat.seat.column;
      domain = c.in_ok-seat.seat.domain;
      placed = c.in_ok-seat.ensures.seat;
      net = c.in_ok-seat.seat.domain.ground;
      of_domain = inr refl;
      none = c.in_err-ground.ensures;
    } in
    subst (λ (o : Option Pair). MatchOption o (HasNoTaps c.args.grid.now c.args.cells.now c.args.component.now)
    (λ pair. AreTapsOf c.args.grid.now c.args.cells.now c.args.component.now c.args.range.low c.args.range.high (pair.power ∷ pair.ground ∷ [])))
    (sym c.from_residual-in_err-ground.ensures) (inr (inr (inr lacks)))

pub returns-clause-pair : goal.returns-clause-pair
returns-clause-pair c =
    let column = c.in_ok-seat.seat.column in
    let range = c.args.range in
    let keeps = c.requires.range in
    let x : SFits w64 column.x = search rules in
    let low : SFits w64 range.low = search rules in
    let high : SFits w64 range.high = search rules in
    let minus_low : SFits w64 (pos 0 -ℤ range.low) = omega (arith, ints) in
    let minus_high : SFits w64 (pos 0 -ℤ range.high) = omega (arith, ints) in
    let power : Tap = record { piece = c.in_ok-power.power; along = column.x; low = range.low; high = range.high } in
    simp to_z-of_z (record {
      column = column;
      domain = c.in_ok-seat.seat.domain;
      placed = c.in_ok-seat.ensures.seat;
      power = c.in_ok-power.power;
      ground = c.in_ok-ground.ground;
      power_rail = c.in_ok-power.ensures;
      ground_rail = c.in_ok-ground.ensures;
      are = λ i. power ∷ record { piece = c.in_ok-ground.ground; along = column.x; low = zero_less range.high i; high = zero_less range.low i } ∷ [];
    })
