use Rattle.std.proofs.Common.{◌≡◌, ◌∙◌, ℤ, pos, ◌*ℤ◌, refl, sym, ap, subst, arith, List, to_z, to_z-of_z, SFits, rules, unsigned_abs}
use mir.Syntax.{w128}
use Rattle.std.proofs.lemmas.Int.{ints}
use Rattle.grid_net.specs.declared.part.Pad.{Pad}
use Rattle.grid_net.specs.declared.part.Resistor.{Resistor}
use Rattle.bound_make.specs.Scale.{margin}
use Rattle.bound_make.specs.Scale.{IsGreatestOf, IsLeastVolts, IsGreatestVolts}
use Rattle.bound_make.specs.inside.Made.{HasRoom}
use Rattle.bound_make.proofs.Scales.{IsMeasured, product_is, product_fits, width_is, width_fits, range, room, scale}
use Rattle.bound_make.proofs.scale.scale_of.Goals as goal

-- What each goal below rests on.
measured : (c : goal.After-reach-reach) → IsMeasured c.args.net.now c.args.level c.least_volts-bottom.result c.greatest_volts-top.result c.greatest_ohms-ohms.result
measured c = record {
  built = c.nodes-nodes.ensures.built;
  level = c.requires;
  low = subst (λ (ps : List Pad). IsLeastVolts ps c.least_volts-bottom.result) c.pads-pads.ensures c.least_volts-bottom.ensures;
  high = subst (λ (ps : List Pad). IsGreatestVolts ps c.greatest_volts-top.result) c.pads-pads.ensures c.greatest_volts-top.ensures;
  most = subst (λ (rs : List Resistor). IsGreatestOf rs c.greatest_ohms-ohms.result) c.resistors.ensures c.greatest_ohms-ohms.ensures;
}

product : (c : goal.After-reach-reach) → SFits w128 (c.greatest_ohms-ohms.result *ℤ c.reach-reach.result)
product c =
    let is = product_is _ _ _ _ _ (measured c) c.reach-reach.result c.reach-reach.ensures in
    let small = product_fits _ _ _ _ _ (measured c) in
    omega (arith, ints, is, small)

width : (c : goal.After-reach-reach) → to_z w128 c.args.level *ℤ (c.greatest_ohms-ohms.result *ℤ c.reach-reach.result) ≡ pos (margin c.args.net.now c.args.level (unsigned_abs c.greatest_ohms-ohms.result))
width c =
    let level : to_z w128 c.args.level ≡ pos c.args.level = omega (arith, ints, c.ranges.level) in
    ap (λ z. z *ℤ (c.greatest_ohms-ohms.result *ℤ c.reach-reach.result)) level ∙ width_is _ _ _ _ _ (measured c) c.reach-reach.result c.reach-reach.ensures

whole : (c : goal.After-reach-reach) → SFits w128 (to_z w128 c.args.level *ℤ (c.greatest_ohms-ohms.result *ℤ c.reach-reach.result))
whole c =
    let is = width c in
    let wide = width_fits _ _ _ _ _ (measured c) in
    omega (arith, ints, is, wide)

pub overflow_mul-result : goal.overflow_mul-result
overflow_mul-result c =
    let fo : SFits w128 c.greatest_ohms-ohms.result = search rules in
    let fr : SFits w128 c.reach-reach.result = search rules in
    let f1 = product c in
    simp to_z-of_z (omega (arith, ints, f1))

pub overflow_mul-result-2 : goal.overflow_mul-result-2
overflow_mul-result-2 c =
    let fo : SFits w128 c.greatest_ohms-ohms.result = search rules in
    let fr : SFits w128 c.reach-reach.result = search rules in
    let f1 = product c in
    let f2 = whole c in
    let level : to_z w128 c.args.level ≡ pos c.args.level = omega (arith, ints, c.ranges.level) in
    simp to_z-of_z (omega (arith, ints, f2, level))

pub returns-clause-room : goal.returns-clause-room
returns-clause-room c =
    let b = c.least_volts-bottom.result in
    let t = c.greatest_volts-top.result in
    let fb : SFits w128 b = search rules in
    let ft : SFits w128 t = search rules in
    let fo : SFits w128 c.greatest_ohms-ohms.result = search rules in
    let fr : SFits w128 c.reach-reach.result = search rules in
    let f1 = product c in
    let f2 = whole c in
    simp to_z-of_z (subst (λ (z : ℤ). HasRoom b t z) (sym (width c)) (room _ _ _ _ _ (measured c)))

pub returns-clause-exact : goal.returns-clause-exact
returns-clause-exact c =
    let b = c.least_volts-bottom.result in
    let t = c.greatest_volts-top.result in
    let o = c.greatest_ohms-ohms.result in
    let fb : SFits w128 b = search rules in
    let ft : SFits w128 t = search rules in
    let fo : SFits w128 o = search rules in
    let fr : SFits w128 c.reach-reach.result = search rules in
    let f1 = product c in
    let f2 = whole c in
    let s = measured c in
    simp to_z-of_z ((record { level = c.args.level; ohms = unsigned_abs o; bottom = b; top = t }, scale _ _ _ _ _ s, refl, refl, sym (ap unsigned_abs (width c)), range _ _ _ _ _ s))
