use Rattle.std.proofs.Common.{pos, ◌+ℤ◌, ◌*ℤ◌, subst, sym, ◌∙◌, arith, SFits, w64}
use Rattle.std.specs.Int.{w128}
use Rattle.std.proofs.lemmas.Int.{ints, to_z-of_z}
use Rattle.ring_layout.specs.Rings.{taken}
use Rattle.ring_layout.proofs.Fitting.{steps_same, sum_same}
use Rattle.ring_layout.proofs.drawing.taken.Goals as goal

pub overflow_mul-result : goal.overflow_mul-result
overflow_mul-result c =
    let low = c.requires.0 in
    let high = c.requires.1 in
    let width : SFits w64 c.args.width = c.ranges.width in
    let steps_fit : SFits w128 (pos c.args.place *ℤ (c.args.width +ℤ c.args.spacing)) = omega (arith, ints) in
    subst (SFits w128) (sym (steps_same c.args.place c.from.result c.from-2.result c.args.width c.args.spacing (omega arith) c.ranges.width c.ranges.spacing c.from.ensures c.from-2.ensures)) steps_fit

pub overflow_add-result-2 : goal.overflow_add-result-2
overflow_add-result-2 c =
    let low = c.requires.0 in
    let high = c.requires.1 in
    let width : SFits w64 c.args.width = c.ranges.width in
    let steps_fit : SFits w128 (pos c.args.place *ℤ (c.args.width +ℤ c.args.spacing)) = omega (arith, ints) in
    let steps = steps_same c.args.place c.from.result c.from-2.result c.args.width c.args.spacing (omega arith) c.ranges.width c.ranges.spacing c.from.ensures c.from-2.ensures in
    let taken_fits : SFits w128 (taken c.args.place c.args.width c.args.spacing) = omega (arith, ints) in
    subst (SFits w128) (sym (sum_same _ _ c.from-3.result c.args.width steps steps_fit c.from-3.ensures c.ranges.width)) taken_fits

pub returns : goal.returns
returns c =
    let low = c.requires.0 in
    let high = c.requires.1 in
    let width : SFits w64 c.args.width = c.ranges.width in
    let steps_fit : SFits w128 (pos c.args.place *ℤ (c.args.width +ℤ c.args.spacing)) = omega (arith, ints) in
    let steps = steps_same c.args.place c.from.result c.from-2.result c.args.width c.args.spacing (omega arith) c.ranges.width c.ranges.spacing c.from.ensures c.from-2.ensures in
    let taken_fits : SFits w128 (taken c.args.place c.args.width c.args.spacing) = omega (arith, ints) in
    let sum = sum_same _ _ c.from-3.result c.args.width steps steps_fit c.from-3.ensures c.ranges.width in
    to_z-of_z w128 _ (subst (SFits w128) (sym sum) taken_fits) ∙ sum
