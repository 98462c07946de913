use Rattle.std.proofs.Common.{◌≡◌, pos, ◌+ℤ◌, ◌-ℤ◌, [], ◌∷◌, rules, arith, SFits, w64}
use Rattle.std.proofs.lemmas.Int.{ints, to_z-of_z, quot_fits}
use Rattle.geom_rect.specs.Drawn.{half}
use Rattle.ring_layout.specs.Rings.{vertical_side, horizontal_side}
use Rattle.ring_layout.proofs.Fitting.{centres_fit}
use Rattle.ring_layout.proofs.drawing.sides_within.Goals as goal

pub overflow_add-outer : goal.overflow_add-outer
overflow_add-outer c =
    let edge : SFits w64 c.args.outer.x1 = search rules in
    let width : SFits w64 c.args.rule.now.width_v = search rules in
    let half_fits : SFits w64 (half c.args.rule.now.width_v) = quot_fits w64 c.args.rule.now.width_v (pos 2) width (omega (arith, ints)) in
    let fits = centres_fit c.args.rule.now c.args.net c.args.outer c.requires.width_v c.requires.width_h c.requires.within in
    simp to_z-of_z fits.left

pub overflow_add-outer-2 : goal.overflow_add-outer-2
overflow_add-outer-2 c =
    let edge : SFits w64 c.args.outer.y1 = search rules in
    let width : SFits w64 c.args.rule.now.width_h = search rules in
    let half_fits : SFits w64 (half c.args.rule.now.width_h) = quot_fits w64 c.args.rule.now.width_h (pos 2) width (omega (arith, ints)) in
    let fits = centres_fit c.args.rule.now c.args.net c.args.outer c.requires.width_v c.requires.width_h c.requires.within in
    simp to_z-of_z fits.bottom

pub overflow_sub-outer : goal.overflow_sub-outer
overflow_sub-outer c =
    let edge : SFits w64 c.args.outer.x2 = search rules in
    let width : SFits w64 c.args.rule.now.width_v = search rules in
    let half_fits : SFits w64 (half c.args.rule.now.width_v) = quot_fits w64 c.args.rule.now.width_v (pos 2) width (omega (arith, ints)) in
    let fits = centres_fit c.args.rule.now c.args.net c.args.outer c.requires.width_v c.requires.width_h c.requires.within in
    simp to_z-of_z fits.right

pub overflow_sub-outer-2 : goal.overflow_sub-outer-2
overflow_sub-outer-2 c =
    let edge : SFits w64 c.args.outer.y2 = search rules in
    let width : SFits w64 c.args.rule.now.width_h = search rules in
    let half_fits : SFits w64 (half c.args.rule.now.width_h) = quot_fits w64 c.args.rule.now.width_h (pos 2) width (omega (arith, ints)) in
    let fits = centres_fit c.args.rule.now c.args.net c.args.outer c.requires.width_v c.requires.width_h c.requires.within in
    simp to_z-of_z fits.top

pub returns : goal.returns
returns c =
    let rule = c.args.rule.now in
    let outer = c.args.outer in
    let x1 : SFits w64 outer.x1 = search rules in
    let y1 : SFits w64 outer.y1 = search rules in
    let x2 : SFits w64 outer.x2 = search rules in
    let y2 : SFits w64 outer.y2 = search rules in
    let width_v : SFits w64 rule.width_v = search rules in
    let width_h : SFits w64 rule.width_h = search rules in
    let half_v : SFits w64 (half rule.width_v) = quot_fits w64 rule.width_v (pos 2) width_v (omega (arith, ints)) in
    let half_h : SFits w64 (half rule.width_h) = quot_fits w64 rule.width_h (pos 2) width_h (omega (arith, ints)) in
    let fits = centres_fit rule c.args.net outer c.requires.width_v c.requires.width_h c.requires.within in
    let left_fits : SFits w64 (outer.x1 +ℤ half rule.width_v) = fits.left in
    let bottom_fits : SFits w64 (outer.y1 +ℤ half rule.width_h) = fits.bottom in
    let right_fits : SFits w64 (outer.x2 -ℤ half rule.width_v) = fits.right in
    let top_fits : SFits w64 (outer.y2 -ℤ half rule.width_h) = fits.top in
    let left : c.vertical_side.result ≡ vertical_side rule c.args.net outer (outer.x1 +ℤ half rule.width_v) = simp to_z-of_z at c.vertical_side.ensures in
    let bottom : c.horizontal_side.result ≡ horizontal_side rule c.args.net outer (outer.y1 +ℤ half rule.width_h) = simp to_z-of_z at c.horizontal_side.ensures in
    let right : c.vertical_side-2.result ≡ vertical_side rule c.args.net outer (outer.x2 -ℤ half rule.width_v) = simp to_z-of_z at c.vertical_side-2.ensures in
    let top : c.horizontal_side-2.result ≡ horizontal_side rule c.args.net outer (outer.y2 -ℤ half rule.width_h) = simp to_z-of_z at c.horizontal_side-2.ensures in
    λ i. left i ∷ bottom i ∷ right i ∷ top i ∷ []
