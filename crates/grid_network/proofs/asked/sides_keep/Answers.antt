use Rattle.std.proofs.Common.{◌≡◌, ◌↔◌, ℤ, ◌+ℤ◌, ◌-ℤ◌, IsTrue, subst, ap, ◌∙◌, arith, SFits, w64}
use Rattle.std.proofs.lemmas.Int.{ints, to_z-of_z}
use Rattle.geom_rect.specs.Rect.{IsCoordinate}
use Rattle.geom_rect.specs.Drawn.{half}
use Rattle.grid_network.proofs.asked.sides_keep.Goals as goal

pub returns : goal.returns
returns c =
    let centre : SFits w64 c.args.centre = c.ranges.centre in
    let width : SFits w64 c.args.width = c.ranges.width in
    let h : c.half_of-half.result ≡ half c.args.width = simp to_z-of_z at c.half_of-half.ensures.half in
    let inside = c.is_coordinate.ensures.0 in
    let halved : SFits w64 c.half_of-half.result = let a = c.half_of-half.ensures.least in let b = c.half_of-half.ensures.greatest in omega (arith, ints, a, b) in
    let low : c.lower_side.result ≡ c.args.centre -ℤ c.half_of-half.result = simp to_z-of_z at c.lower_side.ensures in
    let high : c.upper_side.result ≡ c.args.centre +ℤ c.half_of-half.result = simp to_z-of_z at c.upper_side.ensures in
    let low' = low ∙ ap (λ h. c.args.centre -ℤ h) h in
    let high' = high ∙ ap (λ h. c.args.centre +ℤ h) h in
    let F : ℤ → Type 0 = λ z. IsTrue c.are_coordinates.result ↔ (IsCoordinate z × IsCoordinate c.upper_side.result) in
    let G : ℤ → Type 0 = λ z. IsTrue c.are_coordinates.result ↔ (IsCoordinate (c.args.centre -ℤ half c.args.width) × IsCoordinate z) in
    let lower : SFits w64 c.lower_side.result = let t = c.lower_side.type_inv in omega (arith, ints, t) in
    let upper : SFits w64 c.upper_side.result = let t = c.upper_side.type_inv in omega (arith, ints, t) in
    let each : IsTrue c.are_coordinates.result ↔ (IsCoordinate c.lower_side.result × IsCoordinate c.upper_side.result) = simp to_z-of_z at c.are_coordinates.ensures in
    subst G high' (subst F low' each)
