use Rattle.std.proofs.Common.{◌↔◌, ◌+ℤ◌, ◌-ℤ◌, IsTrue, SFits, w64}
use Rattle.std.proofs.lemmas.Int.{to_z-of_z}
use Rattle.geom_rect.specs.Rect.{IsCoordinate}
use Rattle.geom_rect.specs.Drawn.{half}
use Rattle.grid_network.proofs.Measured.{lies}
use Rattle.grid_network.proofs.asked.edges_keep.Goals as goal

pub returns-then-are_coordinates : goal.returns-then-are_coordinates
returns-then-are_coordinates c =
    let centre : SFits w64 c.args.centre = c.ranges.centre in
    let width : SFits w64 c.args.width = c.ranges.width in
    let from : SFits w64 c.args.from = c.ranges.from in
    let to : SFits w64 c.args.to = c.ranges.to in
    let ends : IsCoordinate c.args.from × IsCoordinate c.args.to = simp to_z-of_z at (c.are_coordinates.ensures.0 c.if-are_coordinates.true) in
    let sides : IsTrue c.sides_keep.result ↔ (IsCoordinate (c.args.centre -ℤ half c.args.width) × IsCoordinate (c.args.centre +ℤ half c.args.width)) = simp to_z-of_z at c.sides_keep.ensures in
    lies c.args.axis c.args.centre c.args.width c.args.from c.args.to c.sides_keep.result ends sides
