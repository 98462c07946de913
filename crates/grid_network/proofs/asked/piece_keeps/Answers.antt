use Rattle.std.proofs.Common.{◌↔◌, ◌<ℤ◌, IsTrue, arith, rules, SFits, w64}
use Rattle.std.proofs.lemmas.Int.{ints, to_z-of_z}
use Rattle.geom_rect.specs.Rect.{HasCoordinates}
use Rattle.geom_rect.specs.Drawn.{centred}
use Rattle.grid_pieces.specs.Limits.{WidthKeeps}
use Rattle.grid_network.proofs.asked.piece_keeps.Goals as goal

pub returns : goal.returns
returns c =
    let p = c.args.piece.now in
    let width : SFits w64 p.width = search rules in
    let centre : SFits w64 p.centre = search rules in
    let from : SFits w64 p.from = search rules in
    let to : SFits w64 p.to = search rules in
    let wide : WidthKeeps p.width = simp to_z-of_z at (c.width_keeps.ensures.0 c.if-not-width_keeps.false) in
    let long : p.from <ℤ p.to = omega (arith, ints) in
    let edges : IsTrue c.edges_keep.result ↔ HasCoordinates (centred p.axis p.centre p.width p.from p.to) = simp to_z-of_z at c.edges_keep.ensures in
    (λ t. (wide, long, edges.0 t), λ h. edges.1 h.2)
