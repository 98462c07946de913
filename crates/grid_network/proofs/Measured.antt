-- What is asked of a drawing, in the words of the steps.
use Rattle.std.proofs.Common.{◌↔◌, ◌<◌, ◌≤◌, ℤ, ◌+ℤ◌, ◌-ℤ◌, Bool, IsTrue, All, length, get_or, arith}
use Rattle.std.proofs.lemmas.Int.{ints}
use Rattle.geom_rect.specs.Rect.{IsCoordinate, HasCoordinates}
use Rattle.geom_rect.specs.Drawn.{half, centred}
use Rattle.geom_rect.specs.declared.direction.Axis.{Axis}
use Rattle.geom_rect.specs.declared.direction.Axis.TheVariants.{X, Y}
use Rattle.lef_tech.specs.declared.tech.Tech.{Tech}
use Rattle.grid_pieces.specs.declared.grid.Grid.{Grid}
use Rattle.grid_pieces.specs.declared.piece.Piece.{Piece}
use Rattle.grid_pieces.specs.declared.piece.StackAt.{StackAt}
use Rattle.grid_pieces.specs.Limits.{PieceKeeps}
use Rattle.grid_network.specs.Drawing.{Drawing}
use Rattle.grid_network.specs.Asked.{IsStackOf, IsDrawing}
use Rattle.grid_network.specs.inside.Steps.{IsMeasured, IsStacked}

ends_are : (o : Axis) (centre width from to : ℤ) → HasCoordinates (centred o centre width from to) → IsCoordinate from × IsCoordinate to
ends_are X centre width from to h = (h.0, h.2)
ends_are Y centre width from to h = (h.1, h.3)

pub measured : (piece : Piece) → PieceKeeps piece → IsMeasured piece
measured piece keeps =
    let ends = ends_are piece.axis piece.centre piece.width piece.from piece.to keeps.2 in
    let low = keeps.0.0 in
    let high = keeps.0.1 in
    record { wide = omega (arith, ints, low); narrow = omega (arith, ints, high); from = ends.0; to = ends.1 }

pub stacked : (grid : Grid) (tech : Tech) (s : StackAt) → IsStackOf grid tech s → IsStacked s
stacked grid tech s is =
    let up = is.rising in
    let n = is.arrays in
    let m = is.ohms in
    record { arrays = omega (arith, up, n); resistances = omega (arith, n, m) }

pub all_measured : (d : Drawing) (tech : Tech) → IsDrawing d tech → All IsMeasured d.grid.pieces
all_measured d tech is k x within = measured (get_or d.grid.pieces k x) (is.pieces k x within).keeps

pub all_end : (d : Drawing) (tech : Tech) → IsDrawing d tech → All (λ p. IsCoordinate p.to) d.grid.pieces
all_end d tech is k x within = (all_measured d tech is k x within).to

pub all_stacked : (d : Drawing) (tech : Tech) → IsDrawing d tech → All IsStacked d.grid.stacks
all_stacked d tech is k x within = stacked d.grid tech (get_or d.grid.stacks k x) (is.stacks k x within)

pub all_rise : (d : Drawing) (tech : Tech) → IsDrawing d tech → All (λ s. s.stack.from ≤ s.stack.to) d.grid.stacks
all_rise d tech is k x within = let up = (is.stacks k x within).rising in omega (arith, up)

pub pads_on : (d : Drawing) (tech : Tech) → IsDrawing d tech → All (λ p. p.piece < length d.grid.pieces) d.pads
pads_on d tech is k x within = (is.pads k x within).piece

pub taps_on : (d : Drawing) (tech : Tech) → IsDrawing d tech → All (λ t. t.piece < length d.grid.pieces) d.taps
taps_on d tech is k x within = (is.taps k x within).piece

-- the edges of a piece lie at coordinates where its ends and its sides do
pub lies : (o : Axis) (centre width from to : ℤ) (b : Bool) → IsCoordinate from × IsCoordinate to → IsTrue b ↔ (IsCoordinate (centre -ℤ half width) × IsCoordinate (centre +ℤ half width))
    → IsTrue b ↔ HasCoordinates (centred o centre width from to)
lies X centre width from to b ends sides = (λ t. let s = sides.0 t in (ends.0, s.0, ends.1, s.1), λ h. sides.1 (h.1, h.3))
lies Y centre width from to b ends sides = (λ t. let s = sides.0 t in (s.0, ends.0, s.1, ends.1), λ h. sides.1 (h.0, h.2))
