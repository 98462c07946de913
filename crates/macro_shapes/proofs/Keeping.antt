-- What the whole shapes keep, and what is left of them.
use Rattle.std.proofs.Common.{ℤ, ◌≤ℤ◌, ◌<ℤ◌, ◌+ℤ◌, ◌-ℤ◌, ◌≡◌, List, [], ◌++◌, All, get_or, sym, ap, ◌∙◌, subst, arith}
use Rattle.std.proofs.lemmas.Int.{ints}
use Rattle.std.proofs.lemmas.List.Elements.{All-append, All-contains, All-map, All-same}
use Rattle.geom_rect.specs.declared.direction.Axis.{Axis}
use Rattle.geom_rect.specs.declared.direction.Axis.TheVariants.{X, Y}
use Rattle.geom_rect.specs.declared.drawn.Drawn.{Drawn}
use Rattle.geom_rect.specs.Drawn.{half, centred}
use Rattle.geom_rect.specs.Rect.{IsCoordinate, HasCoordinates}
use Rattle.lef_tech.specs.declared.tech.Tech.{Tech}
use Rattle.via_arrays.specs.Choice.{direction}
use Rattle.grid_cores.specs.Line.{LineKeeps, over_run}
use Rattle.grid_pieces.specs.Limits.{OneAxis}
use Rattle.grid_plan.specs.declared.record.Plan.{Plan}
use Rattle.grid_shapes.specs.inside.Sites.{ShapeKeeps}
use Rattle.halo_cuts.specs.declared.shape.GridShape.{GridShape}
use Rattle.halo_cuts.specs.Cut.{IsPart, IsPartOfOne}
use Rattle.block_stripes.specs.Blocks.{of_grid, ShapesKeep}
use Rattle.macro_shapes.specs.Shapes.{no_grid}

-- Shapes are gathered in three steps.
pub gathered : {A : Type 0} (start first both whole plain straps rings : List A) → start ≡ [] → first ≡ start ++ plain → both ≡ first ++ straps
    → whole ≡ both ++ rings → whole ≡ plain ++ straps ++ rings
gathered start first both whole plain straps rings none is_first is_both is =
    is ∙ ap (λ xs. xs ++ rings) (is_both ∙ ap (λ xs. xs ++ straps) (is_first ∙ ap (λ xs. xs ++ plain) none))

-- The shapes of all grids keep what those of a plan keep.
pub whole_keep : (tech : Tech) (plan : Plan) (plain : List Drawn) (straps rings whole : List GridShape) → All (ShapeKeeps tech plan) plain
    → ShapesKeep tech plan straps → ShapesKeep tech plan rings → whole ≡ of_grid no_grid plain ++ straps ++ rings → ShapesKeep tech plan whole
whole_keep tech plan plain straps rings whole of_plain of_straps of_rings are =
    let P = λ (s : GridShape). ShapeKeeps tech plan s.shape in
    All-same P whole (of_grid no_grid plain ++ straps ++ rings) are
    (All-append P (of_grid no_grid plain ++ straps) rings
    (All-append P (of_grid no_grid plain) straps (All-map P (λ (line : Drawn). record { grid = no_grid; shape = line }) plain of_plain) of_straps) of_rings)

-- The edges along a line.
edges : (axis : Axis) (centre width from to : ℤ) → HasCoordinates (centred axis centre width from to)
    → IsCoordinate (centre -ℤ half width) × IsCoordinate (centre +ℤ half width)
edges X centre width from to h = (h.1, h.3)
edges Y centre width from to h = (h.0, h.2)

pub lines_keep : (tech : Tech) (plan : Plan) (shapes : List GridShape) → ShapesKeep tech plan shapes → All (λ (s : GridShape). LineKeeps s.shape) shapes
lines_keep tech plan shapes keep k d within =
    let line = (get_or shapes k d).shape in
    let is = keep k d within in
    let at = edges line.axis line.centre line.width line.from line.to is.keeps.1 in
    (is.even, at.0, at.1)

-- A part of a run lies at coordinates where the run does.
between : (from to low high : ℤ) → IsCoordinate from → IsCoordinate to → from ≤ℤ low → low <ℤ high → high ≤ℤ to → IsCoordinate low × IsCoordinate high
between from to low high at_from at_to first some last =
    let a = at_from.0 in
    let b = at_to.1 in
    ((omega (arith, ints), omega (arith, ints)), (omega (arith, ints), omega (arith, ints)))

part_fits : (axis : Axis) (centre width from to low high : ℤ) → HasCoordinates (centred axis centre width from to) → from ≤ℤ low → low <ℤ high
    → high ≤ℤ to → HasCoordinates (centred axis centre width low high)
part_fits X centre width from to low high h first some last =
    let ends = between from to low high h.0 h.2 first some last in (ends.0, h.1, ends.1, h.3)
part_fits Y centre width from to low high h first some last =
    let ends = between from to low high h.1 h.3 first some last in (h.0, ends.0, h.2, ends.1)

part_keeps : (tech : Tech) (plan : Plan) (whole part : Drawn) → ShapeKeeps tech plan whole → IsPart whole part → ShapeKeeps tech plan part
part_keeps tech plan whole part keeps is =
    let run = is.run in
    let kept : ShapeKeeps tech plan (over_run whole run) = record {
      keeps = (keeps.keeps.0, part_fits whole.axis whole.centre whole.width whole.from whole.to run.from run.to keeps.keeps.1 is.from is.some is.to);
      even = keeps.even;
      net = keeps.net;
      layer = keeps.layer;
      axis = keeps.axis;
    } in
    subst (ShapeKeeps tech plan) (sym is.is) kept

pub parts_keep : (tech : Tech) (plan : Plan) (shapes : List GridShape) (left : List Drawn) → ShapesKeep tech plan shapes → All (IsPartOfOne shapes) left
    → All (ShapeKeeps tech plan) left
parts_keep tech plan shapes left keep parts k d within =
    let of = parts k d within in
    part_keeps tech plan of.0.shape (get_or left k d) (All-contains (λ (s : GridShape). ShapeKeeps tech plan s.shape) shapes of.0 keep of.1) of.2

pub one_axis : (tech : Tech) (plan : Plan) (shapes : List Drawn) → All (ShapeKeeps tech plan) shapes → OneAxis shapes
one_axis tech plan shapes keep a b has_a has_b same =
    (All-contains (ShapeKeeps tech plan) shapes a keep has_a).axis ∙ ap (direction tech) same ∙ sym (All-contains (ShapeKeeps tech plan) shapes b keep has_b).axis
