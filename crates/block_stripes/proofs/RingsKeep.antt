-- What the rings around blocks keep.
use Rattle.std.proofs.Common.{◌≡◌, ℕ, ◌*◌, ◌<◌, ◌≤◌, ◌^◌, pos, ◌+ℤ◌, ◌-ℤ◌, true, List, All, filter, length, sym, ap, ◌∙◌, arith}
use Rattle.std.specs.Bool.{nat_eq}
use Rattle.std.specs.List.{range_with_len}
use Rattle.std.specs.Prelude.{slice_index}
use Rattle.std.proofs.Math.Nat.{mul-le-mul_left}
use Rattle.std.proofs.lemmas.Bool.{eqb-true}
use Rattle.std.proofs.lemmas.List.Elements.{All-filter, All-same, filter_passes}
use Rattle.geom_rect.specs.declared.direction.Axis.TheVariants.{X}
use Rattle.geom_rect.specs.declared.drawn.Drawn.{Drawn}
use Rattle.geom_rect.specs.declared.drawn.Shape.TheVariants.{Ring}
use Rattle.geom_rect.specs.declared.rect.Rect.{Rect}
use Rattle.geom_rect.specs.Drawn.{half, drawn_rect}
use Rattle.geom_rect.specs.Rect.{HasCoordinates}
use Rattle.lef_tech.specs.declared.tech.Tech.{Tech}
use Rattle.ring_layout.specs.Rings.{rings_of, sides_of, outer_edges, vertical_side, horizontal_side, FitDrawing}
use Rattle.grid_plan.specs.declared.record.Plan.{Plan}
use Rattle.grid_plan.specs.declared.record.RingAt.{RingAt}
use Rattle.grid_plan.specs.Keeping.{PlanKeeps, RingKeeps, LiesNear}
use Rattle.grid_shapes.specs.Shapes.{most_lines}
use Rattle.grid_shapes.specs.Site.{grid_of}
use Rattle.grid_shapes.specs.inside.Sites.{ShapeKeeps}
use Rattle.block_stripes.specs.declared.blocks.BlockBox.{BlockBox}
use Rattle.halo_cuts.specs.declared.shape.GridShape.{GridShape}
use Rattle.block_stripes.specs.Blocks.{BoxKeeps, boxes_of, ShapesKeep}
use Rattle.block_stripes.specs.Rings.{ring_over, ring_shapes, grid_rings, block_rings, ring_lines, AreFew}
use Rattle.block_stripes.proofs.Fits.{ring_fits, width_keeps}
use Rattle.block_stripes.proofs.Flat.{All-flat_map, numbers_below, all_four}
use Rattle.block_stripes.proofs.StrapsKeep.{boxes_near, shapes_of}

-- What a read past a list gives.
abbrev nothing : Drawn
nothing = record { net = 0; layer = 0; axis = X; centre = pos 0; width = pos 0; from = pos 0; to = pos 0; shape = Ring }

side_keeps : (tech : Tech) (plan : Plan) (ring : RingAt) (core : Rect) → RingKeeps tech plan ring → (place : ℕ) → place < length ring.rule.nets
    → All (λ (side : Drawn). HasCoordinates (drawn_rect side)) (sides_of ring.rule core place) → All (ShapeKeeps tech plan) (sides_of ring.rule core place)
side_keeps tech plan ring core keeps place within at =
    let net = keeps.nets place 0 within in
    let v = width_keeps ring.rule.width_v keeps.width_v in
    let h = width_keeps ring.rule.width_h keeps.width_h in
    let rule = ring.rule in
    let outer = outer_edges rule core place in
    let number = slice_index rule.nets place in
    all_four (ShapeKeeps tech plan) (vertical_side rule number outer (outer.x1 +ℤ half rule.width_v)) (horizontal_side rule number outer (outer.y1 +ℤ half rule.width_h))
    (vertical_side rule number outer (outer.x2 -ℤ half rule.width_v)) (horizontal_side rule number outer (outer.y2 -ℤ half rule.width_h))
    (record { keeps = (v, at 0 nothing (omega arith)); even = keeps.width_v.0; net = net; layer = keeps.vertical; axis = sym keeps.upright })
    (record { keeps = (h, at 1 nothing (omega arith)); even = keeps.width_h.0; net = net; layer = keeps.horizontal; axis = sym keeps.flat })
    (record { keeps = (v, at 2 nothing (omega arith)); even = keeps.width_v.0; net = net; layer = keeps.vertical; axis = sym keeps.upright })
    (record { keeps = (h, at 3 nothing (omega arith)); even = keeps.width_h.0; net = net; layer = keeps.horizontal; axis = sym keeps.flat })

ring_keeps : (tech : Tech) (plan : Plan) (ring : RingAt) (core : Rect) → RingKeeps tech plan ring → LiesNear (2 ^ 40) core
    → 4 * length ring.rule.nets ≤ most_lines → ShapesKeep tech plan (ring_over ring core)
ring_keeps tech plan ring core keeps near few =
    let fit = ring_fits tech plan ring core keeps near few in
    let n = length ring.rule.nets in
    shapes_of tech plan ring.grid (rings_of ring.rule core)
    (All-flat_map (λ (place : ℕ). place < n) (ShapeKeeps tech plan) (sides_of ring.rule core)
    (λ place within. side_keeps tech plan ring core keeps place within (fit place within)) (range_with_len 0 n) (numbers_below 0 n n (omega arith)))

-- A ring around some block has few nets.
few_nets : (n boxes k : ℕ) → k < boxes → 4 * (n * boxes) ≤ most_lines → 4 * n ≤ most_lines
few_nets n boxes k within few =
    let one : 1 ≤ boxes = omega arith in
    let times : n * 1 ≤ n * boxes = mul-le-mul_left n one in
    omega arith

-- A box around which a ring is drawn.
record IsAround (ring : RingAt) (core : Rect) : Type 0 where
  pub near : LiesNear (2 ^ 40) core
  pub few : 4 * length ring.rule.nets ≤ most_lines

all_around : (blocks : List BlockBox) (ring : RingAt) → All BoxKeeps blocks → ring_lines blocks ring ≤ most_lines → All (IsAround ring) (boxes_of blocks ring.grid)
all_around blocks ring near few k d within = record {
  near = boxes_near blocks ring.grid near k d within;
  few = few_nets (length ring.rule.nets) (length (boxes_of blocks ring.grid)) k within few;
}

pub around_fits : (tech : Tech) (plan : Plan) (blocks : List BlockBox) (ring : RingAt) → RingKeeps tech plan ring → All BoxKeeps blocks
    → ring_lines blocks ring ≤ most_lines → All (FitDrawing ring.rule) (boxes_of blocks ring.grid)
around_fits tech plan blocks ring keeps near few k d within =
    let is = all_around blocks ring near few k d within in
    ring_fits tech plan ring _ keeps is.near is.few

-- A ring that a grid draws.
record IsDrawn (tech : Tech) (plan : Plan) (blocks : List BlockBox) (ring : RingAt) : Type 0 where
  pub keeps : RingKeeps tech plan ring
  pub few : AreFew plan blocks ring

grid_keeps : (tech : Tech) (plan : Plan) (blocks : List BlockBox) (grid : ℕ) → PlanKeeps tech plan → All BoxKeeps blocks → All (AreFew plan blocks) plan.rings
    → (grid_of plan grid).over_macros ≡ true → ShapesKeep tech plan (grid_rings plan blocks grid)
grid_keeps tech plan blocks grid keeps near few over =
    let P = λ (s : GridShape). ShapeKeeps tech plan s.shape in
    let p = λ (ring : RingAt). nat_eq ring.grid grid in
    let Q = λ (ring : RingAt). IsDrawn tech plan blocks ring × (p ring ≡ true) in
    let each : All (IsDrawn tech plan blocks) plan.rings = λ k d within. record { keeps = keeps.rings k d within; few = few k d within } in
    let kept : All (IsDrawn tech plan blocks) (filter p plan.rings) = All-filter p (IsDrawn tech plan blocks) plan.rings each in
    let passed : All (λ (ring : RingAt). p ring ≡ true) (filter p plan.rings) = filter_passes p plan.rings in
    All-flat_map Q P (ring_shapes blocks)
    (λ ring q.
    let same : ring.grid ≡ grid = eqb-true ring.grid grid q.1 in
    let lines : ring_lines blocks ring ≤ most_lines = q.0.few (ap (λ (g : ℕ). (grid_of plan g).over_macros) same ∙ over) in
    All-flat_map (IsAround ring) P (ring_over ring) (λ core is. ring_keeps tech plan ring core q.0.keeps is.near is.few)
    (boxes_of blocks ring.grid) (all_around blocks ring near lines))
    (filter p plan.rings) (λ k d within. (kept k d within, passed k d within))

pub block_rings_keep : (tech : Tech) (plan : Plan) (blocks : List BlockBox) (shapes : List GridShape) → PlanKeeps tech plan → All BoxKeeps blocks
    → All (AreFew plan blocks) plan.rings → shapes ≡ block_rings plan blocks → ShapesKeep tech plan shapes
block_rings_keep tech plan blocks shapes keeps near few are =
    let P = λ (s : GridShape). ShapeKeeps tech plan s.shape in
    let p = λ (grid : ℕ). (grid_of plan grid).over_macros in
    let grids = range_with_len 0 (length plan.grids) in
    All-same P shapes (block_rings plan blocks) are
    (All-flat_map (λ (grid : ℕ). p grid ≡ true) P (grid_rings plan blocks) (λ grid over. grid_keeps tech plan blocks grid keeps near few over)
    (filter p grids) (filter_passes p grids))
