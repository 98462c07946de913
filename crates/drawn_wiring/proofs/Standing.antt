-- Where the stacks of a drawing stand, and what their arrays have.
use Rattle.std.proofs.Common.{◌≡◌, ℕ, ◌+◌, ◌-◌, ◌*◌, ◌<◌, ◌≤◌, ◌^◌, ℤ, pos, negsuc, ◌+ℤ◌, ◌-ℤ◌, ◌≤ℤ◌, All, length, get_or, Some, sym, subst, ap, ◌∙◌, arith}
use Rattle.std.specs.Prelude.{unsigned_abs, neg_ℤ, slice_get}
use Rattle.std.proofs.lemmas.Int.{ints}
use Rattle.std.proofs.lemmas.List.Elements.{All-contains}
use Rattle.std.proofs.lemmas.Nat.{mul-le}
use Rattle.std.proofs.lemmas.Option.{slice_get-get_or, slice_get_within, get_or_from_slice_get}
use Rattle.geom_rect.specs.Drawn.{half, centred}
use Rattle.geom_rect.specs.Rect.{IsCoordinate, HasCoordinates}
use Rattle.geom_rect.specs.declared.direction.Axis.{Axis}
use Rattle.geom_rect.specs.declared.direction.Axis.TheVariants.{X, Y}
use Rattle.geom_rect.specs.declared.rect.Rect.{Rect}
use Rattle.lef_tech.specs.declared.rule.ViaRule.{ViaRule}
use Rattle.lef_tech.specs.declared.tech.Tech.{Tech}
use Rattle.lef_tech.specs.Limits.{TechKeeps, RuleKeeps, AreLengths}
use Rattle.lef_cells.specs.declared.record.Cells.{Cells}
use Rattle.def_design.specs.declared.record.Design.{Design}
use Rattle.def_design.specs.Limits.{DesignKeeps}
use Rattle.pdn_script.specs.declared.record.Script.{Script}
use Rattle.via_arrays.specs.declared.parts.CutArray.{CutArray}
use Rattle.via_arrays.specs.Arrays.{IsArray, enclosure_along, lower_along, upper_along}
use Rattle.via_arrays.specs.Choice.{direction}
use Rattle.via_arrays.specs.Cuts.{IsMost}
use Rattle.via_arrays.specs.Extents.{extent}
use Rattle.via_arrays.specs.Lengths.{IsUnits, in_units, IsOnGrid}
use Rattle.grid_pieces.specs.declared.grid.Grid.{Grid}
use Rattle.grid_pieces.specs.declared.piece.Piece.{Piece}
use Rattle.grid_pieces.specs.declared.piece.StackAt.{StackAt}
use Rattle.grid_pieces.specs.Limits.{PieceKeeps}
use Rattle.grid_stacks.specs.declared.connect.Site.{Site}
use Rattle.grid_stacks.specs.Crossing.{Stands, crossing_of}
use Rattle.grid_stacks.specs.Stacking.{IsStackAt}
use Rattle.grid_shapes.specs.Drawing.{IsDrawingOf, PieceStands}
use Rattle.drawn_grids.specs.Laws.Narrow.{narrow_x, narrow_y}
use Rattle.wiring_file.specs.Number.{limit}
use Rattle.wiring_file.specs.Written.{IsNear, IsLength, IsSome}
use Rattle.written_wiring.specs.Fits.{ArrayReads, StackReads}

-- ## numbers

within_limit : (z : ℤ) (n : ℕ) → neg_ℤ (pos n) ≤ℤ z → z ≤ℤ pos n → unsigned_abs z ≤ n
within_limit (pos m) n low high = omega (arith, ints)
within_limit (negsuc m) n low high = omega (arith, ints)

-- The middle of two coordinates is one.
near_middle : (c h : ℤ) → IsCoordinate (c -ℤ h) → IsCoordinate (c +ℤ h) → IsNear c
near_middle c h low high =
    let a : neg_ℤ (pos limit) ≤ℤ (c -ℤ h) = low.0 in
    let b : (c -ℤ h) ≤ℤ pos limit = low.1 in
    let d : neg_ℤ (pos limit) ≤ℤ (c +ℤ h) = high.0 in
    let e : (c +ℤ h) ≤ℤ pos limit = high.1 in
    within_limit c limit (omega (arith, ints)) (omega (arith, ints))

near_centre : (p : Piece) → PieceKeeps p → IsNear p.centre
near_centre p keeps = by_axis p.axis p.centre p.width p.from p.to keeps.2
  where
    by_axis : (axis : Axis) (centre width from to : ℤ) → HasCoordinates (centred axis centre width from to) → IsNear centre
    by_axis X centre width from to h = near_middle centre (half width) h.1 h.3
    by_axis Y centre width from to h = near_middle centre (half width) h.0 h.2

-- A length of a technology in units is within the limit, and one that is a whole number of units is at least one.
few_units : (units length : ℕ) → units ≤ 20000 → length ≤ 10 ^ 11 → in_units units length ≤ limit
few_units units length few short = let m : length * units ≤ 10 ^ 11 * 20000 = mul-le length units (10 ^ 11) 20000 short few in omega arith

some_units : (units length : ℕ) → 1 ≤ units → 0 < length → IsOnGrid units length → 1 ≤ in_units units length
some_units units length some long whole =
    let m : 1 * 1 ≤ length * units = mul-le 1 1 length units long some in
    omega arith

longer : (units a b : ℕ) → a ≤ b → in_units units a ≤ in_units units b
longer units a b le = let m : a * units ≤ b * units = mul-le a units b units le (omega arith) in omega arith

a_length : (z : ℤ) (n : ℕ) → z ≡ pos n → n ≤ limit → IsLength z
a_length z n is few = subst IsLength (sym is) (omega (arith, ints), few)

a_size : (z : ℤ) (n : ℕ) → z ≡ pos n → 1 ≤ n → n ≤ limit → IsSome z
a_size z n is some few = subst IsSome (sym is) (omega (arith, ints), few)

-- ## arrays

-- A row that fits has at most one cut for each unit of its extent.
count_fits : (most extent cut pitch enclosure n : ℕ) → 0 < n → 1 ≤ pitch → extent < 2 ^ 32 → IsMost most extent cut pitch enclosure n → (0 < n) × (n ≤ limit)
count_fits most extent cut pitch enclosure n some one small fits =
    let first = fits.fit 0 some in
    let row : cut + (n - 1) * pitch ≤ extent = omega (arith, ints, first.low) in
    let side : (n - 1) * 1 ≤ (n - 1) * pitch = mul-le (n - 1) 1 (n - 1) pitch (omega arith) one in
    (some, omega arith)

-- Both numbers of an enclosure are lengths, and so is that along an axis.
enclosure_short : (axis along : Axis) (enclosure : ℕ × ℕ) → AreLengths enclosure → enclosure_along axis along enclosure ≤ 10 ^ 11
enclosure_short X X enclosure h = let a = h.0 in let b = h.1 in omega arith
enclosure_short X Y enclosure h = let a = h.0 in let b = h.1 in omega arith
enclosure_short Y X enclosure h = let a = h.0 in let b = h.1 in omega arith
enclosure_short Y Y enclosure h = let a = h.0 in let b = h.1 in omega arith

rule_keeps : (tech : Tech) → TechKeeps tech → (place : ℕ) (rule : ViaRule) → slice_get tech.rules place ≡ Some rule → RuleKeeps tech rule
rule_keeps tech keeps place rule is =
    subst (RuleKeeps tech) (get_or_from_slice_get tech.rules place rule rule is) (keeps.rules place rule (slice_get_within tech.rules place rule is))

array_reads : (tech : Tech) (place : ℕ) (crossing : Rect) (units max_columns max_rows : ℕ) (array : CutArray) → TechKeeps tech → IsUnits units
    → extent X crossing < 2 ^ 32 → extent Y crossing < 2 ^ 32 → IsArray tech place crossing units max_columns max_rows array → ArrayReads array
array_reads tech place crossing units max_columns max_rows array keeps is_units wide high is =
    record {
      columns = count_fits max_columns (extent X crossing) _ _ _ array.columns is.some_columns pitch_x wide is.columns;
      rows = count_fits max_rows (extent Y crossing) _ _ _ array.rows is.some_rows pitch_y high is.rows;
      cut_x = a_size array.cut_x (in_units units is.rule.cut_x) (ap (λ (a : CutArray). a.cut_x) is.is) cut_x
          (few_units units is.rule.cut_x is_units.1 (omega (arith, rule.cut_x, rule.pitch_x)));
      cut_y = a_size array.cut_y (in_units units is.rule.cut_y) (ap (λ (a : CutArray). a.cut_y) is.is) cut_y
          (few_units units is.rule.cut_y is_units.1 (omega (arith, rule.cut_y, rule.pitch_y)));
      lower_x = a_length array.lower_x (lower_along tech is.rule units X) (ap (λ (a : CutArray). a.lower_x) is.is)
          (few_units units _ is_units.1 (enclosure_short X (direction tech is.rule.lower) is.rule.lower_enclosure rule.lower_enclosure));
      lower_y = a_length array.lower_y (lower_along tech is.rule units Y) (ap (λ (a : CutArray). a.lower_y) is.is)
          (few_units units _ is_units.1 (enclosure_short Y (direction tech is.rule.lower) is.rule.lower_enclosure rule.lower_enclosure));
      upper_x = a_length array.upper_x (upper_along tech is.rule units X) (ap (λ (a : CutArray). a.upper_x) is.is)
          (few_units units _ is_units.1 (enclosure_short X (direction tech is.rule.upper) is.rule.upper_enclosure rule.upper_enclosure));
      upper_y = a_length array.upper_y (upper_along tech is.rule units Y) (ap (λ (a : CutArray). a.upper_y) is.is)
          (few_units units _ is_units.1 (enclosure_short Y (direction tech is.rule.upper) is.rule.upper_enclosure rule.upper_enclosure));
    }
  where
    rule : RuleKeeps tech is.rule
    rule = rule_keeps tech keeps place is.rule is.is_rule

    cut_x : 1 ≤ in_units units is.rule.cut_x
    cut_x = some_units units is.rule.cut_x is_units.0 rule.some_x is.on_grid.cut_x

    cut_y : 1 ≤ in_units units is.rule.cut_y
    cut_y = some_units units is.rule.cut_y is_units.0 rule.some_y is.on_grid.cut_y

    pitch_x : 1 ≤ in_units units is.rule.pitch_x
    pitch_x = let up = longer units is.rule.cut_x is.rule.pitch_x rule.cut_x in let one = cut_x in omega arith

    pitch_y : 1 ≤ in_units units is.rule.pitch_y
    pitch_y = let up = longer units is.rule.cut_y is.rule.pitch_y rule.cut_y in let one = cut_y in omega arith

-- ## stacks

no_site : Site
no_site = record {
  net = 0;
  x = pos 0;
  y = pos 0;
  from = 0;
  to = 0;
  crossing = record { x1 = pos 0; y1 = pos 0; x2 = pos 0; y2 = pos 0 };
  max_columns = 0;
  max_rows = 0;
}

units_are : (tech : Tech) (cells : Cells) (design : Design) (script : Script) (grid : Grid) → DesignKeeps design → (drawing : IsDrawingOf tech cells design script grid)
    → IsUnits drawing.plan.units
units_are tech cells design script grid keeps drawing =
    let same = drawing.is_plan.plans.units in
    let some = keeps.some_units in
    let most = keeps.units in
    (omega arith, omega arith)

arrays_read : (tech : Tech) (units : ℕ) (site : Site) (at : StackAt) → TechKeeps tech → IsUnits units → extent X site.crossing < 2 ^ 32 → extent Y site.crossing < 2 ^ 32
    → IsStackAt tech units site at → All ArrayReads at.stack.arrays
arrays_read tech units site at keeps is_units wide high is level array within =
    let s = is.stack in
    let as_many : length at.stack.arrays ≡ length at.stack.ohms = s.arrays ∙ sym s.ohms in
    let pair = s.each level (get_or at.stack.arrays level array) (get_or at.stack.ohms level 0)
    (slice_get-get_or at.stack.arrays level array within) (slice_get-get_or at.stack.ohms level 0 (omega arith)) in
    array_reads tech pair.place site.crossing units site.max_columns site.max_rows (get_or at.stack.arrays level array) keeps is_units wide high pair.made

pub stacks_read : (tech : Tech) (cells : Cells) (design : Design) (script : Script) (grid : Grid) → TechKeeps tech → DesignKeeps design
    → IsDrawingOf tech cells design script grid → All (PieceStands tech grid) grid.pieces → All StackReads grid.stacks
stacks_read tech cells design script grid keeps design_keeps drawing pieces k d within = record {
  x = subst IsNear (sym (is.x ∙ ap (λ (s : Site). s.x) stands.is)) (near_centre stands.upright upright.keeps);
  y = subst IsNear (sym (is.y ∙ ap (λ (s : Site). s.y) stands.is)) (near_centre stands.flat flat.keeps);
  arrays = arrays_read tech drawing.plan.units site (get_or grid.stacks k d) keeps (units_are tech cells design script grid design_keeps drawing)
      (subst (λ (r : Rect). extent X r < 2 ^ 32) (sym crossing)
      (narrow_x tech grid stands.upright (crossing_of stands.flat stands.upright) upright stands.cross.vertical stands.cross.upright_width))
      (subst (λ (r : Rect). extent Y r < 2 ^ 32) (sym crossing)
      (narrow_y tech grid stands.flat (crossing_of stands.flat stands.upright) flat stands.cross.horizontal stands.cross.flat_width))
      is;
}
  where
    site : Site
    site = get_or drawing.stacks.0 k no_site

    in_sites : k < length drawing.stacks.0
    in_sites = let same = drawing.stacks.3.as_many in omega arith

    stands : Stands tech grid.pieces drawing.plan.connects drawing.plan.blocks site
    stands = drawing.stacks.1.are.each k no_site in_sites

    flat : PieceStands tech grid stands.flat
    flat = All-contains (PieceStands tech grid) grid.pieces stands.flat pieces stands.flat_is

    upright : PieceStands tech grid stands.upright
    upright = All-contains (PieceStands tech grid) grid.pieces stands.upright pieces stands.upright_is

    is : IsStackAt tech drawing.plan.units site (get_or grid.stacks k d)
    is = drawing.stacks.3.each k no_site d in_sites

    crossing : site.crossing ≡ crossing_of stands.flat stands.upright
    crossing = ap (λ (s : Site). s.crossing) stands.is
