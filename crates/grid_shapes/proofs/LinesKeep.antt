-- What the lines of straps and rails keep, and what is left of them.
use Rattle.std.proofs.Common.{◌≡◌, ℕ, zero, suc, ◌+◌, ◌<◌, ◌^◌, ℤ, pos, ◌+ℤ◌, ◌-ℤ◌, ◌<ℤ◌, ◌≤ℤ◌, List, [], ◌∷◌, ◌++◌, All, map, length, get_or, sym, arith, subst}
use Rattle.std.proofs.lemmas.Int.{ints}
use Rattle.std.proofs.lemmas.List.Elements.{All-nil, All-append, All-head, All-tail, All-map, All-same}
use Rattle.geom_rect.specs.declared.direction.Axis.{Axis}
use Rattle.geom_rect.specs.declared.direction.Axis.TheVariants.{X, Y}
use Rattle.geom_rect.specs.declared.drawn.Drawn.{Drawn}
use Rattle.geom_rect.specs.declared.rect.Rect.{Rect}
use Rattle.geom_rect.specs.declared.run.Run.{Run}
use Rattle.geom_rect.specs.Drawn.{half, drawn_run}
use Rattle.geom_rect.specs.Rect.{IsCoordinate}
use Rattle.geom_rect.specs.Run.{IsOpen, IsMaximal, HasCell, IsHeld}
use Rattle.lef_tech.specs.declared.tech.Tech.{Tech}
use Rattle.strap_layout.specs.Lines.{LineAt, across, centre_of, IsDrawnLine, strap_of, reach_of, AreStraps}
use Rattle.grid_cores.specs.Line.{AreLineShapes, AreLinesShapes, LineKeeps, over_run, regions_over}
use Rattle.grid_plan.specs.declared.record.Plan.{Plan}
use Rattle.grid_plan.specs.declared.record.Straps.{Straps}
use Rattle.grid_plan.specs.Keeping.{StrapsKeep, LiesNear, most_of_rows}
use Rattle.grid_shapes.specs.inside.Sites.{ShapeKeeps}
use Rattle.grid_shapes.proofs.Coordinates.{RunFits, coordinate, centred_fits, width_keeps, line_keeps, halves, edge_low, edge_high, end_low, end_high}

pub lines_keep : (tech : Tech) (plan : Plan) (lines : List Drawn) → All (ShapeKeeps tech plan) lines → All LineKeeps lines
lines_keep tech plan lines keep k d within = let is = keep k d within in line_keeps (get_or lines k d) is.even is.keeps

-- A number between two coordinates is one.
between : (low high z : ℤ) → IsCoordinate low → IsCoordinate high → low ≤ℤ z → z ≤ℤ high → IsCoordinate z
between low high z at_low at_high from to =
    let a = at_low.0 in
    let b = at_high.1 in
    (omega (arith, ints), omega (arith, ints))

-- A run of a line's cells lies on the line.
from_in : (line : Drawn) (run : Run) → HasCell (drawn_run line) run.from → HasCell (drawn_run line) (run.to -ℤ pos 1) → run.from <ℤ run.to
    → IsCoordinate line.from → IsCoordinate line.to → IsCoordinate run.from × IsCoordinate run.to
from_in line run first last some low high =
    let a = first.0 in
    let b = first.1 in
    let c = last.0 in
    let d = last.1 in
    let e = low.0 in
    let f = high.1 in
    ((omega (arith, ints), omega (arith, ints)), (omega (arith, ints), omega (arith, ints)))

held_one : (line : Drawn) (t : ℤ) → IsHeld (drawn_run line ∷ []) t → HasCell (drawn_run line) t
held_one line t (run, (k, within, is), has) = by_place k within is
  where
    by_place : (k : ℕ) → k < length (drawn_run line ∷ []) → get_or (drawn_run line ∷ []) k run ≡ run → HasCell (drawn_run line) t
    by_place zero within is = subst (λ (r : Run). HasCell r t) (sym is) has
    by_place (suc k) within is = absurd (omega arith)

run_keeps : (tech : Tech) (plan : Plan) (regions : List Rect) (line : Drawn) (run : Run) → ShapeKeeps tech plan line
    → IsMaximal (IsOpen (drawn_run line ∷ []) (regions_over regions line)) run → ShapeKeeps tech plan (over_run line run)
run_keeps tech plan regions line run keeps is =
    let some = is.some in
    let first = held_one line run.from (is.each run.from (omega (arith, ints), omega (arith, ints))).0 in
    let last = held_one line (run.to -ℤ pos 1) (is.each (run.to -ℤ pos 1) (omega (arith, ints), omega (arith, ints))).0 in
    let fits = keeps.keeps.1 in
    let ends = from_in line run first last some (end_low line.axis line.centre line.width line.from line.to fits)
    (end_high line.axis line.centre line.width line.from line.to fits) in
    record {
      keeps = (
        keeps.keeps.0,
        centred_fits line.axis line.centre line.width run.from run.to (edge_low line.axis line.centre line.width line.from line.to fits)
            (edge_high line.axis line.centre line.width line.from line.to fits) ends.0 ends.1,
      );
      even = keeps.even;
      net = keeps.net;
      layer = keeps.layer;
      axis = keeps.axis;
    }

-- What regions leave of lines.
left_keeps : (tech : Tech) (plan : Plan) (regions : List Rect) (line : Drawn) (shapes : List Drawn) → ShapeKeeps tech plan line
    → AreLineShapes regions line shapes → All (ShapeKeeps tech plan) shapes
left_keeps tech plan regions line shapes keeps are =
    All-same (ShapeKeeps tech plan) shapes (map (over_run line) are.runs) are.are
    (All-map (ShapeKeeps tech plan) (over_run line) are.runs
    (λ k d within. run_keeps tech plan regions line (get_or are.runs k d) keeps (are.maximal.maximal k d within)))

pub all_left_keep : (tech : Tech) (plan : Plan) (regions : List Rect) (lines shapes : List Drawn) → All (ShapeKeeps tech plan) lines
    → AreLinesShapes regions lines shapes → All (ShapeKeeps tech plan) shapes
all_left_keep tech plan regions [] shapes keep are = All-same (ShapeKeeps tech plan) shapes [] are (All-nil (ShapeKeeps tech plan))
all_left_keep tech plan regions (line ∷ lines) shapes keep (first, rest, is, are, joined) =
    All-same (ShapeKeeps tech plan) shapes (first ++ rest) joined
    (All-append (ShapeKeeps tech plan) first rest
    (left_keeps tech plan regions line first (All-head (ShapeKeeps tech plan) line lines keep) is)
    (all_left_keep tech plan regions lines rest (All-tail (ShapeKeeps tech plan) line lines keep) are))

-- Straps.
core_low : (axis : Axis) (core : Rect) → LiesNear most_of_rows core → IsCoordinate (across axis core).from × IsCoordinate (across axis core).to
core_low X core near = (coordinate most_of_rows core.y1 (omega arith) near.y1, coordinate most_of_rows core.y2 (omega arith) near.y2)
core_low Y core near = (coordinate most_of_rows core.x1 (omega arith) near.x1, coordinate most_of_rows core.x2 (omega arith) near.x2)

edges_in : (low high centre by : ℤ) → IsCoordinate low → IsCoordinate high → pos 0 <ℤ by → low ≤ℤ (centre -ℤ by) → (centre +ℤ by) ≤ℤ high
    → IsCoordinate (centre -ℤ by) × IsCoordinate (centre +ℤ by)
edges_in low high centre by at_low at_high some from to =
    let a = at_low.0 in
    let b = at_high.1 in
    ((omega (arith, ints), omega (arith, ints)), (omega (arith, ints), omega (arith, ints)))

strap_keeps : (tech : Tech) (plan : Plan) (straps : Straps) (core : Rect) (reaches : List Run) (line : LineAt) → StrapsKeep tech plan straps
    → LiesNear most_of_rows core → All RunFits reaches → length reaches ≡ length straps.rule.nets → IsDrawnLine straps.rule core line
    → ShapeKeeps tech plan (strap_of straps.rule core reaches line)
strap_keeps tech plan straps core reaches line keeps near fit as_many is =
    let rule = straps.rule in
    let ends = core_low rule.axis core near in
    let wide = halves rule.width keeps.width in
    let edges = edges_in (across rule.axis core).from (across rule.axis core).to (centre_of rule core line) (half rule.width) ends.0 ends.1 wide.0 is.low is.high in
    let within : line.place < length reaches = subst (λ n. line.place < n) (sym as_many) is.net in
    let reach = fit line.place (record { from = pos 0; to = pos 0 }) within in
    record {
      keeps = (
        width_keeps rule.width keeps.width,
        centred_fits rule.axis (centre_of rule core line) rule.width (reach_of reaches line.place).from (reach_of reaches line.place).to edges.0 edges.1 reach.from reach.to,
      );
      even = keeps.width.0;
      net = keeps.nets line.place 0 is.net;
      layer = keeps.layer;
      axis = keeps.axis;
    }

pub straps_keep : (tech : Tech) (plan : Plan) (straps : Straps) (core : Rect) (reaches : List Run) (lines : List Drawn) → StrapsKeep tech plan straps
    → LiesNear most_of_rows core → All RunFits reaches → length reaches ≡ length straps.rule.nets → AreStraps straps.rule core reaches lines
    → All (ShapeKeeps tech plan) lines
straps_keep tech plan straps core reaches lines keeps near fit as_many are =
    All-same (ShapeKeeps tech plan) lines (map (strap_of straps.rule core reaches) are.lines) are.drawn
    (All-map (ShapeKeeps tech plan) (strap_of straps.rule core reaches) are.lines
    (λ k d within. strap_keeps tech plan straps core reaches (get_or are.lines k d) keeps near fit as_many (are.each k d within)))
