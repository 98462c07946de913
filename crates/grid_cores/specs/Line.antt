-- What the regions of other domains leave of a strap or a rail (this project).
use Rattle.std.specs.Prelude.{◌≡◌, ◌+ℤ◌, ◌-ℤ◌, Bool, int_lt, List, [], ◌∷◌, ◌++◌, map, filter}
use Rattle.std.specs.Int.{int_max, int_min}
use Rattle.geom_rect.specs.declared.direction.Axis.{Axis}
use Rattle.geom_rect.specs.declared.direction.Axis.TheVariants.{X, Y}
use Rattle.geom_rect.specs.declared.drawn.Drawn.{Drawn}
use Rattle.geom_rect.specs.declared.rect.Rect.{Rect}
use Rattle.geom_rect.specs.declared.run.Run.{Run}
use Rattle.geom_rect.specs.Drawn.{half, drawn_run, IsWidth}
use Rattle.geom_rect.specs.Rect.{IsCoordinate}
use Rattle.geom_rect.specs.Run.{IsOpen, AreMaximalRuns}

-- The extent of a rectangle along an axis, and across it.
abbrev pub along : Axis → Rect → Run
along X rect = record { from = rect.x1; to = rect.x2 }
along Y rect = record { from = rect.y1; to = rect.y2 }

abbrev pub across : Axis → Rect → Run
across X rect = record { from = rect.y1; to = rect.y2 }
across Y rect = record { from = rect.x1; to = rect.x2 }

-- Two runs have a cell in common.
abbrev pub share_cell : Run → Run → Bool
share_cell a b = int_lt (int_max a.from b.from) (int_min a.to b.to)

-- The width of a line, as a run across it.
abbrev pub width_of : Drawn → Run
width_of line = record { from = line.centre -ℤ half line.width; to = line.centre +ℤ half line.width }

-- The extents along a line of the regions that overlap its width.
abbrev pub regions_over : List Rect → Drawn → List Run
regions_over regions line =
    map (along line.axis) (filter (λ (region : Rect). share_cell (across line.axis region) (width_of line)) regions)

-- The shape of a line over a run.
abbrev pub over_run : Drawn → Run → Drawn
over_run line run = record line { from = run.from; to = run.to }

-- The shapes of a line: its maximal runs outside the regions.
pub record AreLineShapes (regions : List Rect) (line : Drawn) (shapes : List Drawn) : Type 0 where
  pub runs : List Run
  pub maximal : AreMaximalRuns (IsOpen (drawn_run line ∷ []) (regions_over regions line)) runs
  pub are : shapes ≡ map (over_run line) runs

-- The shapes of lines, line after line.
abbrev pub AreLinesShapes : List Rect → List Drawn → List Drawn → Type 0
AreLinesShapes regions [] shapes = shapes ≡ []
AreLinesShapes regions (line ∷ lines) shapes =
    (first : List Drawn) × (rest : List Drawn) × AreLineShapes regions line first × AreLinesShapes regions lines rest
    × (shapes ≡ first ++ rest)

-- The shapes of a line are added to those that stand already.
abbrev pub AddsLine : List Rect → Drawn → List Drawn → List Drawn → Type 0
AddsLine regions line old new = (added : List Drawn) × AreLineShapes regions line added × (new ≡ old ++ added)

-- The shapes of lines are added.
abbrev pub AddsLines : List Rect → List Drawn → List Drawn → List Drawn → Type 0
AddsLines regions lines old new = (added : List Drawn) × AreLinesShapes regions lines added × (new ≡ old ++ added)

-- The width of a line is even and positive, and its edges lie at coordinates.
abbrev pub LineKeeps : Drawn → Type 0
LineKeeps line = IsWidth line.width × IsCoordinate (width_of line).from × IsCoordinate (width_of line).to
