-- Shapes are added to those that stand already.
use Rattle.std.specs.Prelude.{◌≡◌, List, ◌++◌}
use Rattle.geom_rect.specs.declared.rect.Rect.{Rect}
use Rattle.grid_plan.specs.declared.record.Straps.{Straps}
use Rattle.halo_cuts.specs.declared.shape.GridShape.{GridShape}
use Rattle.block_stripes.specs.Straps.{DrawOver, AreStrapsOver}

abbrev pub Adds : (List GridShape → Type 0) → List GridShape → List GridShape → Type 0
Adds drawn old new = (added : List GridShape) × drawn added × (new ≡ old ++ added)

abbrev pub AddsBox : Straps → Rect → List GridShape → List GridShape → Type 0
AddsBox straps box = Adds (DrawOver straps box)

abbrev pub AddsStraps : Straps → List Rect → List GridShape → List GridShape → Type 0
AddsStraps straps boxes = Adds (AreStrapsOver straps boxes)
