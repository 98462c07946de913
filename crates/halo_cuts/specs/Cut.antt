-- What the halos of blocks leave of shapes (OpenROAD PDN manual, define_pdn_grid: -halo).
use Rattle.std.specs.Prelude.{◌≡◌, ℕ, ◌≤ℤ◌, ◌<ℤ◌, Bool, false, not, ◌&&◌, List, [], ◌∷◌, ◌++◌, map, filter, slice_index_or, Contains, Option, Some, None}
use Rattle.std.specs.Bool.{nat_eq}
use Rattle.geom_rect.specs.declared.drawn.Drawn.{Drawn}
use Rattle.geom_rect.specs.declared.rect.Rect.{Rect}
use Rattle.geom_rect.specs.declared.run.Run.{Run}
use Rattle.grid_cores.specs.Line.{over_run, AreLineShapes}
use Rattle.placed_blocks.specs.declared.block.PlacedBlock.{PlacedBlock}
use Rattle.halo_cuts.specs.declared.shape.GridShape.{GridShape}

-- It cuts on the routing layer at a place.
abbrev pub cuts_on : List Bool → ℕ → Bool
cuts_on cuts layer = slice_index_or cuts layer false

-- The grid of a block is this one.
abbrev pub is_own : Option ℕ → ℕ → Bool
is_own None grid = false
is_own (Some own) grid = nat_eq own grid

-- A block cuts a shape: on its layer, unless it has the grid that drew it.
abbrev pub cuts : GridShape → PlacedBlock → Bool
cuts shape block = cuts_on block.cuts shape.shape.layer && not (is_own block.grid shape.grid)

-- The grown outlines of the blocks that cut it.
abbrev pub halos_over : List PlacedBlock → GridShape → List Rect
halos_over blocks shape = map (λ (block : PlacedBlock). block.grown) (filter (cuts shape) blocks)

-- What is left of shapes, shape after shape: of each the maximal runs outside these outlines, in order.
abbrev pub AreCut : List PlacedBlock → List GridShape → List Drawn → Type 0
AreCut blocks [] left = left ≡ []
AreCut blocks (shape ∷ shapes) left = (first : List Drawn) × (rest : List Drawn)
    × AreLineShapes (halos_over blocks shape) shape.shape first × AreCut blocks shapes rest × (left ≡ first ++ rest)

-- A shape is a part of another: it is that one over a run that has a length and lies in the other's run.
pub record IsPart (whole part : Drawn) : Type 0 where
  pub run : Run
  pub is : part ≡ over_run whole run
  pub from : whole.from ≤ℤ run.from
  pub some : run.from <ℤ run.to
  pub to : run.to ≤ℤ whole.to

-- It is a part of one of these.
abbrev pub IsPartOfOne : List GridShape → Drawn → Type 0
IsPartOfOne shapes part = (shape : GridShape) × Contains shapes shape × IsPart shape.shape part
