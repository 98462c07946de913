-- The straps that grids over macros draw over blocks (OpenROAD PDN manual, define_pdn_grid: -macro, add_pdn_stripe).
use Rattle.std.specs.Prelude.{◌≡◌, ℕ, ◌<◌, ◌≤◌, true, List, [], ◌∷◌, ◌++◌, All, AllPairs, Contains, length, map, filter}
use Rattle.std.specs.List.{flat_map}
use Rattle.entry_list.specs.InTurn.{InTurn}
use Rattle.geom_rect.specs.declared.drawn.Drawn.{Drawn}
use Rattle.geom_rect.specs.declared.rect.Rect.{Rect}
use Rattle.geom_rect.specs.declared.run.Run.{Run}
use Rattle.strap_layout.specs.declared.rule.StrapRule.{StrapRule}
use Rattle.strap_layout.specs.Lines.{LineAt, AreStraps, IsDrawnLine, ComesBefore}
use Rattle.grid_cores.specs.Line.{along}
use Rattle.grid_plan.specs.declared.record.Plan.{Plan}
use Rattle.grid_plan.specs.declared.record.Straps.{Straps}
use Rattle.grid_shapes.specs.Shapes.{most_lines}
use Rattle.grid_shapes.specs.Site.{grid_of}
use Rattle.block_stripes.specs.declared.blocks.BlockBox.{BlockBox}
use Rattle.halo_cuts.specs.declared.shape.GridShape.{GridShape}
use Rattle.block_stripes.specs.Blocks.{boxes_of, of_grid}

-- The reaches of the nets of straps over a box: each goes along the whole box. No option extends it.
abbrev pub box_reaches : Straps → Rect → List Run
box_reaches straps box = map (λ (net : ℕ). along straps.rule.axis box) straps.rule.nets

-- The straps of a command over one box, which is their core. Nothing is cut out of them.
pub record DrawOver (straps : Straps) (box : Rect) (shapes : List GridShape) : Type 0 where
  pub lines : List Drawn
  pub drawn : AreStraps straps.rule box (box_reaches straps box) lines
  pub are : shapes ≡ of_grid straps.grid lines

-- Shapes are those of one thing after another.
abbrev pub AreJoined : {C : Type 0} → (C → List GridShape → Type 0) → List C → List GridShape → Type 0
AreJoined draws [] shapes = shapes ≡ []
AreJoined draws (one ∷ more) shapes = (first : List GridShape) × (rest : List GridShape) × draws one first
    × AreJoined draws more rest × (shapes ≡ first ++ rest)

-- The straps of a command over boxes, box after box; no more than one command may have.
abbrev pub AreStrapsOver : Straps → List Rect → List GridShape → Type 0
AreStrapsOver straps boxes shapes = AreJoined (DrawOver straps) boxes shapes × (length shapes ≤ most_lines)

-- The commands of grids over macros.
abbrev pub commands_over : Plan → List Straps
commands_over plan = filter (λ (straps : Straps). (grid_of plan straps.grid).over_macros) plan.straps

-- The straps of all of them, command after command, each over the boxes of the blocks that have its grid.
abbrev pub AreBlockStraps : Plan → List BlockBox → List GridShape → Type 0
AreBlockStraps plan blocks shapes =
    AreJoined (λ (straps : Straps). AreStrapsOver straps (boxes_of blocks straps.grid)) (commands_over plan) shapes

-- Lines that a rule draws over a core, each once.
pub record AreDrawnLines (rule : StrapRule) (core : Rect) (lines : List LineAt) : Type 0 where
  pub each : All (IsDrawnLine rule core) lines
  pub in_order : AllPairs ComesBefore lines

-- A rule draws more than so many lines over cores, all together.
pub record DrawsMoreOver (most : ℕ) (rule : StrapRule) (cores : List Rect) : Type 0 where
  pub lines : List (List LineAt)
  pub over_each : InTurn (AreDrawnLines rule) cores lines
  pub more : most < length (flat_map (λ (over_one : List LineAt). over_one) lines)

-- A command draws more lines than it may, over all blocks that have its grid.
pub record StrapsAreMany (plan : Plan) (blocks : List BlockBox) : Type 0 where
  pub straps : Straps
  pub is : Contains plan.straps straps
  pub over_macros : (grid_of plan straps.grid).over_macros ≡ true
  pub more : DrawsMoreOver most_lines straps.rule (boxes_of blocks straps.grid)
