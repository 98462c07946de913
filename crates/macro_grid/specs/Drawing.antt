-- The drawing of a script with grids over macros over a design with blocks (OpenROAD PDN manual, define_pdn_grid: -macro; LEF/DEF
-- 5.8 Language Reference, "MACRO", PIN and OBS).
use Rattle.std.specs.Prelude.{◌≡◌, ◌⊎◌, ℕ, false, List, ◌++◌, AllPairs, map, Some, None}
use Rattle.std.specs.List.{flat_map}
use Rattle.std.specs.List.Sorted.{IsPermutation}
use Rattle.std.specs.Ordering.{int_cmp, nat_cmp, ordering_then, is_gt}
use Rattle.std.specs.declared.cmp.Ordering.{Ordering}
use Rattle.geom_rect.specs.Rect.{grown_by}
use Rattle.geom_rect.specs.declared.direction.Axis.{Axis}
use Rattle.geom_rect.specs.declared.direction.Axis.TheVariants.{X, Y}
use Rattle.geom_rect.specs.declared.drawn.Drawn.{Drawn}
use Rattle.lef_cells.specs.declared.record.Cells.{Cells}
use Rattle.lef_tech.specs.declared.tech.Tech.{Tech}
use Rattle.def_design.specs.declared.record.Component.{Component}
use Rattle.def_design.specs.declared.record.Design.{Design}
use Rattle.macro_blocks.specs.declared.record.Blocks.{Blocks}
use Rattle.pdn_script.specs.declared.record.Script.{Script}
use Rattle.grid_pieces.specs.declared.error.Counted.TheVariants.{Lines}
use Rattle.grid_pieces.specs.declared.error.DrawError.{DrawError}
use Rattle.grid_pieces.specs.declared.error.DrawError.TheVariants.{TooMany, Touch, Want}
use Rattle.grid_pieces.specs.declared.grid.Grid.{Grid}
use Rattle.grid_pieces.specs.declared.piece.Block.{Block}
use Rattle.grid_pieces.specs.declared.piece.Piece.{Piece}
use Rattle.grid_pieces.specs.declared.piece.StackAt.{StackAt}
use Rattle.grid_pieces.specs.declared.touch.Touching.{Touching}
use Rattle.grid_pieces.specs.Piece.{ArePieces, piece_order, place_of}
use Rattle.grid_pieces.specs.Touch.{metal, IsFirstTouch}
use Rattle.grid_stacks.specs.Crossing.{Stands}
use Rattle.grid_stacks.specs.Stacking.{AreStacks, AreRefused}
use Rattle.grid_plan.specs.declared.record.Plan.{Plan}
use Rattle.grid_plan.specs.Keeping.{plan_regions}
use Rattle.grid_plan.specs.Planning.{IsPlanOf, IsPlanRefused}
use Rattle.grid_plan.specs.Resolved.{layer_spacing}
use Rattle.grid_shapes.specs.Drawing.{NothingTouches}
use Rattle.block_grids.specs.Halo.{first_bad}
use Rattle.block_rects.specs.declared.part.Obstruction.{Obstruction}
use Rattle.placed_blocks.specs.declared.block.PlacedBlock.{PlacedBlock}
use Rattle.placed_blocks.specs.Placed.{ArePlacedBlocks}
use Rattle.macro_shapes.specs.Shapes.{AreMacroShapes, MacroLinesAreMany}
use Rattle.pin_shapes.specs.Pins.{pin_shapes}
use Rattle.pin_pieces.specs.Pins.{ArePinPieces}
use Rattle.macro_grid.specs.declared.error.MacroError.{MacroError}
use Rattle.macro_grid.specs.declared.error.MacroError.TheVariants.{Halo, Draw}
use Rattle.macro_grid.specs.declared.record.MacroGrid.{MacroGrid}

-- ## the plan and the blocks

-- The design with no component in a place, over which the plan of the grids is made: no grid over macros is refused for a block then,
-- and a component of a macro that is not known is refused as ever.
abbrev pub unplaced : Component → Component
unplaced component = record component { place = None }

abbrev pub without_places : Design → Design
without_places design = record design { components = map unplaced design.components }

-- The plan of the grids, and the blocks of the design in their places.
pub record Lays (tech : Tech) (cells : Cells) (blocks : Blocks) (design : Design) (script : Script) (plan : Plan)
    (placed : List PlacedBlock) : Type 0 where
  pub halos : first_bad design.units script ≡ None
  pub is_plan : IsPlanOf tech cells (without_places design) script plan
  pub are_placed : ArePlacedBlocks tech cells blocks design script (plan_regions plan) placed

-- ## blockages

-- An obstruction is a blockage of its layer, grown by the layer's spacing; cuts keep none.
abbrev pub obstruction_block : Tech → ℕ → Obstruction → Block
obstruction_block tech units obstruction = record {
  layer = obstruction.layer;
  plain = obstruction.rect;
  grown = grown_by obstruction.rect (layer_spacing tech units obstruction.layer);
}

-- Those of all blocks, block after block.
abbrev pub obstruction_blocks : Tech → ℕ → List PlacedBlock → List Block
obstruction_blocks tech units placed =
    flat_map (λ (block : PlacedBlock). map (obstruction_block tech units) block.obstructions) placed

-- What blocks the straps, rails and rings: the blockages of the design, and the obstructions of the blocks.
abbrev pub all_blocks : Tech → Plan → List PlacedBlock → List Block
all_blocks tech plan placed = plan.blocks ++ obstruction_blocks tech plan.units placed

-- ## pieces and stacks

-- Pieces along x come before those along y.
abbrev pub axis_place : Axis → ℕ
axis_place X = 0
axis_place Y = 1

-- Pieces are compared as pieces are, and where that leaves them alike by their ends, their axes and what they are drawn as.
abbrev pub whole_order : Piece → Piece → Ordering
whole_order a b = ordering_then
    (ordering_then (ordering_then (piece_order a b) (int_cmp a.to b.to)) (nat_cmp (axis_place a.axis) (axis_place b.axis)))
    (nat_cmp (place_of a.shape) (place_of b.shape))

-- The pieces of both lists, in order.
pub record AreMerged (straps pins pieces : List Piece) : Type 0 where
  pub same : IsPermutation (straps ++ pins) pieces
  pub in_order : AllPairs (λ a b. is_gt (whole_order a b) ≡ false) pieces

-- The pieces of the grid: those of straps, rails and rings, cut by all blockages, and those of the pins, cut by the blockages of the
-- design alone.
pub record AreMacroPieces (tech : Tech) (plan : Plan) (placed : List PlacedBlock) (straps pieces : List Piece) : Type 0 where
  pub shapes : List Drawn
  pub are_shapes : AreMacroShapes plan placed shapes
  pub are_straps : ArePieces shapes (all_blocks tech plan placed) straps
  pub pins : List Piece
  pub are_pins : ArePieces (pin_shapes tech plan.domains placed) plan.blocks pins
  pub merged : AreMerged straps pins pieces

-- The stacks at the crossings of all pieces. Obstructions of the layers between stand in their way, as blockages do.
abbrev pub AreMacroStacks : Tech → Plan → List PlacedBlock → List Piece → List StackAt → Type 0
AreMacroStacks tech plan placed pieces stacks =
    AreStacks (Stands tech pieces plan.connects (all_blocks tech plan placed)) tech plan.units pieces stacks

-- ## the drawing

-- A grid has the units, nets and domains of the plan.
pub record IsOfPlan (plan : Plan) (grid : Grid) : Type 0 where
  pub units : grid.units ≡ plan.units
  pub nets : grid.nets ≡ plan.nets
  pub power : grid.power ≡ plan.power
  pub domains : grid.domains ≡ plan.domains

-- The drawing: all pieces and their stacks, of which nothing touches; the same without the pieces that are pins, as it is written;
-- and which pieces are pins of which block.
pub record IsMacroDrawing (tech : Tech) (cells : Cells) (blocks : Blocks) (design : Design) (script : Script)
    (drawn : MacroGrid) : Type 0 where
  pub plan : Plan
  pub placed : List PlacedBlock
  pub lays : Lays tech cells blocks design script plan placed
  pub grid_is : IsOfPlan plan drawn.grid
  pub written_is : IsOfPlan plan drawn.written
  pub pieces : AreMacroPieces tech plan placed drawn.written.pieces drawn.grid.pieces
  pub stacks : AreMacroStacks tech plan placed drawn.grid.pieces drawn.grid.stacks
  pub apart : NothingTouches drawn.grid.pieces drawn.grid.stacks
  pub written_stacks : drawn.written.stacks ≡ drawn.grid.stacks
  pub pins : ArePinPieces tech plan.domains placed drawn.grid.pieces drawn.pins

-- ## why there is none

-- A command draws more lines than it may.
pub record HasManyLines (tech : Tech) (cells : Cells) (blocks : Blocks) (design : Design) (script : Script) : Type 0 where
  pub plan : Plan
  pub placed : List PlacedBlock
  pub lays : Lays tech cells blocks design script plan placed
  pub many : MacroLinesAreMany plan placed

-- There are too many pieces or stacks, a piece without a sheet resistance, or a crossing that no stack can join.
pub record HasNoStacks (tech : Tech) (cells : Cells) (blocks : Blocks) (design : Design) (script : Script) (error : DrawError)
    : Type 0 where
  pub plan : Plan
  pub placed : List PlacedBlock
  pub lays : Lays tech cells blocks design script plan placed
  pub straps : List Piece
  pub pieces : List Piece
  pub are_pieces : AreMacroPieces tech plan placed straps pieces
  pub refused : AreRefused (Stands tech pieces plan.connects (all_blocks tech plan placed)) tech plan.units pieces error

-- Metal touches.
pub record Touches (tech : Tech) (cells : Cells) (blocks : Blocks) (design : Design) (script : Script) (touching : Touching)
    : Type 0 where
  pub plan : Plan
  pub placed : List PlacedBlock
  pub lays : Lays tech cells blocks design script plan placed
  pub straps : List Piece
  pub pieces : List Piece
  pub are_pieces : AreMacroPieces tech plan placed straps pieces
  pub stacks : List StackAt
  pub are_stacks : AreMacroStacks tech plan placed pieces stacks
  pub first : IsFirstTouch (metal pieces stacks) touching

-- The plan of the grids is refused, and no halo is.
abbrev pub HasNoPlan : Tech → Cells → Design → Script → DrawError → Type 0
HasNoPlan tech cells design script error =
    (first_bad design.units script ≡ None) × IsPlanRefused tech cells (without_places design) script error

-- Why no grid is drawn, of several causes the first.
abbrev pub IsDrawRefused : Tech → Cells → Blocks → Design → Script → DrawError → Type 0
IsDrawRefused tech cells blocks design script Want = Unit {0}
IsDrawRefused tech cells blocks design script (TooMany Lines) = HasManyLines tech cells blocks design script
IsDrawRefused tech cells blocks design script (Touch touching) = Touches tech cells blocks design script touching
IsDrawRefused tech cells blocks design script error =
    HasNoPlan tech cells design script error ⊎ HasNoStacks tech cells blocks design script error

-- A halo that is none goes before all else.
abbrev pub IsMacroRefused : Tech → Cells → Blocks → Design → Script → MacroError → Type 0
IsMacroRefused tech cells blocks design script (Halo grid) = first_bad design.units script ≡ Some grid
IsMacroRefused tech cells blocks design script (Draw error) = IsDrawRefused tech cells blocks design script error
