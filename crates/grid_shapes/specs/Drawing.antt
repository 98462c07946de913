-- The drawing: the plan, its shapes, the pieces into which blockages cut them, and the stacks at their crossings. Nothing
-- touches.
use Rattle.std.specs.Prelude.{◌≡◌, ◌⊎◌, ◌<◌, ◌-◌, List, length}
use Rattle.geom_rect.specs.declared.drawn.Drawn.{Drawn}
use Rattle.lef_tech.specs.declared.tech.Tech.{Tech}
use Rattle.lef_cells.specs.declared.record.Cells.{Cells}
use Rattle.def_design.specs.declared.record.Design.{Design}
use Rattle.pdn_script.specs.declared.record.Script.{Script}
use Rattle.grid_pieces.specs.declared.error.Counted.TheVariants.{Lines}
use Rattle.grid_pieces.specs.declared.error.DrawError.{DrawError}
use Rattle.grid_pieces.specs.declared.error.DrawError.TheVariants.{TooMany, Touch, Want}
use Rattle.grid_pieces.specs.declared.grid.Grid.{Grid}
use Rattle.grid_pieces.specs.declared.piece.Piece.{Piece}
use Rattle.grid_pieces.specs.declared.piece.StackAt.{StackAt}
use Rattle.grid_pieces.specs.declared.touch.Touching.{Touching}
use Rattle.grid_pieces.specs.Limits.{PieceKeeps}
use Rattle.grid_pieces.specs.Piece.{ArePieces}
use Rattle.grid_pieces.specs.Touch.{metal, IsTouch, IsFirstTouch}
use Rattle.grid_stacks.specs.Crossing.{Stands}
use Rattle.grid_stacks.specs.Stacking.{AreStacks, AreRefused, HasSheet, HasLayer, IsEven}
use Rattle.grid_plan.specs.declared.record.Plan.{Plan}
use Rattle.grid_plan.specs.Planning.{IsPlanOf, IsPlanRefused}
use Rattle.grid_shapes.specs.Shapes.{AreShapes, LinesAreMany}

-- The stacks of a plan over pieces.
abbrev pub AreStacksOf : Tech → Plan → List Piece → List StackAt → Type 0
AreStacksOf tech plan pieces stacks =
    AreStacks (Stands tech pieces plan.connects plan.blocks) tech plan.units pieces stacks

-- Nothing touches.
abbrev pub NothingTouches : List Piece → List StackAt → Type 0
NothingTouches pieces stacks = (touching : Touching) → IsTouch (metal pieces stacks) touching → ⊥

-- The drawing of a script over a design, with this technology and these cells.
pub record IsDrawingOf (tech : Tech) (cells : Cells) (design : Design) (script : Script) (grid : Grid) : Type 0 where
  pub plan : Plan
  pub is_plan : IsPlanOf tech cells design script plan
  pub shapes : List Drawn
  pub are_shapes : AreShapes plan shapes
  pub units : grid.units ≡ plan.units
  pub nets : grid.nets ≡ plan.nets
  pub power : grid.power ≡ plan.power
  pub domains : grid.domains ≡ plan.domains
  pub pieces : ArePieces shapes plan.blocks grid.pieces
  pub stacks : AreStacksOf tech plan grid.pieces grid.stacks
  pub apart : NothingTouches grid.pieces grid.stacks

-- A plan, its shapes and their pieces stand.
pub record HasPieces (tech : Tech) (cells : Cells) (design : Design) (script : Script) (plan : Plan) (pieces : List Piece)
    : Type 0 where
  pub is_plan : IsPlanOf tech cells design script plan
  pub shapes : List Drawn
  pub are_shapes : AreShapes plan shapes
  pub are_pieces : ArePieces shapes plan.blocks pieces

-- Why there is no drawing: no plan; more lines than may be; what `stacks` refuses; metal that touches.
pub record HasManyLines (tech : Tech) (cells : Cells) (design : Design) (script : Script) : Type 0 where
  pub plan : Plan
  pub is_plan : IsPlanOf tech cells design script plan
  pub many : LinesAreMany plan

pub record HasNoStacks (tech : Tech) (cells : Cells) (design : Design) (script : Script) (error : DrawError) : Type 0 where
  pub plan : Plan
  pub pieces : List Piece
  pub has : HasPieces tech cells design script plan pieces
  pub refused : AreRefused (Stands tech pieces plan.connects plan.blocks) tech plan.units pieces error

pub record Touches (tech : Tech) (cells : Cells) (design : Design) (script : Script) (touching : Touching) : Type 0 where
  pub plan : Plan
  pub pieces : List Piece
  pub has : HasPieces tech cells design script plan pieces
  pub stacks : List StackAt
  pub are_stacks : AreStacksOf tech plan pieces stacks
  pub first : IsFirstTouch (metal pieces stacks) touching

-- The first cause of all.
abbrev pub IsDrawRefused : Tech → Cells → Design → Script → DrawError → Type 0
IsDrawRefused tech cells design script Want = Unit {0}
IsDrawRefused tech cells design script (TooMany Lines) = HasManyLines tech cells design script
IsDrawRefused tech cells design script (Touch touching) = Touches tech cells design script touching
IsDrawRefused tech cells design script error =
    IsPlanRefused tech cells design script error ⊎ HasNoStacks tech cells design script error

-- What a piece of a drawing keeps.
pub record PieceStands (tech : Tech) (grid : Grid) (piece : Piece) : Type 0 where
  pub keeps : PieceKeeps piece
  pub even : IsEven piece
  pub net : piece.net < length grid.nets
  pub layer : HasLayer tech piece
  pub sheet : HasSheet tech piece

-- What a stack of a drawing keeps: its net and layers stand, and it has an array and a resistance for each layer.
pub record StackStands (tech : Tech) (grid : Grid) (stack : StackAt) : Type 0 where
  pub net : stack.net < length grid.nets
  pub rising : stack.stack.from < stack.stack.to
  pub layers : stack.stack.to < length tech.routing
  pub arrays : length stack.stack.arrays ≡ stack.stack.to - stack.stack.from
  pub ohms : length stack.stack.ohms ≡ stack.stack.to - stack.stack.from
