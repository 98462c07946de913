-- What is known of the pieces and the stacks of a plan before they make a grid.
use Rattle.std.specs.Prelude.{◌≡◌, ◌⊎◌, ◌<◌, ◌-◌, List, length}
use Rattle.geom_rect.specs.Drawn.{IsWidth}
use Rattle.geom_rect.specs.Rect.{IsInOrder}
use Rattle.geom_rect.specs.declared.drawn.Drawn.{Drawn}
use Rattle.lef_tech.specs.declared.tech.Tech.{Tech}
use Rattle.via_arrays.specs.Choice.{direction}
use Rattle.grid_pieces.specs.declared.error.DrawError.{DrawError}
use Rattle.grid_pieces.specs.declared.error.DrawError.TheVariants.{Touch, Want}
use Rattle.grid_pieces.specs.declared.piece.Piece.{Piece}
use Rattle.grid_pieces.specs.declared.piece.StackAt.{StackAt}
use Rattle.grid_pieces.specs.declared.touch.Touching.{Touching}
use Rattle.grid_pieces.specs.Piece.{ArePieces}
use Rattle.grid_pieces.specs.Touch.{metal, IsFirstTouch}
use Rattle.grid_stacks.specs.Stacking.{HasLayer}
use Rattle.grid_plan.specs.declared.record.Plan.{Plan}
use Rattle.grid_shapes.specs.Shapes.{AreShapes}

-- The pieces into which blockages cut the shapes of a plan.
pub record ArePiecesOf (plan : Plan) (pieces : List Piece) : Type 0 where
  pub shapes : List Drawn
  pub are_shapes : AreShapes plan shapes
  pub are_pieces : ArePieces shapes plan.blocks pieces

-- What a piece has of the shapes of which it is cut.
pub record PieceFacts (tech : Tech) (plan : Plan) (piece : Piece) : Type 0 where
  pub even : IsWidth piece.width
  pub net : piece.net < length plan.nets
  pub layer : HasLayer tech piece
  pub axis : piece.axis ≡ direction tech piece.layer

-- What a stack keeps.
pub record StackFacts (tech : Tech) (plan : Plan) (stack : StackAt) : Type 0 where
  pub in_order : IsInOrder stack.crossing
  pub net : stack.net < length plan.nets
  pub rising : stack.stack.from < stack.stack.to
  pub layers : stack.stack.to < length tech.routing
  pub arrays : length stack.stack.arrays ≡ stack.stack.to - stack.stack.from
  pub ohms : length stack.stack.ohms ≡ stack.stack.to - stack.stack.from

-- Metal touches, or there was not enough memory.
abbrev pub IsTouchRefused : List Piece → List StackAt → DrawError → Type 0
IsTouchRefused pieces stacks error =
    (error ≡ Want) ⊎ ((touching : Touching) × (error ≡ Touch touching) × IsFirstTouch (metal pieces stacks) touching)
