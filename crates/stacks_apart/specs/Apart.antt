-- Stacks on pieces where nothing touches.
use Rattle.std.specs.Prelude.{◌≡◌, ℕ, ◌<◌, List, All}
use Rattle.geom_rect.specs.Rect.{HasPoint}
use Rattle.grid_pieces.specs.declared.piece.Piece.{Piece}
use Rattle.grid_pieces.specs.declared.piece.StackAt.{StackAt}
use Rattle.grid_pieces.specs.declared.touch.Touching.{Touching}
use Rattle.grid_pieces.specs.Touch.{metal, IsTouch}

-- The rectangle of a stack has its place.
abbrev pub HasItsPlace : StackAt → Type 0
HasItsPlace at = HasPoint at.crossing at.x at.y

-- Each stack has its place in its rectangle, and nothing touches.
pub record IsApart (pieces : List Piece) (stacks : List StackAt) : Type 0 where
  pub places : All HasItsPlace stacks
  pub none : (touching : Touching) → IsTouch (metal pieces stacks) touching → ⊥

-- The layer lies strictly between the lowest and the highest one of a stack.
abbrev pub IsWithin : StackAt → ℕ → Type 0
IsWithin at layer = (at.stack.from < layer) × (layer < at.stack.to)

-- Two stacks stand at one place, also of two nets.
pub record AreAtOnePlace (one other : StackAt) : Type 0 where
  pub x : one.x ≡ other.x
  pub y : one.y ≡ other.y
