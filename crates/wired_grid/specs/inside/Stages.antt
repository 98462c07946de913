-- What metal that touches refuses.
use Rattle.std.specs.Prelude.{List}
use Rattle.grid_pieces.specs.declared.piece.Piece.{Piece}
use Rattle.grid_pieces.specs.declared.piece.StackAt.{StackAt}
use Rattle.grid_pieces.specs.Touch.{metal, IsFirstTouch}
use Rattle.wired_grid.specs.declared.error.WiredError.{WiredError}
use Rattle.wired_grid.specs.declared.error.WiredError.TheVariants.{Touch, Want}

abbrev pub IsTouchRefused : List Piece → List StackAt → WiredError → Type 0
IsTouchRefused pieces stacks (Touch touching) = IsFirstTouch (metal pieces stacks) touching
IsTouchRefused pieces stacks Want = Unit {0}
IsTouchRefused pieces stacks _ = ⊥
