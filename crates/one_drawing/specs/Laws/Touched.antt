-- The first touch is one.
use Rattle.std.proofs.Common.{◌≡◌, List}
use Rattle.grid_pieces.specs.declared.metal.Metal.{Metal}
use Rattle.grid_pieces.specs.declared.touch.Touching.{Touching}
use Rattle.grid_pieces.specs.Touch.{IsFirstTouch}
use Rattle.one_drawing.specs.Laws.Ordered.{touch_equal}

pub one_first_touch : (all : List Metal) (t u : Touching) → IsFirstTouch all t → IsFirstTouch all u → t ≡ u
one_first_touch all t u x y = touch_equal t u (x.first u y.is) (y.first t x.is)
