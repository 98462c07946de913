-- The rails of a net over a component, and the lowest of them (this project; LEF/DEF 5.8 Language Reference, special
-- wiring, SHAPE FOLLOWPIN).
use Rattle.std.specs.Prelude.{◌≡◌, ℕ, ◌<◌, ◌≤◌, ◌⊎◌, ◌<ℤ◌}
use Rattle.geom_rect.specs.Rect.{IsBetween}
use Rattle.geom_rect.specs.declared.direction.Axis.TheVariants.{X}
use Rattle.geom_rect.specs.declared.drawn.Shape.TheVariants.{FollowPin}
use Rattle.grid_pieces.specs.declared.grid.Grid.{Grid}
use Rattle.grid_pieces.specs.declared.piece.Piece.{Piece}
use Rattle.grid_taps.specs.declared.column.Column.{Column}
use Rattle.grid_taps.specs.Naming.{At}

-- A rail of a net is a piece that is drawn along the pins of cells. It goes along x.
pub record IsRail (grid : Grid) (net number : ℕ) (rail : Piece) : Type 0 where
  pub is : At grid.pieces number rail
  pub of_net : rail.net ≡ net
  pub shape : rail.shape ≡ FollowPin
  pub axis : rail.axis ≡ X

-- It has the x of the column, and its centre line lies from the column's lower end to its upper one, both included.
abbrev pub Crosses : Column → Piece → Type 0
Crosses column rail = IsBetween rail.from rail.to column.x × IsBetween column.lower column.upper rail.centre

-- A rail is not above another: its centre is less, or on equal centres its layer is lower. On one line of one layer the
-- one that stands earlier in the list counts as lower; in a grid in which nothing touches no two of them have one x.
abbrev pub IsNotAbove : Piece → ℕ → Piece → ℕ → Type 0
IsNotAbove rail number other place = (rail.centre <ℤ other.centre)
    ⊎ ((rail.centre ≡ other.centre) × ((rail.layer < other.layer)
    ⊎ ((rail.layer ≡ other.layer) × (number ≤ place))))

-- The lowest rail of the net that crosses the column.
pub record IsLowestRail (grid : Grid) (net : ℕ) (column : Column) (number : ℕ) : Type 0 where
  pub rail : Piece
  pub is : IsRail grid net number rail
  pub crosses : Crosses column rail
  pub lowest : (place : ℕ) (other : Piece) → IsRail grid net place other → Crosses column other
      → IsNotAbove rail number other place
