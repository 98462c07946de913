-- Grids that are alike but for the rectangles in which their stacks stand.
use Rattle.std.specs.Prelude.{◌≡◌, ℕ, ℤ, List, None, map}
use Rattle.grid_pieces.specs.declared.grid.DomainAt.{DomainAt}
use Rattle.grid_pieces.specs.declared.grid.Grid.{Grid}
use Rattle.grid_pieces.specs.declared.piece.StackAt.{StackAt}
use Rattle.via_arrays.specs.declared.parts.Stack.{Stack}

-- A stack without its rectangle: its net, where it stands, and its arrays of cuts.
pub record Joint : Type 0 where
  pub net : ℕ
  pub x : ℤ
  pub y : ℤ
  pub stack : Stack

abbrev pub joint_of : StackAt → Joint
joint_of at = record { net = at.net; x = at.x; y = at.y; stack = at.stack }

-- They have the same units, nets, domains and pieces, and stacks of the same nets, places and arrays in one order.
pub record AreAlike (one other : Grid) : Type 0 where
  pub units : one.units ≡ other.units
  pub nets : one.nets ≡ other.nets
  pub power : one.power ≡ other.power
  pub domains : one.domains ≡ other.domains
  pub pieces : one.pieces ≡ other.pieces
  pub stacks : map joint_of one.stacks ≡ map joint_of other.stacks

-- The grid with its domains over everything: none has a region any more.
abbrev pub without_regions : Grid → Grid
without_regions grid = record grid { domains = map (λ (d : DomainAt). record d { region = None }) grid.domains }
