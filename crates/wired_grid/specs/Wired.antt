-- The grid of wiring that another tool drew: the pieces of its segments, the stacks of its vias, and nothing that touches
-- (LEF/DEF 5.8 Language Reference, VIAS and SPECIALNETS).
use Rattle.std.specs.Prelude.{◌≡◌, ◌<◌, ◌^◌, ℕ, ℤ, pos, ◌*ℤ◌, ◌≤ℤ◌, Bool, true, false, cond, not, List, [], ◌∷◌, All, None, length}
use Rattle.def_design.specs.declared.record.Design.{Design}
use Rattle.def_wiring.specs.declared.record.Wires.{Wires}
use Rattle.grid_pieces.specs.declared.grid.DomainAt.{DomainAt}
use Rattle.grid_pieces.specs.declared.grid.Grid.{Grid}
use Rattle.grid_pieces.specs.declared.piece.Piece.{Piece}
use Rattle.grid_pieces.specs.declared.piece.StackAt.{StackAt}
use Rattle.grid_pieces.specs.declared.touch.Touching.{Touching}
use Rattle.grid_pieces.specs.Touch.{metal, IsTouch, IsFirstTouch}
use Rattle.lef_tech.specs.declared.tech.Tech.{Tech}
use Rattle.via_arrays.specs.declared.parts.CutArray.{CutArray}
use Rattle.wire_limits.specs.declared.error.LimitError.{LimitError}
use Rattle.wire_limits.specs.declared.error.LimitError.TheVariants as limits
use Rattle.wire_limits.specs.Limits.{AreWithin, AreRefused}
use Rattle.wire_names.specs.declared.error.NameError.{NameError}
use Rattle.wire_names.specs.declared.error.NameError.TheVariants as names
use Rattle.wire_names.specs.declared.record.NamedWires.{NamedWires}
use Rattle.wire_names.specs.Nets.{net_number}
use Rattle.wire_names.specs.Wiring.{AreNamed, AreUnnamed}
use Rattle.wire_pieces.specs.Pieces.{AreWirePieces}
use Rattle.wire_stacks.specs.Stacks.{AreStacks, IsFirstOff}
use Rattle.wired_grid.specs.declared.error.WiredError.{WiredError}
use Rattle.wired_grid.specs.declared.error.WiredError.TheVariants.{UnknownName, NetCount, ViaLayers, ViaSize, OddWidth, NoSheet, NoResistance, TooMany, ViaOff, Touch, Want}

-- The two nets in byte order, and for each whether it is the power net.
abbrev pub two_in_order : (power ground : List ℕ) → Bool → List (List ℕ)
two_in_order power ground power_first = cond power_first (power ∷ ground ∷ []) (ground ∷ power ∷ [])

abbrev pub two_powers : Bool → List Bool
two_powers power_first = power_first ∷ not power_first ∷ []

-- One domain without a region over them.
abbrev pub one_domain : Bool → DomainAt
one_domain power_first = record {
  region = None;
  ground = net_number power_first false;
  power = net_number power_first true;
}

-- Nothing touches.
abbrev pub NothingTouches : List Piece → List StackAt → Type 0
NothingTouches pieces stacks = (touching : Touching) → IsTouch (metal pieces stacks) touching → ⊥

-- The grid of wiring over a design, with this technology.
pub record IsWiredGrid (tech : Tech) (design : Design) (wires : Wires) (grid : Grid) : Type 0 where
  pub named : NamedWires
  pub are_named : AreNamed tech wires named
  pub within : AreWithin tech wires named
  pub units : grid.units ≡ design.units
  pub nets : grid.nets ≡ two_in_order named.power named.ground named.power_first
  pub power : grid.power ≡ two_powers named.power_first
  pub domains : grid.domains ≡ one_domain named.power_first ∷ []
  pub pieces : AreWirePieces named.shapes grid.pieces
  pub stacks : AreStacks tech named.vias named.spots grid.pieces grid.stacks
  pub apart : NothingTouches grid.pieces grid.stacks

-- A length from 1 to 2^32 units.
abbrev pub IsLong : ℤ → Type 0
IsLong long = (pos 1 ≤ℤ long) × (long ≤ℤ pos (2 ^ 32))

-- The rule of an array stands in the technology, and the cuts of a row, side by side, are neither without length nor longer
-- than 2^32 units; so those of a column.
pub record ArrayStands (tech : Tech) (array : CutArray) : Type 0 where
  pub rule : array.rule < length tech.rules
  pub row : IsLong (pos array.columns *ℤ array.cut_x)
  pub column : IsLong (pos array.rows *ℤ array.cut_y)

-- The same of each array of a stack.
abbrev pub ArraysStand : Tech → StackAt → Type 0
ArraysStand tech at = All (ArrayStands tech) at.stack.arrays

-- The wiring has places for its names, and a limit is passed.
pub record IsPassed (tech : Tech) (wires : Wires) (error : LimitError) : Type 0 where
  pub named : NamedWires
  pub are_named : AreNamed tech wires named
  pub refused : AreRefused tech wires named error

-- No limit is passed, and these are the pieces.
pub record HasPieces (tech : Tech) (wires : Wires) (named : NamedWires) (pieces : List Piece) : Type 0 where
  pub are_named : AreNamed tech wires named
  pub within : AreWithin tech wires named
  pub are_pieces : AreWirePieces named.shapes pieces

-- An end of a stack lies on no piece.
pub record IsOff (tech : Tech) (wires : Wires) (via : ℕ) (x y : ℤ) : Type 0 where
  pub named : NamedWires
  pub pieces : List Piece
  pub has : HasPieces tech wires named pieces
  pub first : IsFirstOff tech named.vias named.spots pieces via x y

-- The stacks stand, and this touches first.
pub record Touches (tech : Tech) (wires : Wires) (touching : Touching) : Type 0 where
  pub named : NamedWires
  pub pieces : List Piece
  pub has : HasPieces tech wires named pieces
  pub stacks : List StackAt
  pub are_stacks : AreStacks tech named.vias named.spots pieces stacks
  pub first : IsFirstTouch (metal pieces stacks) touching

-- Why there is none: the first cause in this order, and of one cause the first in the order of the text; of ends of stacks
-- the first in the order of the stacks, the lower end before the upper one. Want of memory is free.
abbrev pub IsWiredRefused : Tech → Design → Wires → WiredError → Type 0
IsWiredRefused tech design wires (UnknownName name) = AreUnnamed tech wires (names.UnknownName name)
IsWiredRefused tech design wires (NetCount power ground) = AreUnnamed tech wires (names.NetCount power ground)
IsWiredRefused tech design wires (ViaLayers via) = IsPassed tech wires (limits.ViaLayers via)
IsWiredRefused tech design wires (ViaSize via) = IsPassed tech wires (limits.ViaSize via)
IsWiredRefused tech design wires (OddWidth net width) = IsPassed tech wires (limits.OddWidth net width)
IsWiredRefused tech design wires (NoSheet layer) = IsPassed tech wires (limits.NoSheet layer)
IsWiredRefused tech design wires (NoResistance layer) = IsPassed tech wires (limits.NoResistance layer)
IsWiredRefused tech design wires (TooMany what) = IsPassed tech wires (limits.TooMany what)
IsWiredRefused tech design wires (ViaOff via x y) = IsOff tech wires via x y
IsWiredRefused tech design wires (Touch touching) = Touches tech wires touching
IsWiredRefused tech design wires Want = Unit {0}
