-- The limits of a drawn grid: direct currents by the densities of its layers (LEF/DEF 5.8 Language Reference,
-- DCCURRENTDENSITY AVERAGE), and the supplies and drop limits of its nets (this project).
use Rattle.std.specs.Prelude.{◌≡◌, ℕ, ◌<◌, ℤ, pos, List, map, length, slice_get, slice_index_or, Option, Some, None}
use Rattle.entry_list.specs.InTurn.{InTurn}
use Rattle.name_places.specs.Places.{place_of}
use Rattle.bias_file.specs.declared.record.Bias.{Bias}
use Rattle.bias_file.specs.declared.record.DropLimit.{DropLimit}
use Rattle.bias_file.specs.declared.record.Supply.{Supply}
use Rattle.lef_tech.specs.declared.layer.CutLayer.{CutLayer}
use Rattle.lef_tech.specs.declared.layer.RoutingLayer.{RoutingLayer}
use Rattle.lef_tech.specs.declared.rule.ViaRule.{ViaRule}
use Rattle.lef_tech.specs.declared.tech.Tech.{Tech}
use Rattle.via_arrays.specs.declared.parts.CutArray.{CutArray}
use Rattle.grid_pieces.specs.declared.grid.Grid.{Grid}
use Rattle.grid_pieces.specs.declared.piece.Piece.{Piece}
use Rattle.grid_pieces.specs.declared.piece.StackAt.{StackAt}
use Rattle.grid_pieces.specs.Limits.{PieceKeeps}
use Rattle.grid_network.specs.declared.branch.Branch.{Branch}
use Rattle.grid_network.specs.declared.branch.Branch.TheVariants.{Wire, Cuts}
use Rattle.grid_network.specs.declared.key.Key.{Key}
use Rattle.em_rules.specs.Limit.{IsWireLimit, IsCutLimit, HasCuts}
use Rattle.signoff_report.specs.declared.records.Limits.{Limits}
use Rattle.signoff_report.specs.declared.records.NetLimit.{NetLimit}

-- ## branches

-- The piece with a number lies on this layer.
pub record IsOnLayer (tech : Tech) (grid : Grid) (number : ℕ) (piece : Piece) (layer : RoutingLayer) : Type 0 where
  pub is : slice_get grid.pieces number ≡ Some piece
  pub layer_is : slice_get tech.routing piece.layer ≡ Some layer

-- The array at a level of the stack with a number.
pub record IsArrayAt (grid : Grid) (number level : ℕ) (array : CutArray) : Type 0 where
  pub stack : StackAt
  pub stack_is : slice_get grid.stacks number ≡ Some stack
  pub is : slice_get stack.stack.arrays level ≡ Some array

-- The cut layer of the rule with a number.
pub record IsCutLayerOf (tech : Tech) (number : ℕ) (layer : CutLayer) : Type 0 where
  pub rule : ViaRule
  pub rule_is : slice_get tech.rules number ≡ Some rule
  pub is : slice_get tech.cuts rule.cut ≡ Some layer

-- The greatest current of a piece is that of a wire of its layer and width.
abbrev pub IsPieceLimit : Tech → Grid → ℕ → Option ℕ → Type 0
IsPieceLimit tech grid number limit = (piece : Piece) × (layer : RoutingLayer)
    × IsOnLayer tech grid number piece layer × IsWireLimit layer piece.width grid.units limit

-- That of an array is that of its cuts on their layer.
abbrev pub IsArrayLimit : Tech → Grid → ℕ → ℕ → Option ℕ → Type 0
IsArrayLimit tech grid number level limit = (array : CutArray) × (layer : CutLayer)
    × IsArrayAt grid number level array × IsCutLayerOf tech array.rule layer × IsCutLimit layer array grid.units limit

-- The greatest current of a branch: a wire along a piece, or an array of cuts.
abbrev pub IsBranchLimit : Tech → Grid → Branch → Option ℕ → Type 0
IsBranchLimit tech grid (Wire number) limit = IsPieceLimit tech grid number limit
IsBranchLimit tech grid (Cuts number level) limit = IsArrayLimit tech grid number level limit

-- ## nets

-- The potential of a net's supply line, 0 where it has none.
abbrev pub supply_at : List Supply → Option ℕ → ℤ
supply_at supplies None = pos 0
supply_at supplies (Some place) = slice_index_or (map (λ (s : Supply). s.volts) supplies) place (pos 0)

abbrev pub supply_of : Bias → List ℕ → ℤ
supply_of bias net = supply_at bias.supplies (place_of (map (λ (s : Supply). s.net) bias.supplies) net)

-- The number of its droplimit line, none where it has none.
abbrev pub drop_at : List DropLimit → Option ℕ → Option ℤ
drop_at drops None = None
drop_at drops (Some place) = slice_get (map (λ (d : DropLimit). d.volts) drops) place

abbrev pub drop_of : Bias → List ℕ → Option ℤ
drop_of bias net = drop_at bias.drops (place_of (map (λ (d : DropLimit). d.net) bias.drops) net)

abbrev pub net_limit : Bias → List ℕ → NetLimit
net_limit bias net = record { name = net; supply = supply_of bias net; drop = drop_of bias net }

-- ## all

-- The limits of a grid whose nodes have these keys and whose resistors are these branches.
pub record AreGridLimits (tech : Tech) (grid : Grid) (keys : List Key) (branches : List Branch) (bias : Bias)
    (limits : Limits) : Type 0 where
  pub of_branches : InTurn (IsBranchLimit tech grid) branches limits.branches
  pub of_nets : limits.nets ≡ map (net_limit bias) grid.nets
  pub nets_of : limits.net_of ≡ map (λ (key : Key). key.net) keys

-- ## what is asked

-- A wire is along a piece of the grid, which keeps the limits of pieces and lies on a layer of the technology.
pub record IsWire (tech : Tech) (grid : Grid) (number : ℕ) : Type 0 where
  pub piece : Piece
  pub is : slice_get grid.pieces number ≡ Some piece
  pub keeps : PieceKeeps piece
  pub layer : piece.layer < length tech.routing

-- An array of cuts is one of a stack of the grid, and its rule one of the technology.
pub record IsCuts (tech : Tech) (grid : Grid) (number level : ℕ) : Type 0 where
  pub array : CutArray
  pub is : IsArrayAt grid number level array
  pub rule : array.rule < length tech.rules
  pub cuts : HasCuts array

abbrev pub IsBranchOf : Tech → Grid → Branch → Type 0
IsBranchOf tech grid (Wire number) = IsWire tech grid number
IsBranchOf tech grid (Cuts number level) = IsCuts tech grid number level
