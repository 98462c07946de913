-- What of a design, a technology and a grid reads back once it is written.
use Rattle.std.specs.Prelude.{ℕ, ◌<◌, ◌≤◌, All, length}
use Rattle.text_lex.specs.Name.{IsName}
use Rattle.def_design.specs.declared.record.Design.{Design}
use Rattle.def_design.specs.Limits.{DesignKeeps}
use Rattle.lef_tech.specs.declared.layer.RoutingLayer.{RoutingLayer}
use Rattle.lef_tech.specs.declared.layer.CutLayer.{CutLayer}
use Rattle.lef_tech.specs.declared.rule.ViaRule.{ViaRule}
use Rattle.lef_tech.specs.declared.tech.Tech.{Tech}
use Rattle.lef_tech.specs.Limits.{TechKeeps}
use Rattle.via_arrays.specs.declared.parts.CutArray.{CutArray}
use Rattle.grid_pieces.specs.declared.grid.Grid.{Grid}
use Rattle.grid_pieces.specs.declared.piece.Piece.{Piece}
use Rattle.grid_pieces.specs.declared.piece.StackAt.{StackAt}
use Rattle.grid_pieces.specs.Limits.{PieceKeeps}
use Rattle.def_writer.specs.Via.{arrays_of, vias_of}
use Rattle.def_writer.specs.Limits.{GridFits}
use Rattle.wiring_file.specs.Number.{limit}
use Rattle.wiring_file.specs.Written.{IsNear, IsLength, IsSome}

-- The names that are written are names of DEF: those of the design, of the layers and rules of the technology, and of the
-- nets of the grid.
pub record AreWords (design : Design) (tech : Tech) (grid : Grid) : Type 0 where
  pub design_name : IsName design.name
  pub routing_names : All (λ (l : RoutingLayer). IsName l.name) tech.routing
  pub cut_names : All (λ (l : CutLayer). IsName l.name) tech.cuts
  pub rule_names : All (λ (r : ViaRule). IsName r.name) tech.rules
  pub net_names : All IsName grid.nets

-- A count of cuts is at least 1, and within the limit of written numbers.
abbrev pub IsCount : ℕ → Type 0
IsCount n = (0 < n) × (n ≤ limit)

-- An array has cuts, which have an area, and its enclosures are not below 0.
pub record ArrayReads (array : CutArray) : Type 0 where
  pub columns : IsCount array.columns
  pub rows : IsCount array.rows
  pub cut_x : IsSome array.cut_x
  pub cut_y : IsSome array.cut_y
  pub lower_x : IsLength array.lower_x
  pub lower_y : IsLength array.lower_y
  pub upper_x : IsLength array.upper_x
  pub upper_y : IsLength array.upper_y

-- A stack stands at a point within the limit.
pub record StackReads (at : StackAt) : Type 0 where
  pub x : IsNear at.x
  pub y : IsNear at.y
  pub arrays : All ArrayReads at.stack.arrays

-- What reads back: names are names of DEF; the design, the technology and the pieces of the grid keep their limits; the
-- grid is one that can be written; its stacks have numbers that may stand in their places; and each piece and each stack
-- is of one of its nets.
pub record CanBeRead (design : Design) (tech : Tech) (grid : Grid) : Type 0 where
  pub words : AreWords design tech grid
  pub design_keeps : DesignKeeps design
  pub tech_keeps : TechKeeps tech
  pub grid_fits : GridFits tech grid
  pub pieces : All PieceKeeps grid.pieces
  pub stacks : All StackReads grid.stacks
  pub piece_nets : All (λ (p : Piece). p.net < length grid.nets) grid.pieces
  pub stack_nets : All (λ (at : StackAt). at.net < length grid.nets) grid.stacks
  pub few_nets : length grid.nets ≤ limit
  pub few_vias : length (vias_of (arrays_of grid.stacks)) ≤ limit
