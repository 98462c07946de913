-- What a grid has whose written wiring gives the same grid again (LEF/DEF 5.8 Language Reference, VIAS and SPECIALNETS).
use Rattle.std.specs.Prelude.{◌≡◌, ℕ, ◌<◌, Bool, List, ◌∷◌, [], All, Contains, map, length, slice_index_or}
use Rattle.std.specs.Bool.{MatchBool}
use Rattle.std.specs.List.{enumerate_from}
use Rattle.geom_rect.specs.declared.direction.Axis.TheVariants.{X}
use Rattle.geom_rect.specs.declared.drawn.Drawn.{Drawn}
use Rattle.geom_rect.specs.declared.drawn.Shape.TheVariants.{FollowPin}
use Rattle.lef_tech.specs.declared.layer.CutLayer.{CutLayer}
use Rattle.lef_tech.specs.declared.layer.RoutingLayer.{RoutingLayer}
use Rattle.lef_tech.specs.declared.rule.ViaRule.{ViaRule}
use Rattle.lef_tech.specs.declared.tech.Tech.{Tech}
use Rattle.name_table.specs.ByteOrder.{IsBefore}
use Rattle.name_table.specs.Numbering.{AreDistinct}
use Rattle.via_arrays.specs.declared.parts.CutArray.{CutArray}
use Rattle.grid_pieces.specs.declared.grid.Grid.{Grid}
use Rattle.grid_pieces.specs.declared.piece.Block.{Block}
use Rattle.grid_pieces.specs.declared.piece.Piece.{Piece}
use Rattle.grid_pieces.specs.declared.piece.StackAt.{StackAt}
use Rattle.grid_pieces.specs.Piece.{ArePieces}
use Rattle.def_writer.specs.Via.{arrays_of, via_of}
use Rattle.wired_grid.specs.Wired.{two_in_order, two_powers, one_domain}
use Rattle.rewired_stacks.specs.Rewired.{StandApart}

-- No two routing layers, no two cut layers and no two rules of a technology have one name.
pub record HasOwnNames (tech : Tech) : Type 0 where
  pub routing : AreDistinct (map (λ (l : RoutingLayer). l.name) tech.routing)
  pub cuts : AreDistinct (map (λ (l : CutLayer). l.name) tech.cuts)
  pub rules : AreDistinct (map (λ (r : ViaRule). r.name) tech.rules)

-- One domain without a region, of a power net and a ground net in byte order.
pub record IsOverOneDomain (grid : Grid) : Type 0 where
  pub power : List ℕ
  pub ground : List ℕ
  pub power_first : Bool
  pub order : MatchBool power_first (IsBefore power ground) (IsBefore ground power)
  pub nets : grid.nets ≡ two_in_order power ground power_first
  pub powers : grid.power ≡ two_powers power_first
  pub domains : grid.domains ≡ one_domain power_first ∷ []

-- The pieces are those into which blockages cut drawn shapes.
pub record AreCut (pieces : List Piece) : Type 0 where
  pub drawn : List Drawn
  pub blocks : List Block
  pub are : ArePieces drawn blocks pieces

-- A piece is of one of the two nets, on a layer of the technology; a rail lies along x.
pub record PieceIs (tech : Tech) (piece : Piece) : Type 0 where
  pub net : piece.net < 2
  pub layer : piece.layer < length tech.routing
  pub rail : piece.shape ≡ FollowPin → piece.axis ≡ X

-- The rule of an array that begins on this layer stands in the technology, and its lower layer is this one.
pub record LevelIs (tech : Tech) (level : ℕ × CutArray) : Type 0 where
  pub rule : (level.1).rule < length tech.rules
  pub lower : (r : ViaRule) → (slice_index_or tech.rules (level.1).rule r).lower ≡ level.0

-- A stack is of one of the two nets, and each of its arrays begins on its layer.
pub record StackIs (tech : Tech) (at : StackAt) : Type 0 where
  pub net : at.net < 2
  pub levels : All (LevelIs tech) (enumerate_from at.stack.from at.stack.arrays)

-- Arrays of one rule with as many columns and rows are the same.
abbrev pub AreOfTheirVias : List CutArray → Type 0
AreOfTheirVias arrays = (a b : CutArray) → Contains arrays a → Contains arrays b → via_of a ≡ via_of b → a ≡ b

-- A grid that its written wiring gives again.
pub record IsRewirable (tech : Tech) (grid : Grid) : Type 0 where
  pub names : HasOwnNames tech
  pub over : IsOverOneDomain grid
  pub cut : AreCut grid.pieces
  pub pieces : All (PieceIs tech) grid.pieces
  pub stacks : All (StackIs tech) grid.stacks
  pub arrays : AreOfTheirVias (arrays_of grid.stacks)
  pub apart : StandApart tech grid.pieces grid.stacks
