-- The grid of wiring, from its parts.
use Rattle.std.proofs.Common.{◌≡◌, ◌<◌, ◌≤◌, ◌^◌, ℕ, List, [], ◌∷◌, All, length, sym, subst}
use Rattle.def_design.specs.declared.record.Design.{Design}
use Rattle.def_design.specs.Limits.{DesignKeeps}
use Rattle.def_wiring.specs.declared.record.Wires.{Wires}
use Rattle.grid_extract.specs.Extraction.{GridKeeps}
use Rattle.grid_network.specs.Asked.{IsPieceOf, IsStackOf}
use Rattle.grid_pieces.specs.declared.grid.Grid.{Grid}
use Rattle.grid_pieces.specs.declared.piece.Piece.{Piece}
use Rattle.grid_pieces.specs.declared.piece.StackAt.{StackAt}
use Rattle.grid_pieces.specs.Limits.{PieceKeeps}
use Rattle.lef_tech.specs.declared.tech.Tech.{Tech}
use Rattle.name_table.specs.Numbering.{AreDistinct}
use Rattle.wire_limits.specs.Limits.{AreWithin}
use Rattle.wire_names.specs.declared.record.NamedWires.{NamedWires}
use Rattle.wire_names.specs.Keeping.{NamedKeep}
use Rattle.wire_names.specs.Wiring.{AreNamed}
use Rattle.wire_pieces.specs.Pieces.{AreWirePieces}
use Rattle.wire_stacks.specs.Stacks.{AreStacks, StackStands}
use Rattle.wired_grid.specs.Wired.{IsWiredGrid, NothingTouches, two_in_order, two_powers, one_domain}
use Rattle.wired_grid.proofs.Kept.{distinct, piece_of, stack_of}

-- The grid has these nets, pieces and stacks.
pub record HasParts (design : Design) (named : NamedWires) (pieces : List Piece) (stacks : List StackAt) (grid : Grid) : Type 0 where
  pub units : grid.units ≡ design.units
  pub nets : grid.nets ≡ two_in_order named.power named.ground named.power_first
  pub power : grid.power ≡ two_powers named.power_first
  pub domains : grid.domains ≡ one_domain named.power_first ∷ []
  pub pieces_are : grid.pieces ≡ pieces
  pub stacks_are : grid.stacks ≡ stacks

pub is_grid : (tech : Tech) (design : Design) (wires : Wires) (named : NamedWires) (pieces : List Piece) (stacks : List StackAt) (grid : Grid)
    → AreNamed tech wires named → AreWithin tech wires named → AreWirePieces named.shapes pieces → AreStacks tech named.vias named.spots pieces stacks
    → NothingTouches pieces stacks → HasParts design named pieces stacks grid → IsWiredGrid tech design wires grid
is_grid tech design wires named pieces stacks grid are within pieces_are stacks_are apart parts = record {
  named = named;
  are_named = are;
  within = within;
  units = parts.units;
  nets = parts.nets;
  power = parts.power;
  domains = parts.domains;
  pieces = subst (AreWirePieces named.shapes) (sym parts.pieces_are) pieces_are;
  stacks = subst (λ (ps : List Piece). AreStacks tech named.vias named.spots ps grid.stacks) (sym parts.pieces_are)
      (subst (AreStacks tech named.vias named.spots pieces) (sym parts.stacks_are) stacks_are);
  apart = subst (λ (ps : List Piece). NothingTouches ps grid.stacks) (sym parts.pieces_are) (subst (NothingTouches pieces) (sym parts.stacks_are) apart);
}

pub grid_keeps : (tech : Tech) (design : Design) (wires : Wires) (named : NamedWires) (pieces : List Piece) (stacks : List StackAt) (grid : Grid)
    → DesignKeeps design → AreNamed tech wires named → NamedKeep tech named → AreWithin tech wires named → AreWirePieces named.shapes pieces
    → All PieceKeeps pieces → All (StackStands tech) stacks → length pieces < 2 ^ 32 → length stacks < 2 ^ 32
    → HasParts design named pieces stacks grid → GridKeeps grid tech
grid_keeps tech design wires named pieces stacks grid design_keeps are keep within pieces_are pieces_keep stacks_stand few_pieces few_stacks parts = record {
  units = subst (λ u. (1 ≤ u) × (u ≤ 20000)) (sym parts.units) (design_keeps.some_units, design_keeps.units);
  nets = subst AreDistinct (sym parts.nets) (distinct named.power named.ground named.power_first are.order);
  pieces = subst (All (IsPieceOf grid tech)) (sym parts.pieces_are)
      (piece_of tech named grid named.power named.ground named.power_first pieces keep within.sheets pieces_are pieces_keep parts.nets);
  stacks = subst (All (IsStackOf grid tech)) (sym parts.stacks_are) (stack_of tech grid named.power named.ground named.power_first stacks stacks_stand parts.nets);
  few_pieces = subst (λ (ps : List Piece). length ps < 2 ^ 32) (sym parts.pieces_are) few_pieces;
  few_stacks = subst (λ (ss : List StackAt). length ss < 2 ^ 32) (sym parts.stacks_are) few_stacks;
}
