-- What refuses names, limits, stacks or metal that touches refuses the grid.
use Rattle.std.proofs.Common.{◌≡◌, List}
use Rattle.def_design.specs.declared.record.Design.{Design}
use Rattle.def_wiring.specs.declared.record.Wires.{Wires}
use Rattle.grid_pieces.specs.declared.piece.Piece.{Piece}
use Rattle.grid_pieces.specs.declared.piece.StackAt.{StackAt}
use Rattle.lef_tech.specs.declared.tech.Tech.{Tech}
use Rattle.wire_limits.specs.declared.error.LimitError.{LimitError}
use Rattle.wire_limits.specs.declared.error.LimitError.TheVariants as limits
use Rattle.wire_limits.specs.Limits.{AreWithin, AreRefused}
use Rattle.wire_names.specs.declared.error.NameError.{NameError}
use Rattle.wire_names.specs.declared.error.NameError.TheVariants as names
use Rattle.wire_names.specs.declared.record.NamedWires.{NamedWires}
use Rattle.wire_names.specs.Wiring.{AreNamed, AreUnnamed}
use Rattle.wire_pieces.specs.Pieces.{AreWirePieces}
use Rattle.wire_stacks.specs.declared.error.OffError.{OffError}
use Rattle.wire_stacks.specs.declared.error.OffError.TheVariants as ends
use Rattle.wire_stacks.specs.Stacks.{AreStacks, AreOff}
use Rattle.wired_grid.specs.declared.error.WiredError.{WiredError}
use Rattle.wired_grid.specs.declared.error.WiredError.TheVariants.{UnknownName, NetCount, ViaLayers, ViaSize, OddWidth, NoSheet, NoResistance, TooMany, ViaOff, Touch, Want}
use Rattle.wired_grid.specs.Errors.{of_name, of_limit, of_end}
use Rattle.wired_grid.specs.Wired.{IsWiredRefused}
use Rattle.wired_grid.specs.inside.Stages.{IsTouchRefused}

pub name_refused : (tech : Tech) (design : Design) (wires : Wires) (e : NameError) → AreUnnamed tech wires e → IsWiredRefused tech design wires (of_name e)
name_refused tech design wires (names.UnknownName name) h = h
name_refused tech design wires (names.NetCount power ground) h = h
name_refused tech design wires names.Want h = tt

pub limit_refused : (tech : Tech) (design : Design) (wires : Wires) (named : NamedWires) (e : LimitError) → AreNamed tech wires named
    → AreRefused tech wires named e → IsWiredRefused tech design wires (of_limit e)
limit_refused tech design wires named (limits.ViaLayers via) are h = record { named = named; are_named = are; refused = h }
limit_refused tech design wires named (limits.ViaSize via) are h = record { named = named; are_named = are; refused = h }
limit_refused tech design wires named (limits.OddWidth net width) are h = record { named = named; are_named = are; refused = h }
limit_refused tech design wires named (limits.NoSheet layer) are h = record { named = named; are_named = are; refused = h }
limit_refused tech design wires named (limits.NoResistance layer) are h = record { named = named; are_named = are; refused = h }
limit_refused tech design wires named (limits.TooMany what) are h = record { named = named; are_named = are; refused = h }
limit_refused tech design wires named limits.Want are h = tt

pub end_refused : (tech : Tech) (design : Design) (wires : Wires) (named : NamedWires) (pieces : List Piece) (e : OffError) → AreNamed tech wires named
    → AreWithin tech wires named → AreWirePieces named.shapes pieces → AreOff tech named.vias named.spots pieces e
    → IsWiredRefused tech design wires (of_end e)
end_refused tech design wires named pieces (ends.ViaOff via x y) are within pieces_are h =
    record { named = named; pieces = pieces; has = record { are_named = are; within = within; are_pieces = pieces_are }; first = h }
end_refused tech design wires named pieces ends.Want are within pieces_are h = tt

pub touch_refused : (tech : Tech) (design : Design) (wires : Wires) (named : NamedWires) (pieces : List Piece) (stacks : List StackAt) (e : WiredError)
    → AreNamed tech wires named → AreWithin tech wires named → AreWirePieces named.shapes pieces
    → AreStacks tech named.vias named.spots pieces stacks → IsTouchRefused pieces stacks e → IsWiredRefused tech design wires e
touch_refused tech design wires named pieces stacks (UnknownName name) are within pieces_are stacks_are h = absurd h
touch_refused tech design wires named pieces stacks (NetCount power ground) are within pieces_are stacks_are h = absurd h
touch_refused tech design wires named pieces stacks (ViaLayers via) are within pieces_are stacks_are h = absurd h
touch_refused tech design wires named pieces stacks (ViaSize via) are within pieces_are stacks_are h = absurd h
touch_refused tech design wires named pieces stacks (OddWidth net width) are within pieces_are stacks_are h = absurd h
touch_refused tech design wires named pieces stacks (NoSheet layer) are within pieces_are stacks_are h = absurd h
touch_refused tech design wires named pieces stacks (NoResistance layer) are within pieces_are stacks_are h = absurd h
touch_refused tech design wires named pieces stacks (TooMany what) are within pieces_are stacks_are h = absurd h
touch_refused tech design wires named pieces stacks (ViaOff via x y) are within pieces_are stacks_are h = absurd h
touch_refused tech design wires named pieces stacks (Touch touching) are within pieces_are stacks_are h = record {
  named = named;
  pieces = pieces;
  has = record { are_named = are; within = within; are_pieces = pieces_are };
  stacks = stacks;
  are_stacks = stacks_are;
  first = h;
}
touch_refused tech design wires named pieces stacks Want are within pieces_are stacks_are h = tt
