use Rattle.std.proofs.Common.{◌≡◌, ◌<◌, ◌^◌, List, All, length, sym, subst, arith}
use Rattle.geom_rect.specs.declared.drawn.Drawn.{Drawn}
use Rattle.grid_pieces.specs.declared.piece.Piece.{Piece}
use Rattle.grid_pieces.specs.declared.piece.StackAt.{StackAt}
use Rattle.grid_pieces.specs.Limits.{DrawnKeeps, PieceKeeps, StackKeeps}
use Rattle.wire_pieces.specs.Pieces.{AreWirePieces}
use Rattle.wire_stacks.specs.Stacks.{AreStacks, AreOff}
use Rattle.wired_grid.specs.Errors.{of_name, of_limit, of_end}
use Rattle.wired_grid.specs.Wired.{IsWiredRefused, NothingTouches, ArraysStand}
use Rattle.wired_grid.specs.inside.Stages.{IsTouchRefused}
use Rattle.wired_grid.proofs.Cuts.{arrays_stand}
use Rattle.wired_grid.proofs.Kept.{upright}
use Rattle.wired_grid.proofs.Passed.{err_on}
use Rattle.wired_grid.proofs.Refused.{name_refused, limit_refused, end_refused, touch_refused}
use Rattle.wired_grid.proofs.Shapes.{shapes_keep}
use Rattle.wired_grid.proofs.Whole.{HasParts, is_grid, grid_keeps}
use Rattle.wired_grid.proofs.wired.wired_grid.Goals as goal

pub returns-in_err-named-clause-refused : goal.returns-in_err-named-clause-refused
returns-in_err-named-clause-refused c =
    let tech = c.args.tech.now in
    let design = c.args.design.now in
    let wires = c.args.wires.now in
    let error = c.in_err-named.field-0.0 in
    err_on (IsWiredRefused tech design wires) c.from_residual.result (of_name error) c.from_residual.ensures.1
    (name_refused tech design wires error c.in_err-named.ensures.named)

pub returns-in_err-check_limits-clause-refused : goal.returns-in_err-check_limits-clause-refused
returns-in_err-check_limits-clause-refused c =
    let tech = c.args.tech.now in
    let design = c.args.design.now in
    let wires = c.args.wires.now in
    let error = c.in_err-check_limits.field-0.0 in
    err_on (IsWiredRefused tech design wires) c.from_residual-in_err-check_limits.result (of_limit error) c.from_residual-in_err-check_limits.ensures.1
    (limit_refused tech design wires c.in_ok-named.named error c.in_ok-named.ensures.named c.in_err-check_limits.ensures.refused)

pub wire_pieces-requires : goal.wire_pieces-requires
wire_pieces-requires c =
    subst (All DrawnKeeps) (sym c.as_slice.ensures)
    (shapes_keep c.args.tech.now c.args.wires.now c.in_ok-named.named c.in_ok-named.ensures.named c.in_ok-check_limits.ensures.within.widths c.in_ok-named.ensures.keep)

pub returns-in_err-stacks-clause-refused : goal.returns-in_err-stacks-clause-refused
returns-in_err-stacks-clause-refused c =
    let tech = c.args.tech.now in
    let design = c.args.design.now in
    let wires = c.args.wires.now in
    let named = c.in_ok-named.named in
    let pieces = c.in_ok-pieces.pieces.items in
    let pieces_are : AreWirePieces named.shapes pieces = subst (λ (shapes : List Drawn). AreWirePieces shapes pieces) c.as_slice.ensures c.in_ok-pieces.ensures.pieces in
    let error = c.in_err-stacks.field-0.0 in
    let off : AreOff tech named.vias named.spots pieces error = subst (λ (ps : List Piece). AreOff tech named.vias named.spots ps error) c.deref.ensures.value c.in_err-stacks.ensures.stacks in
    err_on (IsWiredRefused tech design wires) c.from_residual-in_err-stacks.result (of_end error) c.from_residual-in_err-stacks.ensures.1
    (end_refused tech design wires named pieces error c.in_ok-named.ensures.named c.in_ok-check_limits.ensures.within pieces_are off)

pub check_touch-requires : goal.check_touch-requires
check_touch-requires c = record {
  pieces = subst (All PieceKeeps) (sym c.deref-2.ensures.value) c.in_ok-pieces.ensures.keep;
  stacks = subst (All StackKeeps) (sym c.deref-3.ensures.value) (upright c.args.tech.now c.in_ok-stacks.stacks.items c.in_ok-stacks.ensures.stand);
}

pub returns-in_err-check_touch-clause-refused : goal.returns-in_err-check_touch-clause-refused
returns-in_err-check_touch-clause-refused c =
    let tech = c.args.tech.now in
    let design = c.args.design.now in
    let wires = c.args.wires.now in
    let named = c.in_ok-named.named in
    let pieces = c.in_ok-pieces.pieces.items in
    let pieces_are : AreWirePieces named.shapes pieces = subst (λ (shapes : List Drawn). AreWirePieces shapes pieces) c.as_slice.ensures c.in_ok-pieces.ensures.pieces in
    let stacks = c.in_ok-stacks.stacks.items in
    let stacks_are : AreStacks tech named.vias named.spots pieces stacks = subst (λ (ps : List Piece). AreStacks tech named.vias named.spots ps stacks) c.deref.ensures.value c.in_ok-stacks.ensures.stacks in
    let error = c.in_err-check_touch.field-0.0 in
    let refused : IsTouchRefused pieces stacks error = subst (λ (ss : List StackAt). IsTouchRefused pieces ss error) c.deref-3.ensures.value
    (subst (λ (ps : List Piece). IsTouchRefused ps c.deref-3.result.now error) c.deref-2.ensures.value c.in_err-check_touch.ensures.refused) in
    err_on (IsWiredRefused tech design wires) c.from_residual-in_err-check_touch.result error c.from_residual-in_err-check_touch.ensures.1
    (touch_refused tech design wires named pieces stacks error c.in_ok-named.ensures.named c.in_ok-check_limits.ensures.within pieces_are stacks_are refused)

pub returns-clause-grid : goal.returns-clause-grid
returns-clause-grid c =
    let tech = c.args.tech.now in
    let design = c.args.design.now in
    let wires = c.args.wires.now in
    let named = c.in_ok-named.named in
    let pieces = c.in_ok-pieces.pieces.items in
    let pieces_are : AreWirePieces named.shapes pieces = subst (λ (shapes : List Drawn). AreWirePieces shapes pieces) c.as_slice.ensures c.in_ok-pieces.ensures.pieces in
    let stacks = c.in_ok-stacks.stacks.items in
    let stacks_are : AreStacks tech named.vias named.spots pieces stacks = subst (λ (ps : List Piece). AreStacks tech named.vias named.spots ps stacks) c.deref.ensures.value c.in_ok-stacks.ensures.stacks in
    let apart : NothingTouches pieces stacks = subst (λ (ss : List StackAt). NothingTouches pieces ss) c.deref-3.ensures.value
    (subst (λ (ps : List Piece). NothingTouches ps c.deref-3.result.now) c.deref-2.ensures.value c.in_ok-check_touch.ensures.apart) in
    let grid = c.in_ok-grid.grid in
    let with_them = c.in_ok-grid.ensures in
    let parts : HasParts design named pieces stacks grid = record {
      units = with_them.units;
      nets = with_them.nets;
      power = with_them.power;
      domains = with_them.domains;
      pieces_are = with_them.pieces;
      stacks_are = with_them.stacks;
    } in
    is_grid tech design wires named pieces stacks grid c.in_ok-named.ensures.named c.in_ok-check_limits.ensures.within pieces_are stacks_are apart parts

pub returns-clause-keep : goal.returns-clause-keep
returns-clause-keep c =
    let tech = c.args.tech.now in
    let design = c.args.design.now in
    let wires = c.args.wires.now in
    let named = c.in_ok-named.named in
    let pieces = c.in_ok-pieces.pieces.items in
    let pieces_are : AreWirePieces named.shapes pieces = subst (λ (shapes : List Drawn). AreWirePieces shapes pieces) c.as_slice.ensures c.in_ok-pieces.ensures.pieces in
    let stacks = c.in_ok-stacks.stacks.items in
    let grid = c.in_ok-grid.grid in
    let with_them = c.in_ok-grid.ensures in
    let parts : HasParts design named pieces stacks grid = record {
      units = with_them.units;
      nets = with_them.nets;
      power = with_them.power;
      domains = with_them.domains;
      pieces_are = with_them.pieces;
      stacks_are = with_them.stacks;
    } in
    let few_pieces : length pieces < 2 ^ 32 = omega (arith, c.len.ensures, c.in_ok-pieces.pieces.ok.0, c.in_ok-count.ensures.pieces) in
    let few_stacks : length stacks < 2 ^ 32 = omega (arith, c.len-2.ensures, c.in_ok-stacks.stacks.ok.0, c.in_ok-count.ensures.stacks) in
    grid_keeps tech design wires named pieces stacks grid c.requires.design c.in_ok-named.ensures.named c.in_ok-named.ensures.keep c.in_ok-check_limits.ensures.within pieces_are
    c.in_ok-pieces.ensures.keep c.in_ok-stacks.ensures.stand few_pieces few_stacks parts

pub returns-clause-arrays : goal.returns-clause-arrays
returns-clause-arrays c =
    let tech = c.args.tech.now in
    let wires = c.args.wires.now in
    let named = c.in_ok-named.named in
    let pieces = c.in_ok-pieces.pieces.items in
    let stacks = c.in_ok-stacks.stacks.items in
    let stacks_are : AreStacks tech named.vias named.spots pieces stacks = subst (λ (ps : List Piece). AreStacks tech named.vias named.spots ps stacks) c.deref.ensures.value c.in_ok-stacks.ensures.stacks in
    subst (All (ArraysStand tech)) (sym c.in_ok-grid.ensures.stacks)
    (arrays_stand tech wires named pieces stacks c.requires.wires c.in_ok-named.ensures.named c.in_ok-named.ensures.keep c.in_ok-check_limits.ensures.within.sizes stacks_are)
