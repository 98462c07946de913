use Rattle.std.proofs.Common.{List, All, AllPairs, subst, sym}
use Rattle.grid_pieces.specs.declared.piece.Piece.{Piece}
use Rattle.grid_pieces.specs.declared.piece.StackAt.{StackAt}
use Rattle.grid_pieces.specs.Limits.{PieceKeeps, StackKeeps}
use Rattle.grid_stacks.specs.Crossing.{Stands}
use Rattle.grid_stacks.specs.Stacking.{AreRefused, LieApart}
use Rattle.grid_shapes.specs.Drawing.{IsDrawingOf, IsDrawRefused, AreStacksOf, NothingTouches}
use Rattle.grid_shapes.specs.inside.Facts.{PieceFacts, IsTouchRefused}
use Rattle.grid_shapes.proofs.Grids.{IsGridWith, is_drawing, pieces_stand, stacks_stand, few_stand, stacks_keep, has_pieces, from_shapes, from_touch}
use Rattle.grid_shapes.proofs.Passed.{passed_on}
use Rattle.grid_shapes.proofs.Refusals.{from_plan, from_stacks}
use Rattle.grid_shapes.proofs.drawing.draw.Goals as goal

pub stacks_of-requires : goal.stacks_of-requires
stacks_of-requires c =
    let tech = c.args.tech.now in
    let plan = c.in_ok-plan.plan in
    record {
      tech = c.requires.tech;
      plan = c.in_ok-plan.ensures.keeps;
      keep = subst (λ (ps : List Piece). All PieceKeeps ps) (sym c.deref.ensures.value) c.in_ok-pieces.ensures.keep;
      facts = subst (λ (ps : List Piece). All (PieceFacts tech plan) ps) (sym c.deref.ensures.value) c.in_ok-pieces.ensures.facts;
      apart = subst (λ (ps : List Piece). AllPairs LieApart ps) (sym c.deref.ensures.value) c.in_ok-pieces.ensures.apart;
    }

pub check_touch-requires : goal.check_touch-requires
check_touch-requires c =
    let tech = c.args.tech.now in
    let plan = c.in_ok-plan.plan in
    record {
      pieces = subst (λ (ps : List Piece). All PieceKeeps ps) (sym c.deref-2.ensures.value) c.in_ok-pieces.ensures.keep;
      stacks = subst (λ (ss : List StackAt). All StackKeeps ss) (sym c.deref-3.ensures.value)
          (stacks_keep tech plan c.in_ok-stacks.stacks.items c.in_ok-stacks.ensures.facts);
    }

pub returns-in_err-plan-clause-drawing : goal.returns-in_err-plan-clause-drawing
returns-in_err-plan-clause-drawing c =
    let tech = c.args.tech.now in
    let cells = c.args.cells.now in
    let design = c.args.design.now in
    let script = c.args.script.now in
    let error = c.in_err-plan.field-0.0 in
    passed_on (IsDrawingOf tech cells design script) (IsDrawRefused tech cells design script) c.from_residual.result error c.from_residual.ensures.1
    (from_plan tech cells design script error c.in_err-plan.ensures.plan)

pub returns-in_err-pieces-clause-drawing : goal.returns-in_err-pieces-clause-drawing
returns-in_err-pieces-clause-drawing c =
    let tech = c.args.tech.now in
    let cells = c.args.cells.now in
    let design = c.args.design.now in
    let script = c.args.script.now in
    let error = c.in_err-pieces.field-0.0 in
    passed_on (IsDrawingOf tech cells design script) (IsDrawRefused tech cells design script) c.from_residual-in_err-pieces.result error
    c.from_residual-in_err-pieces.ensures.1
    (from_shapes tech cells design script c.in_ok-plan.plan error c.in_ok-plan.ensures.plan c.in_err-pieces.ensures.refused)

pub returns-in_err-stacks-clause-drawing : goal.returns-in_err-stacks-clause-drawing
returns-in_err-stacks-clause-drawing c =
    let tech = c.args.tech.now in
    let cells = c.args.cells.now in
    let design = c.args.design.now in
    let script = c.args.script.now in
    let plan = c.in_ok-plan.plan in
    let pieces = c.in_ok-pieces.pieces.items in
    let error = c.in_err-stacks.field-0.0 in
    let has = has_pieces tech cells design script plan pieces c.in_ok-plan.ensures.plan c.in_ok-pieces.ensures.pieces in
    let refused = subst (λ (ps : List Piece). AreRefused (Stands tech ps plan.connects plan.blocks) tech plan.units ps error) c.deref.ensures.value c.in_err-stacks.ensures.stacks in
    passed_on (IsDrawingOf tech cells design script) (IsDrawRefused tech cells design script) c.from_residual-in_err-stacks.result error
    c.from_residual-in_err-stacks.ensures.1 (from_stacks tech cells design script plan pieces error has refused)

pub returns-in_err-check_touch-clause-drawing : goal.returns-in_err-check_touch-clause-drawing
returns-in_err-check_touch-clause-drawing c =
    let tech = c.args.tech.now in
    let cells = c.args.cells.now in
    let design = c.args.design.now in
    let script = c.args.script.now in
    let plan = c.in_ok-plan.plan in
    let pieces = c.in_ok-pieces.pieces.items in
    let stacks = c.in_ok-stacks.stacks.items in
    let error = c.in_err-check_touch.field-0.0 in
    let has = has_pieces tech cells design script plan pieces c.in_ok-plan.ensures.plan c.in_ok-pieces.ensures.pieces in
    let are : AreStacksOf tech plan pieces stacks = subst (λ (ps : List Piece). AreStacksOf tech plan ps stacks) c.deref.ensures.value c.in_ok-stacks.ensures.stacks in
    let refused : IsTouchRefused pieces stacks error = subst (λ (ss : List StackAt). IsTouchRefused pieces ss error) c.deref-3.ensures.value
    (subst (λ (ps : List Piece). IsTouchRefused ps c.deref-3.result.now error) c.deref-2.ensures.value c.in_err-check_touch.ensures.refused) in
    passed_on (IsDrawingOf tech cells design script) (IsDrawRefused tech cells design script) c.from_residual-in_err-check_touch.result error
    c.from_residual-in_err-check_touch.ensures.1 (from_touch tech cells design script plan pieces stacks error has are refused)

pub returns-clause-drawing : goal.returns-clause-drawing
returns-clause-drawing c =
    let tech = c.args.tech.now in
    let plan = c.in_ok-plan.plan in
    let pieces = c.in_ok-pieces.pieces.items in
    let stacks = c.in_ok-stacks.stacks.items in
    let grid = c.grid_with.result in
    let with_them = c.grid_with.ensures in
    let is : IsGridWith plan pieces stacks grid = record {
      units = with_them.units;
      nets = with_them.nets;
      power = with_them.power;
      domains = with_them.domains;
      pieces = with_them.pieces;
      stacks = with_them.stacks;
    } in
    let are : AreStacksOf tech plan pieces stacks = subst (λ (ps : List Piece). AreStacksOf tech plan ps stacks) c.deref.ensures.value c.in_ok-stacks.ensures.stacks in
    let apart : NothingTouches pieces stacks = subst (λ (ss : List StackAt). NothingTouches pieces ss) c.deref-3.ensures.value
    (subst (λ (ps : List Piece). NothingTouches ps c.deref-3.result.now) c.deref-2.ensures.value c.in_ok-check_touch.ensures.apart) in
    is_drawing tech c.args.cells.now c.args.design.now c.args.script.now plan pieces stacks grid c.in_ok-plan.ensures.plan c.in_ok-pieces.ensures.pieces are apart is

pub returns-clause-pieces : goal.returns-clause-pieces
returns-clause-pieces c =
    let tech = c.args.tech.now in
    let plan = c.in_ok-plan.plan in
    let pieces = c.in_ok-pieces.pieces.items in
    let stacks = c.in_ok-stacks.stacks.items in
    let grid = c.grid_with.result in
    let with_them = c.grid_with.ensures in
    let is : IsGridWith plan pieces stacks grid = record {
      units = with_them.units;
      nets = with_them.nets;
      power = with_them.power;
      domains = with_them.domains;
      pieces = with_them.pieces;
      stacks = with_them.stacks;
    } in
    let are : AreStacksOf tech plan pieces stacks = subst (λ (ps : List Piece). AreStacksOf tech plan ps stacks) c.deref.ensures.value c.in_ok-stacks.ensures.stacks in
    pieces_stand tech plan pieces stacks grid c.in_ok-pieces.ensures.keep c.in_ok-pieces.ensures.facts are is

pub returns-clause-stacks : goal.returns-clause-stacks
returns-clause-stacks c =
    let tech = c.args.tech.now in
    let plan = c.in_ok-plan.plan in
    let pieces = c.in_ok-pieces.pieces.items in
    let stacks = c.in_ok-stacks.stacks.items in
    let grid = c.grid_with.result in
    let with_them = c.grid_with.ensures in
    let is : IsGridWith plan pieces stacks grid = record {
      units = with_them.units;
      nets = with_them.nets;
      power = with_them.power;
      domains = with_them.domains;
      pieces = with_them.pieces;
      stacks = with_them.stacks;
    } in
    stacks_stand tech plan pieces stacks grid c.in_ok-stacks.ensures.facts is

pub returns-clause-counts : goal.returns-clause-counts
returns-clause-counts c =
    let tech = c.args.tech.now in
    let plan = c.in_ok-plan.plan in
    let pieces = c.in_ok-pieces.pieces.items in
    let stacks = c.in_ok-stacks.stacks.items in
    let grid = c.grid_with.result in
    let with_them = c.grid_with.ensures in
    let is : IsGridWith plan pieces stacks grid = record {
      units = with_them.units;
      nets = with_them.nets;
      power = with_them.power;
      domains = with_them.domains;
      pieces = with_them.pieces;
      stacks = with_them.stacks;
    } in
    let are : AreStacksOf tech plan pieces stacks = subst (λ (ps : List Piece). AreStacksOf tech plan ps stacks) c.deref.ensures.value c.in_ok-stacks.ensures.stacks in
    few_stand tech plan pieces stacks grid are is
