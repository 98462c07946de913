use Rattle.std.proofs.Common.{◌≡◌, ◌⊎◌, List, subst}
use Rattle.grid_pieces.specs.declared.error.Counted.TheVariants.{Lines}
use Rattle.grid_pieces.specs.declared.error.DrawError.{DrawError}
use Rattle.grid_pieces.specs.declared.error.DrawError.TheVariants.{TooMany, Want}
use Rattle.grid_pieces.specs.declared.piece.Block.{Block}
use Rattle.grid_pieces.specs.declared.piece.Piece.{Piece}
use Rattle.grid_pieces.specs.Limits.{PieceKeeps}
use Rattle.grid_shapes.specs.inside.Facts.{PieceFacts}
use Rattle.macro_shapes.specs.Shapes.{MacroLinesAreMany}
use Rattle.macro_grid.specs.Drawing.{AreMerged}
use Rattle.macro_grid.specs.inside.Cutting.{AreStraps}
use Rattle.macro_grid.proofs.Merged.{all_merged}
use Rattle.macro_grid.proofs.Passed.{err_on}
use Rattle.macro_grid.proofs.cutting.cut_pieces.Goals as goal
use Rattle.macro_grid.proofs.cutting.cut_pieces.Goals.{In_ok-pieces}

-- All pieces are those of the two lists.
both : (c : In_ok-pieces) → AreMerged c.in_ok-straps.straps.items c.in_ok-pins.pins.items c.in_ok-pieces.pieces.items
both c =
    subst (λ (ps : List Piece). AreMerged ps c.in_ok-pins.pins.items c.in_ok-pieces.pieces.items) c.deref-2.ensures.value
    (subst (λ (ps : List Piece). AreMerged c.deref-2.result.now ps c.in_ok-pieces.pieces.items) c.deref-3.ensures.value c.in_ok-pieces.ensures)

pub returns-in_err-straps-clause-refused : goal.returns-in_err-straps-clause-refused
returns-in_err-straps-clause-refused c =
    err_on (λ (error : DrawError). (error ≡ Want) ⊎ ((error ≡ TooMany Lines) × MacroLinesAreMany c.args.plan.now c.args.placed.now))
    c.from_residual-in_err-straps.result c.in_err-straps.field-0.0 c.from_residual-in_err-straps.ensures.1 c.in_err-straps.ensures.refused

pub returns-clause-cut : goal.returns-clause-cut
returns-clause-cut c =
    let tech = c.args.tech.now in
    let plan = c.args.plan.now in
    let placed = c.args.placed.now in
    let straps = c.in_ok-straps.straps.items in
    let of_straps : AreStraps plan placed c.in_ok-blocks.blocks.items straps =
    subst (λ (bs : List Block). AreStraps plan placed bs straps) c.deref.ensures.value c.in_ok-straps.ensures.straps in
    let are = subst (λ (bs : List Block). AreStraps plan placed bs straps) c.in_ok-blocks.ensures of_straps in
    let whole = both (goal.at.returns-clause-cut c).In_ok-pieces in
    record {
      blocks = c.in_ok-blocks.ensures;
      pieces = record {
        shapes = are.shapes;
        are_shapes = are.are_shapes;
        are_straps = are.are_straps;
        pins = c.in_ok-pins.pins.items;
        are_pins = c.in_ok-pins.ensures.pins;
        merged = whole;
      };
      both = whole.same;
      straps_apart = c.in_ok-straps.ensures.apart;
      pins_apart = c.in_ok-pins.ensures.apart;
    }

pub returns-clause-keep : goal.returns-clause-keep
returns-clause-keep c =
    let whole = both (goal.at.returns-clause-keep c).In_ok-pieces in
    all_merged PieceKeeps c.in_ok-straps.straps.items c.in_ok-pins.pins.items c.in_ok-pieces.pieces.items whole.same c.in_ok-straps.ensures.keep c.in_ok-pins.ensures.keep

pub returns-clause-facts : goal.returns-clause-facts
returns-clause-facts c =
    let whole = both (goal.at.returns-clause-facts c).In_ok-pieces in
    all_merged (PieceFacts c.args.tech.now c.args.plan.now) c.in_ok-straps.straps.items c.in_ok-pins.pins.items c.in_ok-pieces.pieces.items whole.same
    c.in_ok-straps.ensures.facts c.in_ok-pins.ensures.facts
