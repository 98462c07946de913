use Rattle.std.proofs.Common.{All, subst, sym, arith}
use Rattle.std.proofs.lemmas.List.{with_items_is}
use Rattle.std.proofs.lemmas.List.Sorted.{length_permutation, All-permutation}
use Rattle.std.specs.List.Sorted.{IsPermutation}
use Rattle.grid_pieces.specs.Limits.{DrawnKeeps}
use Rattle.grid_pieces.specs.Piece.{ArePieces}
use Rattle.grid_pieces.specs.inside.Cutting.{IsGrouped, ArePiecesUpTo}
use Rattle.grid_pieces.proofs.Arranged.{arranged, same_blocks}
use Rattle.grid_pieces.proofs.Kept.{piece_keeps}
use Rattle.grid_pieces.proofs.cutting.pieces.Goals as goal

pub pieces_of_lines-requires-clause-keep : goal.pieces_of_lines-requires-clause-keep
pieces_of_lines-requires-clause-keep c =
    subst (All DrawnKeeps) (sym c.deref.ensures.value) (All-permutation DrawnKeeps c.args.shapes.now c.in_ok-grouped.grouped.items c.in_ok-grouped.ensures.same c.requires.shapes)

pub pieces_of_lines-requires-clause-grouped : goal.pieces_of_lines-requires-clause-grouped
pieces_of_lines-requires-clause-grouped c = subst IsGrouped (sym c.deref.ensures.value) c.in_ok-grouped.ensures.grouped

pub returns : goal.returns
returns c =
    let shapes = c.args.shapes.now in
    let blocks = c.in_ok-blocks.blocks in
    let grouped = c.in_ok-grouped.grouped.items in
    let kept = c.in_ok-pieces.pieces in
    let new = c.sort.new.pieces in
    let moved : IsPermutation kept.items new = subst (λ ps. IsPermutation ps new) c.deref_mut.ensures.value c.sort.ensures.same in
    let long = length_permutation kept.items new moved in
    let upto : ArePiecesUpTo grouped blocks grouped kept.items =
    subst (λ g. ArePiecesUpTo g blocks g kept.items) c.deref.ensures.value c.in_ok-pieces.ensures in
    let are : ArePieces shapes c.args.blocks.now new =
    same_blocks shapes c.args.blocks.now blocks new c.in_ok-blocks.ensures
    (arranged shapes grouped blocks kept.items new c.requires.one_axis c.in_ok-grouped.ensures.same upto moved c.sort.ensures.in_order) in
    record {
      pieces = rw (with_items_is kept new (omega (arith, kept.ok.0))) are;
      keep = rw (with_items_is kept new (omega (arith, kept.ok.0))) (λ k d within. piece_keeps shapes c.args.blocks.now _ c.requires.shapes (are.each k d within));
    }
