use Rattle.std.proofs.Common.{true, ◌++◌, take, map, get_or, ap, ◌∙◌, pos, ◌+◌}
use Rattle.geom_rect.specs.declared.direction.Axis.TheVariants.{X}
use Rattle.geom_rect.specs.declared.drawn.Shape.TheVariants.{Ring}
use Rattle.grid_pieces.specs.declared.piece.Piece.{Piece}
use Rattle.def_writer.specs.Line.{line_of}
use Rattle.def_writer.specs.Wiring.{piece_words, wiring_line}
use Rattle.def_writer.proofs.TextLemmas.{mapped_more, mapped_count, line_written}
use Rattle.def_writer.proofs.wiring.append_pieces.Goals as goal

abbrev none : Piece
none = record { net = 0; layer = 0; axis = X; centre = pos 0; width = pos 0; from = pos 0; to = pos 0; shape = Ring }

pub loop-place-preserved : goal.loop-place-preserved
loop-place-preserved c =
    let words = piece_words c.args.tech.now in
    let pieces = c.args.pieces.now in
    let i = c.loop-place.place in
    let within = c.loop-place-test.true in
    line_written true (map words (take i pieces)) (map words (take (i + 1) pieces)) (words (get_or pieces i none)) i c.args.out.now.items c.loop-place.out.items c.append_piece.new.out.items
    (mapped_more words pieces i none within) (mapped_count words pieces i within) c.loop-place.invariant
    (c.in_ok-append_piece.ensures ∙ ap (λ b. c.loop-place.out.items ++ line_of (wiring_line b (words (get_or pieces i none)))) c.is_first.ensures)
