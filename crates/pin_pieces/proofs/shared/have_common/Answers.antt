use Rattle.std.proofs.Common.{◌≡◌, SFits, w64, rules}
use Rattle.std.specs.Int.{int_max, int_min}
use Rattle.std.proofs.lemmas.Int.{to_z-of_z}
use Rattle.pin_pieces.proofs.Touching.{common_cell}
use Rattle.pin_pieces.proofs.shared.have_common.Goals as goal

pub returns : goal.returns
returns c =
    let piece = c.args.piece.now in
    let shape = c.args.shape.now in
    let piece_from : SFits w64 piece.from = search rules in
    let piece_to : SFits w64 piece.to = search rules in
    let shape_from : SFits w64 shape.from = search rules in
    let shape_to : SFits w64 shape.to = search rules in
    let low : c.max.result ≡ int_max piece.from shape.from = simp to_z-of_z at c.max.ensures.value in
    let high : c.min.result ≡ int_min piece.to shape.to = simp to_z-of_z at c.min.ensures.value in
    let low_fits : SFits w64 c.max.result = search rules in
    let high_fits : SFits w64 c.min.result = search rules in
    simp to_z-of_z (rw (low, high) (common_cell piece.from piece.to shape.from shape.to))
