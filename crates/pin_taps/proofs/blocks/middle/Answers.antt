use Rattle.std.proofs.Common.{◌∙◌, ◌+ℤ◌, SFits, w64, rules}
use Rattle.std.proofs.lemmas.Int.{to_z-of_z}
use Rattle.pin_taps.proofs.Middles.{sum_fits}
use Rattle.pin_taps.proofs.blocks.middle.Goals as goal

pub returns : goal.returns
returns c =
    let piece = c.args.piece.now in
    let from : SFits w64 piece.from = search rules in
    let to : SFits w64 piece.to = search rules in
    let sum : SFits w64 (piece.from +ℤ piece.to) = sum_fits piece.axis piece.centre piece.width piece.from piece.to c.requires.2 in
    let fits : SFits w64 c.div_euclid.result = search rules in
    let computed = simp to_z-of_z at c.div_euclid.ensures in
    to_z-of_z w64 c.div_euclid.result fits ∙ computed
