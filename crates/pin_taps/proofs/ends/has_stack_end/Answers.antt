use Rattle.std.proofs.Common.{◌∙◌, SFits, w64, rules}
use Rattle.std.proofs.lemmas.Int.{to_z-of_z}
use Rattle.pin_taps.proofs.Indexed.{ends_found}
use Rattle.pin_taps.proofs.ends.has_stack_end.Goals as goal

pub returns : goal.returns
returns c =
    let piece = c.args.piece.now in
    let centre : SFits w64 piece.centre = search rules in
    let from : SFits w64 piece.from = search rules in
    let to : SFits w64 piece.to = search rules in
    c.is_one_on.ensures
    ∙ ends_found c.args.stacks.now piece c.line_along-line.result c.args.index.now c.deref.result.now c.requires (simp to_z-of_z at c.line_along-line.ensures)
    (c.deref.ensures.value ∙ c.in_ok-found.ensures)
