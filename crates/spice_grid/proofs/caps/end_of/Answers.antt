use Rattle.std.proofs.Common.{[], sym, ◌∙◌, arith}
use Rattle.std.specs.Str.{bytes_eq}
use Rattle.std.proofs.lemmas.List.Quantifiers.{position-Some}
use Rattle.node_names.specs.Folding.{folded}
use Rattle.spice_grid.proofs.caps.end_of.Goals as goal

pub bounds-places-number : goal.bounds-places-number
bounds-places-number c =
    let at = position-Some (bytes_eq (folded c.args.name.now)) c.args.names.now c.in-Some.number [] (sym c.get.ensures ∙ c.in-Some.is) in
    let size = c.requires in
    omega (arith, at.0)
