use Rattle.std.proofs.lemmas.List.{get_or_default}
use Rattle.lef_tech.proofs.known.reference_at.Goals as goal

pub returns : goal.returns
returns c = λ other.
    let e = c.index-known-place.is in
    let f = get_or_default c.args.known.now c.args.place c.index-known-place.result other c.requires in
    cc
