use Rattle.std.proofs.Common.{refl, sym}
use Rattle.std.proofs.lemmas.Option.{slice_get_past, slice_get_read}
use Rattle.def_wiring.specs.Act.{via_form}
use Rattle.def_wiring.proofs.act.ask_at.Goals as goal

pub returns-in-Some : goal.returns-in-Some
returns-in-Some c =
    let found = c.in-Some.ensures.lookup in
    sym (slice_get_read via_form 27 c.args.words c.in-Some.ask.now refl found.3.0 found.1)

pub returns-in-None : goal.returns-in-None
returns-in-None c = sym (slice_get_past via_form c.args.words c.in-None.ensures.lookup.3)
