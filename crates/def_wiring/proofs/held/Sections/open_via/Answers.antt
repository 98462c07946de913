use Rattle.std.proofs.Common.{refl}
use Rattle.def_wiring.proofs.Taking.{took, via_named}
use Rattle.def_wiring.proofs.held.Sections.open_via.Goals as goal

pub returns : goal.returns
returns c = took c.add_name.result _ _ (λ is said h.
    via_named c.args.name.now.text.now c.add_name.new.names c.clear.new.self is _ (c.clear.ensures said h)) c.add_name.ensures
