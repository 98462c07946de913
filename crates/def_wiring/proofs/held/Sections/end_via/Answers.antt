use Rattle.std.proofs.Common.{◌≡◌, [], ◌∷◌, ◌++◌, ◌∙◌, ap}
use Rattle.def_wiring.proofs.Taking.{took_both, via_ended}
use Rattle.def_wiring.proofs.held.Sections.end_via.Goals as goal

pub returns : goal.returns
returns c =
    let names = c.clear.new.self.vias.names in
    took_both c.add_entry.result (c.add_entry.new.entries.names ≡ names ++ c.bytes.result.now ∷ []) _ _ (λ named entries word.
    via_ended c.args.standing.now word c.args.self.now c.clear.new.self c.in_ok-via.via c.add_entry.new.entries c.clear.ensures c.in_ok-via.ensures
    (named ∙ ap (λ z. names ++ z ∷ []) c.bytes.ensures) entries) c.add_entry.ensures.names c.add_entry.ensures.entries
