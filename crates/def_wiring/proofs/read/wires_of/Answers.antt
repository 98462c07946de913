use Rattle.def_wiring.specs.declared.record.Wires.{Wires}
use Rattle.def_wiring.specs.Record.{heard_of}
use Rattle.def_wiring.proofs.Limits.{wires_keep}
use Rattle.def_wiring.proofs.read.wires_of.Goals as goal

pub returns-clause-keeps : goal.returns-clause-keeps
returns-clause-keeps c = λ units h.
    let wires : Wires = record { vias = c.into_entries.result; nets = c.into_entries-2.result } in
    wires_keep c.values_fit_their_places.ensures.limit c.values_fit_their_places.ensures.sign (heard_of units).said c.args.held.said wires h.said
    c.into_entries.ensures.entries c.into_entries-2.ensures.entries c.into_entries.ensures.distinct c.into_entries-2.ensures.distinct
