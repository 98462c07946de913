use Rattle.std.proofs.Common.{◌≡◌, inl, inr, List, ℕ, Ok, Err, None, subst}
use Rattle.std.proofs.lemmas.Result.{IfOk-weaker, MatchResult-weaker}
use Rattle.judging.specs.Stage.{GivesNetwork}
use Rattle.spice_grid.specs.declared.named.Named.{Named}
use Rattle.wave_file.specs.Format.{ReadsWaves}
use Rattle.stepping.specs.Inputs.{TwoTexts, GiveWaves, GivesOneWaves, CanBeStepped}
use Rattle.stepping.specs.inside.Tested.{IsTested}
use Rattle.stepping.proofs.Network.{not_tested, not_stepped}
use Rattle.stepping.proofs.step.step_merged.Goals as goal

pub returns-in-Err-clause-refused : goal.returns-in-Err-clause-refused
returns-in-Err-clause-refused g c netlist netlist_text named gives =
    let one : GivesOneWaves c.args.merged.now.names c.args.waves_text.now = subst (λ names. GivesOneWaves names c.args.waves_text.now) c.as_slice-names.ensures (c.texts_have_one_waves.ensures c.args.waves_text.now) in
    elim c.waves_refused.ensures [
      | inl want ↦ inl (inl want)
      | inr told ↦ inr (inl (record {
        named = named;
        merged = c.args.merged.now;
        network = gives;
        one = one;
        error = c.in-Err.error;
        refused = subst (λ names. ReadsWaves names c.args.waves_text.now (Err c.in-Err.error)) c.as_slice-names.ensures c.in-Err.ensures.reads;
        told = told;
      }))
    ]

pub returns-in-Some-clause-refused : goal.returns-in-Some-clause-refused
returns-in-Some-clause-refused g c netlist netlist_text named gives =
    let texts : TwoTexts = record { netlist = netlist_text; waves = c.args.waves_text.now } in
    let given : GiveWaves texts named c.args.merged.now c.in-Ok.changes = record {
      network = gives;
      reads = subst (λ names. ReadsWaves names c.args.waves_text.now (Ok c.in-Ok.changes)) c.as_slice-names.ensures c.in-Ok.ensures.reads;
      one = subst (λ names. GivesOneWaves names c.args.waves_text.now) c.as_slice-names.ensures (c.texts_have_one_waves.ensures c.args.waves_text.now);
    } in
    not_tested netlist c.args.waves.now texts c.args.times.time c.args.times.steps named c.args.merged.now c.in-Ok.changes given c.in-Some.answer c.in-Some.ensures

pub returns-clause-stepped : goal.returns-clause-stepped
returns-clause-stepped g c =
    let can : CanBeStepped c.args.merged.now c.args.times.steps = subst (λ o. IsTested c.args.merged.now c.args.times.steps o) c.in_default.is c.refused_network.ensures in
    IfOk-weaker c.step_network.result _ _ (λ stepped made netlist_text named gives.
    let texts : TwoTexts = record { netlist = netlist_text; waves = c.args.waves_text.now } in
    let given : GiveWaves texts named c.args.merged.now c.in-Ok.changes = record {
      network = gives;
      reads = subst (λ names. ReadsWaves names c.args.waves_text.now (Ok c.in-Ok.changes)) c.as_slice-names.ensures c.in-Ok.ensures.reads;
      one = subst (λ names. GivesOneWaves names c.args.waves_text.now) c.as_slice-names.ensures (c.texts_have_one_waves.ensures c.args.waves_text.now);
    } in
    (c.in-Ok.changes, made.0, record { gives = given; can = can; steps_network = made.1 }, made.2)) c.step_network.ensures.stepped

pub returns-clause-refused : goal.returns-clause-refused
returns-clause-refused g c =
    MatchResult-weaker c.step_network.result c.step_network.ensures.refused (λ stepped made. made) (λ answer stops netlist netlist_text named gives.
    let texts : TwoTexts = record { netlist = netlist_text; waves = c.args.waves_text.now } in
    let given : GiveWaves texts named c.args.merged.now c.in-Ok.changes = record {
      network = gives;
      reads = subst (λ names. ReadsWaves names c.args.waves_text.now (Ok c.in-Ok.changes)) c.as_slice-names.ensures c.in-Ok.ensures.reads;
      one = subst (λ names. GivesOneWaves names c.args.waves_text.now) c.as_slice-names.ensures (c.texts_have_one_waves.ensures c.args.waves_text.now);
    } in
    not_stepped netlist c.args.waves.now texts c.args.times.time c.args.times.steps named c.args.merged.now c.in-Ok.changes given answer stops)
