use Rattle.std.proofs.Common.{List, refl, sym, subst}
use Rattle.wave_file.specs.declared.record.Change.{Change}
use Rattle.step_bounds.specs.Changes.{AreChanges}
use Rattle.stepping.proofs.Kept.{changes_kept}
use Rattle.stepping.proofs.Network.{network_stepped, stops}
use Rattle.stepping.proofs.step.step_network.Goals as goal

pub step_all-requires-clause-changes : goal.step_all-requires-clause-changes
step_all-requires-clause-changes g c =
    subst (λ (changes : List Change). AreChanges c.args.merged.now.net changes) (sym c.as_slice-changes.ensures)
    (changes_kept c.args.merged.now.net c.args.merged.now.net.nodes c.args.changes.now refl c.requires.changes)

pub returns-in-Ok-texts-clause-stepped : goal.returns-in-Ok-texts-clause-stepped
returns-in-Ok-texts-clause-stepped g c =
    let made = c.in-Ok.ensures in
    let written = c.in-Ok-texts.ensures in
    network_stepped c.args.times.time c.args.times.steps c.args.merged.now c.args.changes.now _ _ c.as_slice-caps.ensures c.as_slice-changes.ensures
    c.in-Ok.lists c.in-Ok-texts.stepped made.certificate made.bounds made.keep_limits written.certificate written.report written.nodes written.steps

pub returns-clause-refused : goal.returns-clause-refused
returns-clause-refused g c =
    stops c.args.times.time c.args.times.steps c.args.merged.now c.args.changes.now _ _ c.as_slice-caps.ensures c.as_slice-changes.ensures
    c.requires.can c.in-Err.error c.in-Err.ensures.refused c.limit_passed.result c.limit_passed.ensures
