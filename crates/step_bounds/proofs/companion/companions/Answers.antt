use Rattle.std.proofs.Common.{◌∙◌, ap, sym, subst, List, Vec, Global}
use Rattle.std.specs.List.{filter_map}
use Rattle.std.proofs.lemmas.List.{take_all}
use Rattle.step_bounds.specs.declared.companion.Companion.{Companion}
use Rattle.step_bounds.specs.Capacitors.{companion_of}
use Rattle.step_bounds.specs.inside.Extension.{AreCompanions}
use Rattle.step_bounds.proofs.Counted.{counts_next, passes_next, all_fit}
use Rattle.step_bounds.proofs.companion.companions.Goals as goal
use Rattle.step_bounds.proofs.companion.companions.Goals.{in-Some+in_ok-push, in_default}

pub loop-cap-preserved : goal.loop-cap-preserved
loop-cap-preserved c = elim c.match-companion_of.branch [
  | in-Some+in_ok-push w ↦
      ap (λ (v : Vec Companion Global). v.items) w.found-is
      ∙ w.in_ok-push.ensures.items
      ∙ counts_next c.args.net.now c.args.time c.args.caps.now c.loop-cap.cap-index _ c.loop-cap.found.items w.in-Some.companion
      c.loop-cap-test.true c.loop-cap.invariant w.in-Some.ensures
  | in_default w ↦
      ap (λ (v : Vec Companion Global). v.items) w.found-is
      ∙ passes_next c.args.net.now c.args.time c.args.caps.now c.loop-cap.cap-index _ c.loop-cap.found.items
      c.loop-cap-test.true c.loop-cap.invariant (sym w.in_default.ensures)
]

pub returns-clause-fit : goal.returns-clause-fit
returns-clause-fit c =
    let whole = c.loop-cap.invariant
    ∙ ap (filter_map (companion_of c.args.net.now c.args.time)) (take_all c.loop-cap.cap-index c.args.caps.now c.loop-cap-test.false) in
    let P : List Companion → Type 0 = λ xs. AreCompanions c.args.net.now xs in
    subst P (sym whole) (all_fit c.args.net.now c.args.caps.now c.args.time)
