use Rattle.std.proofs.Common.{◌∙◌, ap, List, false}
use Rattle.std.proofs.lemmas.List.{take_all}
use Rattle.std.proofs.lemmas.List.FromFn.{fill_by_all}
use Rattle.step_bounds.specs.declared.companion.Companion.{Companion}
use Rattle.step_bounds.specs.StepNetwork.{has_memory}
use Rattle.step_bounds.proofs.extension.marks_of.Goals as goal

pub returns : goal.returns
returns c =
    let inv = c.loop-companion.invariant in
    let all = take_all c.loop-companion.companion-index c.args.companions.now c.loop-companion-test.false in
    fill_by_all (has_memory c.args.companions.now) c.loop-companion.marks.items c.args.nodes false inv.size
    (λ i l. inv.so_far i l ∙ ap (λ (xs : List Companion). has_memory xs i) all)
