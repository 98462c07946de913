use Rattle.std.proofs.Common.{◌≡◌, ◌↔◌, ℤ, List, [], ◌∷◌, IfOk, SFits, w64, subst, sym, rules}
use Rattle.std.proofs.lemmas.Int.{to_z-of_z}
use Rattle.geom_rect.specs.declared.run.Run.{Run}
use Rattle.geom_rect.specs.Run.{IsHeld, IsOpen, AreMaximalRuns}
use Rattle.grid_stacks.specs.inside.Bar.{bar_run}
use Rattle.grid_stacks.specs.inside.Standing.{IsFreeCell, IsOverCell}
use Rattle.grid_stacks.proofs.RunSteps.{open_free, runs_same, ok_weaker}
use Rattle.grid_stacks.proofs.over.free_runs.Goals as goal

pub returns : goal.returns
returns c =
    let flat = c.args.flat in
    let inner = c.args.inner.now in
    let blocked = c.deref.result.now in
    let from : SFits w64 flat.from = search rules in
    let to : SFits w64 flat.to = search rules in
    let over : (t : ℤ) → IsHeld blocked t ↔ IsOverCell flat inner t = subst (λ bs. (t : ℤ) → IsHeld bs t ↔ IsOverCell flat inner t) (sym c.deref.ensures.value) c.in_ok-blocked.ensures in
    let made : IfOk c.runs.result (λ answer. AreMaximalRuns (IsOpen (bar_run flat ∷ []) blocked) answer.items) = simp to_z-of_z at c.runs.ensures in
    ok_weaker (λ answer. AreMaximalRuns (IsOpen (bar_run flat ∷ []) blocked) answer.items) (λ answer. AreMaximalRuns (IsFreeCell flat inner) answer.items) c.runs.result
    (λ answer. runs_same (IsOpen (bar_run flat ∷ []) blocked) (IsFreeCell flat inner) answer.items (open_free flat inner blocked over)) made
