use Rattle.std.proofs.Common.{◌↔◌, ℤ, subst, sym}
use Rattle.std.proofs.lemmas.Result.{IfOk-weaker}
use Rattle.geom_rect.specs.Run.{IsHeld, IsOpen, AreMaximalRuns}
use Rattle.geom_rect.proofs.Maximal.{AreMaximalRuns-same, IsOpen-same}
use Rattle.geom_rect.proofs.sweep.runs.Goals as goal

pub returns : goal.returns
returns c =
    let covered : (t : ℤ) → IsHeld c.deref.result.now t ↔ IsHeld c.args.covered.now t =
    subst (λ runs. (t : ℤ) → IsHeld runs t ↔ IsHeld c.args.covered.now t) (sym c.deref.ensures.value) c.in_ok-covered.ensures.held in
    let blocked : (t : ℤ) → IsHeld c.deref-2.result.now t ↔ IsHeld c.args.blocked.now t =
    subst (λ runs. (t : ℤ) → IsHeld runs t ↔ IsHeld c.args.blocked.now t) (sym c.deref-2.ensures.value) c.in_ok-blocked.ensures.held in
    IfOk-weaker c.sweep.result (λ answer. AreMaximalRuns (IsOpen c.deref.result.now c.deref-2.result.now) answer.items) (λ answer. AreMaximalRuns (IsOpen c.args.covered.now c.args.blocked.now) answer.items)
    (λ answer are. AreMaximalRuns-same _ _ (IsOpen-same _ _ _ _ covered blocked) answer.items are) c.sweep.ensures
