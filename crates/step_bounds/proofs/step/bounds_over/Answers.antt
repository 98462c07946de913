use Rattle.std.proofs.Common.{◌≡◌, ◌∙◌, refl, subst, ℕ, ℤ, arith, List, [], length, Result, Ok, Err, None, IfOk, IsOk}
use Rattle.std.proofs.lemmas.List.{get_or_default}
use Rattle.grid_net.specs.declared.part.Load.{Load}
use Rattle.grid_net.specs.Network.{Network}
use Rattle.step_bounds.specs.declared.companion.Companion.{Companion}
use Rattle.step_bounds.specs.declared.lists.Lists.{Lists}
use Rattle.step_bounds.specs.declared.lists.Bounds.{Bounds}
use Rattle.step_bounds.specs.declared.passed.Passed.{Passed}
use Rattle.step_bounds.specs.StepNetwork.{refusal_over}
use Rattle.step_bounds.specs.StepCertificate.{list_at, IsHighBound, IsLowBound}
use Rattle.step_bounds.specs.inside.Step.{AreBounds}
use Rattle.step_bounds.proofs.step.bounds_over.Goals as goal

-- What is told of the bounds of a step part by part is told of them whole.
are_bounds : (net : Network) (xs : List Companion) (loads : List Load) (t : ℕ) (lists : Lists) (r : Result Bounds Passed)
    → IfOk r (λ b. IsHighBound net xs loads (list_at lists.high.items t) b.high.items)
    → IfOk r (λ b. IsLowBound net xs loads (list_at lists.low.items t) b.low.items)
    → IfOk r (λ b. length b.high.items ≡ net.nodes) → IfOk r (λ b. length b.low.items ≡ net.nodes)
    → (IsOk r → refusal_over net xs loads (list_at lists.high.items t) ≡ None)
    → (IsOk r → refusal_over net xs loads (list_at lists.low.items t) ≡ None)
    → IfOk r (λ b. AreBounds net xs loads t lists b)
are_bounds net xs loads t lists (Ok b) high low high_size low_size high_kept low_kept = record {
  high_size = high_size;
  low_size = low_size;
  high_bound = high;
  low_bound = low;
  high_kept = high_kept refl;
  low_kept = low_kept refl;
}
are_bounds net xs loads t lists (Err e) high low high_size low_size high_kept low_kept = tt

pub returns-clause-bounds : goal.returns-clause-bounds
returns-clause-bounds g c =
    let net = c.args.net.now in
    let xs = c.args.extension.now.companions.items in
    let ls = c.args.loads.now in
    let t = c.args.t in
    let lists = c.args.lists.now in
    let e = c.bounds_of.ensures in
    let high = c.as_slice-over_high.ensures ∙ c.index.ensures
    ∙ get_or_default lists.high.items t c.index.result.now [] (omega (arith, c.requires.lists.high_count)) in
    let low = c.as_slice-over_low.ensures ∙ c.index-2.ensures
    ∙ get_or_default lists.low.items t c.index-2.result.now [] (omega (arith, c.requires.lists.low_count)) in
    let H : List ℤ → Type 0 = λ v. IfOk c.bounds_of.result (λ b. IsHighBound net xs ls v b.high.items) in
    let L : List ℤ → Type 0 = λ v. IfOk c.bounds_of.result (λ b. IsLowBound net xs ls v b.low.items) in
    let K : List ℤ → Type 0 = λ v. IsOk c.bounds_of.result → refusal_over net xs ls v ≡ None in
    are_bounds net xs ls t lists c.bounds_of.result (subst H high e.high_bound) (subst L low e.low_bound) e.high_size e.low_size
    (subst K high e.high_kept) (subst K low e.low_kept)
