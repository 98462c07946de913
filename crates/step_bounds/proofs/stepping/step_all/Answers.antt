use Rattle.std.proofs.Common.{◌≡◌, ◌∙◌, ◌+◌, ap, refl, sym, subst, ℕ, suc, List, [], ◌∷◌, ◌++◌, length, take, arith}
use Rattle.std.proofs.lemmas.List.FromFn.{length-map-range_with_len}
use Rattle.grid_net.specs.declared.part.Load.{Load}
use Rattle.grid_net.specs.Network.{load_range}
use Rattle.step_bounds.specs.declared.companion.Companion.{Companion}
use Rattle.step_bounds.specs.Capacitors.{companions}
use Rattle.step_bounds.specs.Changes.{range_after, load_entry, step_loads}
use Rattle.step_bounds.specs.StepCertificate.{IsStepCertificate, KeepStepLimits}
use Rattle.step_bounds.specs.Refusal.{IsStepRefusal}
use Rattle.step_bounds.specs.inside.Loads.{AreLoads}
use Rattle.step_bounds.specs.inside.Step.{AreBounds, IsPassedAt}
use Rattle.step_bounds.proofs.Course.{advanced, loads_are}
use Rattle.step_bounds.proofs.Solutions.{are_loads}
use Rattle.step_bounds.proofs.Stepped.{one_more_step, one_more_kept, refusal_at, rose_after, of_steps}
use Rattle.step_bounds.proofs.stepping.step_all.Goals as goal

pub advance-reached-requires-clause-nodes : goal.advance-reached-requires-clause-nodes
advance-reached-requires-clause-nodes g c = λ k d l.
    let f = load_range c.args.net.now in
    let n = c.args.net.now.nodes in
    let long = ap length c.loop-t.invariant.loads
    ∙ length-map-range_with_len (load_entry (λ i. range_after (take c.loop-t.reached c.args.changes.now) i (f i))) 0 n in
    let here = c.requires.changes.nodes k d l in
    omega (arith, long, here)

pub bounds_over-requires-clause-loads : goal.bounds_over-requires-clause-loads
bounds_over-requires-clause-loads g c =
    let net = c.args.net.now in
    let cs = c.args.changes.now in
    let new = advanced (load_range net) cs net.nodes c.loop-t.loads.items c.advance-reached.new.loads.items c.loop-t.reached c.advance-reached.result
    c.loop-t.invariant.loads c.advance-reached.ensures.loads in
    let is = loads_are net cs c.loop-t.t c.advance-reached.new.loads.items c.deref.result.now c.advance-reached.result new
    c.advance-reached.ensures.end c.deref.ensures.value in
    subst (AreLoads net.nodes) (sym is) (are_loads net c.in_ok-extension.ensures.built cs c.requires.changes (suc c.loop-t.t))

pub returns-in-Err-clause-refused : goal.returns-in-Err-clause-refused
returns-in-Err-clause-refused g c =
    let net = c.args.net.now in
    let cs = c.args.changes.now in
    let xs = c.in_ok-extension.extension.companions.items in
    let new = advanced (load_range net) cs net.nodes c.loop-t.loads.items c.advance-reached.new.loads.items c.loop-t.reached c.advance-reached.result
    c.loop-t.invariant.loads c.advance-reached.ensures.loads in
    let is = loads_are net cs c.loop-t.t c.advance-reached.new.loads.items c.deref.result.now c.advance-reached.result new
    c.advance-reached.ensures.end c.deref.ensures.value in
    let P : List Load → Type 0 = λ ls. IsPassedAt net xs ls c.loop-t.t c.loop-t.lists c.in-Err.passed in
    let Q : List Companion → Type 0 = λ ys. IsStepRefusal net ys cs c.args.steps c.error_at.result in
    subst Q c.in_ok-extension.ensures.companions
    (refusal_at net xs cs c.args.steps c.loop-t.t c.loop-t.lists c.in-Err.passed c.error_at.result (omega (arith, c.loop-t-test.true))
    c.loop-t.invariant.certificate c.loop-t.invariant.limits (subst P is c.in-Err.ensures.passed) c.error_at.ensures)

pub loop-t-preserved : goal.loop-t-preserved
loop-t-preserved g c =
    let V = g.V.Solver in
    let net = c.args.net.now in
    let cs = c.args.changes.now in
    let xs = c.in_ok-extension.extension.companions.items in
    let t = c.loop-t.t in
    let inv = c.loop-t.invariant in
    let high = c.loop-t.lists.high.items in
    let low = c.loop-t.lists.low.items in
    let h = c.in-Ok.bounds.high.items in
    let l = c.in-Ok.bounds.low.items in
    let new = advanced (load_range net) cs net.nodes c.loop-t.loads.items c.advance-reached.new.loads.items c.loop-t.reached c.advance-reached.result
    inv.loads c.advance-reached.ensures.loads in
    let is = loads_are net cs t c.advance-reached.new.loads.items c.deref.result.now c.advance-reached.result new
    c.advance-reached.ensures.end c.deref.ensures.value in
    let P : List Load → Type 0 = λ ls. AreBounds net xs ls t c.loop-t.lists c.in-Ok.bounds in
    let bounds : AreBounds net xs (step_loads net cs (suc t)) t c.loop-t.lists c.in-Ok.bounds = subst P is c.in-Ok.ensures.bounds in
    record {
      certificate = of_steps (λ ys n hs ls. IsStepCertificate net ys cs n hs ls) xs xs ((t + 1) + 1) ((t + 1) + 1) (high ++ h ∷ [])
          c.add-in-Ok.new.self.high.items (low ++ l ∷ []) c.add-in-Ok.new.self.low.items refl refl c.in_ok-add-in-Ok.ensures.high
          c.in_ok-add-in-Ok.ensures.low
          (one_more_step net xs cs t high low inv.certificate h l bounds.high_size bounds.low_size bounds.high_bound bounds.low_bound);
      limits = of_steps (λ ys n hs ls. KeepStepLimits net ys cs n hs ls) xs xs (t + 1) (t + 1) (high ++ h ∷ [])
          c.add-in-Ok.new.self.high.items (low ++ l ∷ []) c.add-in-Ok.new.self.low.items refl refl c.in_ok-add-in-Ok.ensures.high
          c.in_ok-add-in-Ok.ensures.low
          (one_more_kept net xs cs t high low inv.certificate h l inv.limits bounds.high_kept bounds.low_kept);
      loads = new;
      reached = c.advance-reached.ensures.end.within;
      until = λ k d m. c.advance-reached.ensures.end.below k d m;
      counted = omega (arith, inv.counted, c.bounds_over.ensures.counted);
      asked = rose_after (V.proposals c.args.solver.now) (V.proposals c.loop-t.solver) (V.proposals c.bounds_over.new.solver) inv.counted
          (c.in-Ok.ensures.asked refl);
      told = c.bounds_over.ensures.told ∙ inv.told;
      cells = c.bounds_over.ensures.cells ∙ inv.cells;
    }

pub returns-clause-certificate : goal.returns-clause-certificate
returns-clause-certificate g c =
    let all : c.loop-t.t ≡ c.args.steps = omega (arith, c.loop-t-test.false, c.loop-t.auto.t-end) in
    of_steps (λ xs n hs ls. IsStepCertificate c.args.net.now xs c.args.changes.now n hs ls)
    c.in_ok-extension.extension.companions.items (companions c.args.net.now c.args.caps.now c.args.time)
    (c.loop-t.t + 1) (c.args.steps + 1) c.loop-t.lists.high.items c.into_steps.result.high c.loop-t.lists.low.items c.into_steps.result.low
    (sym c.in_ok-extension.ensures.companions) (ap (λ (n : ℕ). n + 1) (sym all)) c.into_steps.ensures.high c.into_steps.ensures.low
    c.loop-t.invariant.certificate

pub returns-clause-keep_limits : goal.returns-clause-keep_limits
returns-clause-keep_limits g c =
    let all : c.loop-t.t ≡ c.args.steps = omega (arith, c.loop-t-test.false, c.loop-t.auto.t-end) in
    of_steps (λ xs n hs ls. KeepStepLimits c.args.net.now xs c.args.changes.now n hs ls)
    c.in_ok-extension.extension.companions.items (companions c.args.net.now c.args.caps.now c.args.time)
    c.loop-t.t c.args.steps c.loop-t.lists.high.items c.into_steps.result.high c.loop-t.lists.low.items c.into_steps.result.low
    (sym c.in_ok-extension.ensures.companions) (sym all) c.into_steps.ensures.high c.into_steps.ensures.low
    c.loop-t.invariant.limits

pub returns-clause-bounds : goal.returns-clause-bounds
returns-clause-bounds g c =
    c.stepped_solutions_lie_between.ensures c.args.net.now c.args.caps.now c.args.changes.now c.args.time c.args.steps
    c.into_steps.result.high c.into_steps.result.low c.in_ok-extension.ensures.built c.requires.changes
    (let all : c.loop-t.t ≡ c.args.steps = omega (arith, c.loop-t-test.false, c.loop-t.auto.t-end) in
    of_steps (λ xs n hs ls. IsStepCertificate c.args.net.now xs c.args.changes.now n hs ls)
    c.in_ok-extension.extension.companions.items (companions c.args.net.now c.args.caps.now c.args.time)
    (c.loop-t.t + 1) (c.args.steps + 1) c.loop-t.lists.high.items c.into_steps.result.high c.loop-t.lists.low.items c.into_steps.result.low
    (sym c.in_ok-extension.ensures.companions) (ap (λ (n : ℕ). n + 1) (sym all)) c.into_steps.ensures.high c.into_steps.ensures.low
    c.loop-t.invariant.certificate)
