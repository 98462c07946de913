use Rattle.std.proofs.Common.{◌≡◌, ◌∙◌, ap, sym, ℕ, length, take, arith}
use Rattle.step_bounds.specs.inside.Loads.{loads_after}
use Rattle.step_bounds.proofs.Course.{written_back}
use Rattle.step_bounds.proofs.loads.advance.Goals as goal

pub returns-clause-loads : goal.returns-clause-loads
returns-clause-loads c = λ f e.
    let items = c.args.loads.now.items in
    let cs = c.args.changes.now in
    let same = ap length c.deref_mut.ensures.value in
    let long : length c.advance_slice.new.loads ≡ length items = omega (arith, c.advance_slice.auto.loads, same) in
    let counted : c.args.loads.now.len ≡ length items = omega (arith, c.args.loads.now.ok) in
    written_back c.args.loads.now.len c.advance_slice.new.loads items counted long
    ∙ c.advance_slice.ensures.loads f
    (c.deref_mut.ensures.value ∙ e ∙ ap (λ (m : ℕ). loads_after f (take c.args.from cs) m) (sym same))
    ∙ ap (λ (m : ℕ). loads_after f (take c.advance_slice.result cs) m) same
