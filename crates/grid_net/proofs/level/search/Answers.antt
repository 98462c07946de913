use Rattle.std.proofs.Common.{◌≡◌, ◌⊎◌, inl, inr, ℕ, ◌<◌, ◌+◌, sym, subst, arith, add-one}
use Rattle.grid_net.specs.Level.{IsWithin}
use Rattle.grid_net.specs.inside.Level.{IsFront, IsGrown}
use Rattle.grid_net.proofs.Levels.{front_before, front_goes_on, near_head, levels_told}
use Rattle.grid_net.proofs.level.search.Goals as goal
use Rattle.grid_net.proofs.level.search.Goals.{then-head-end, else-head-end}

pub visit-tail-requires-clause-near : goal.visit-tail-requires-clause-near
visit-tail-requires-clause-near c =
    let net = c.args.circuit.now in
    let l = c.loop-head in
    let inv = l.invariant in
    let now = c.if-head-end in
    let turn : ((l.head ≡ l.end) × (now.level ≡ l.level + 1) × (now.end ≡ l.tail)) ⊎ ((l.head < l.end) × (now.level ≡ l.level) × (now.end ≡ l.end)) =
    elim c.if-head-end.branch [
      | then-head-end w ↦ inl (omega (arith, w.if-head-end), w.level-is, w.end-is)
      | else-head-end w ↦ inr (omega (arith, w.if-head-end, inv.front.head_order), w.level-is, w.end-is)
    ] in
    let before = front_before net l.levels l.queue l.head l.end l.tail l.level now.end now.level inv.front (omega (arith, c.loop-head-test.true)) inv.low turn in
    λ i j. subst (λ (m : ℕ). IsWithin net m i) (sym (add-one now.level)) (near_head net l.levels l.queue l.head now.end l.tail now.level before.0 before.1 inv.search i j)

pub loop-head-preserved : goal.loop-head-preserved
loop-head-preserved c =
    let net = c.args.circuit.now in
    let l = c.loop-head in
    let inv = l.invariant in
    let now = c.if-head-end in
    let turn : ((l.head ≡ l.end) × (now.level ≡ l.level + 1) × (now.end ≡ l.tail)) ⊎ ((l.head < l.end) × (now.level ≡ l.level) × (now.end ≡ l.end)) =
    elim c.if-head-end.branch [
      | then-head-end w ↦ inl (omega (arith, w.if-head-end), w.level-is, w.end-is)
      | else-head-end w ↦ inr (omega (arith, w.if-head-end, inv.front.head_order), w.level-is, w.end-is)
    ] in
    let before = front_before net l.levels l.queue l.head l.end l.tail l.level now.end now.level inv.front (omega (arith, c.loop-head-test.true)) inv.low turn in
    let new = c.visit-tail.new.levels in
    let qnew = c.visit-tail.new.queue in
    let grown = subst (λ (m : ℕ). IsGrown m l.levels new l.queue qnew l.tail c.visit-tail.result) (add-one now.level) c.visit-tail.ensures.grown in
    let front = front_goes_on net l.levels new l.queue qnew l.head now.end l.tail c.visit-tail.result now.level before.0 before.1 inv.search grown c.visit-tail.ensures.met in
    record {
      search = c.visit-tail.ensures.search;
      pads = λ i v h. grown.kept i 0 (inv.pads i v h);
      front = subst (λ (h : ℕ). IsFront net new qnew h now.end c.visit-tail.result now.level) (sym (add-one l.head)) front;
      low = before.2;
    }

pub returns-clause-levels : goal.returns-clause-levels
returns-clause-levels c =
    let l = c.loop-head in
    levels_told c.args.circuit.now l.levels l.queue l.head l.end l.tail l.level l.invariant.search l.invariant.pads l.invariant.front (omega (arith, c.loop-head-test.false))
