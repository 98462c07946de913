use Rattle.std.proofs.Common.{◌≡◌, ◌⊎◌, inl, inr, ℕ, ◌+◌, ◌<◌, ◌≤◌, List, subst, ap, ◌∙◌, arith}
use Rattle.std.proofs.lemmas.Bool.{cases_lt}
use Rattle.grid_pieces.specs.declared.piece.StackAt.{StackAt}
use Rattle.grid_network.specs.declared.key.Key.{Key}
use Rattle.grid_network.specs.Drawing.{key_of_stack}
use Rattle.grid_network.specs.inside.Steps.{Adds, IsOnStack}
use Rattle.grid_network.proofs.Growing.{adds_pushed, adds_step, adds_same}
use Rattle.grid_network.proofs.place.add_layers.Goals as goal

-- the points of a stack below a layer
abbrev Below : StackAt → ℕ → Key → Type 0
Below s n key = (k : ℕ) × (s.stack.from ≤ k) × (k < n) × (key ≡ key_of_stack s k)

layers_more : (s : StackAt) (n : ℕ) (old mid new : List Key) → s.stack.from ≤ n → Adds (Below s n) old mid → Adds (λ x. x ≡ key_of_stack s n) mid new → Adds (Below s (n + 1)) old new
layers_more s n old mid new begins first second = adds_step (Below s n) (λ x. x ≡ key_of_stack s n) (Below s (n + 1)) old mid new first second out into
  where
    by : (x : Key) (k : ℕ) → s.stack.from ≤ k → k < n + 1 → x ≡ key_of_stack s k → ((k < n) ⊎ (n ≤ k)) → Below s n x ⊎ (x ≡ key_of_stack s n)
    by x k a b e (inl h) = inl (k, a, h, e)
    by x k a b e (inr h) = let same : k ≡ n = omega arith in inr (e ∙ ap (key_of_stack s) same)

    out : (x : Key) → Below s (n + 1) x → Below s n x ⊎ (x ≡ key_of_stack s n)
    out x (k, a, b, e) = by x k a b e (cases_lt k n)

    into : (x : Key) → (Below s n x ⊎ (x ≡ key_of_stack s n)) → Below s (n + 1) x
    into x (inl (k, a, b, e)) = (k, a, omega arith, e)
    into x (inr e) = (n, begins, omega arith, e)

pub loop-layer-init : goal.loop-layer-init
loop-layer-init c x = (λ h. inl h, λ h. by h)
  where
    by : {P : Type 0} → (P ⊎ Below c.args.stack.now c.args.stack.now.stack.from x) → P
    by (inl h) = h
    by (inr (k, a, b, e)) = absurd (omega arith)

pub loop-layer-preserved : goal.loop-layer-preserved
loop-layer-preserved c =
    let s = c.args.stack.now in
    let n : ℕ = c.loop-layer.layer in
    layers_more s n c.args.keys.now.items c.loop-layer.keys.items c.push.new.self.items (omega arith) c.loop-layer.invariant
    (adds_pushed (key_of_stack s n) c.loop-layer.keys.items c.push.new.self.items c.key_of_stack.result c.in_ok-push.ensures.items c.key_of_stack.ensures)

pub returns : goal.returns
returns c =
    let s = c.args.stack.now in
    let n : ℕ = c.loop-layer.layer in
    let top : n ≡ s.stack.to = omega arith in
    let pushed = adds_pushed (key_of_stack s s.stack.to) c.loop-layer.keys.items c.push-2.new.self.items c.key_of_stack-2.result c.in_ok-push-2.ensures.items c.key_of_stack-2.ensures in
    let below : Adds (Below s s.stack.to) c.args.keys.now.items c.loop-layer.keys.items = subst (λ (m : ℕ). Adds (Below s m) c.args.keys.now.items c.loop-layer.keys.items) top c.loop-layer.invariant in
    let all = layers_more s s.stack.to c.args.keys.now.items c.loop-layer.keys.items c.push-2.new.self.items c.requires below pushed in
    adds_same (Below s (s.stack.to + 1)) (IsOnStack s) c.args.keys.now.items c.push-2.new.self.items all (λ x h. (h.0, h.1, omega (arith, h.2), h.3)) (λ x h. (h.0, h.1, omega (arith, h.2), h.3))
