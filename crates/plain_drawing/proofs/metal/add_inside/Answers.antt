use Rattle.std.proofs.Common.{◌≡◌, ℕ, ◌+◌, ◌-◌, ◌<◌, [], ◌∷◌, ◌++◌, map, append_assoc, sym, ap, ◌∙◌, arith}
use Rattle.std.specs.List.{range_with_len}
use Rattle.std.proofs.lemmas.List.FromFn.{map-range_with_len_more}
use Rattle.grid_pieces.specs.declared.metal.Metal.{Metal}
use Rattle.grid_pieces.specs.Touch.{stack_metal}
use Rattle.plain_drawing.proofs.metal.add_inside.Goals as goal
use Rattle.plain_drawing.proofs.metal.add_inside.Goals.{then-at-layer+in_ok-push, else-at-layer}

-- one layer more
one_more : (f : ℕ → Metal) (from layer : ℕ) → from < layer
    → map f (range_with_len (from + 1) (layer + 1 - from - 1)) ≡ map f (range_with_len (from + 1) (layer - from - 1)) ++ f layer ∷ []
one_more f from layer above =
    let long : layer + 1 - from - 1 ≡ layer - from - 1 + 1 = omega arith in
    ap (λ n. map f (range_with_len (from + 1) n)) long ∙ map-range_with_len_more f (from + 1) (layer - from - 1) layer (omega arith)

pub loop-layer-preserved : goal.loop-layer-preserved
loop-layer-preserved c =
    let from = c.args.at.now.stack.from in
    let layer = c.loop-layer.layer in
    let before = c.args.all.now.items in
    let f = stack_metal c.args.at.now in
    elim c.if-at-layer.branch [
      | then-at-layer+in_ok-push w ↦
          let above : from < layer = omega arith in
          let pushed = ap (λ xs. xs ++ f layer ∷ []) c.loop-layer.invariant.0 ∙ append_assoc before (map f (range_with_len (from + 1) (layer - from - 1))) (f layer ∷ []) in
          (rw w.all-is (rw w.in_ok-push.ensures.items (pushed ∙ ap (λ xs. before ++ xs) (sym (one_more f from layer above)))), omega arith)
      | else-at-layer w ↦
          let none : layer - from - 1 ≡ layer + 1 - from - 1 = omega arith in
          (rw w.all-is (c.loop-layer.invariant.0 ∙ ap (λ n. before ++ map f (range_with_len (from + 1) n)) none), omega arith)
    ]

pub returns : goal.returns
returns c =
    let from = c.args.at.now.stack.from in
    let to = c.args.at.now.stack.to in
    let upto = c.loop-layer.invariant.1 in
    let last : c.loop-layer.layer - from - 1 ≡ to - from - 1 = omega arith in
    c.loop-layer.invariant.0 ∙ ap (λ n. c.args.all.now.items ++ map (stack_metal c.args.at.now) (range_with_len (from + 1) n)) last
