use Rattle.std.proofs.Common.{◌≡◌, ℕ, arith, sym, ◌∙◌, ap, List, ◌++◌, ◌∷◌, []}
use Rattle.std.specs.List.{range_with_len}
use Rattle.std.proofs.lemmas.List.{map-id}
use Rattle.std.proofs.lemmas.List.FromFn.{map-range_with_len_more}
use Rattle.node_groups.proofs.groups.alone.Goals as goal

pub loop-node-preserved : goal.loop-node-preserved
loop-node-preserved c = c.in_ok-push.ensures.items ∙ ap (λ (xs : List ℕ). xs ++ c.loop-node.node ∷ []) c.loop-node.invariant
    ∙ sym (map-range_with_len_more (λ (x : ℕ). x) 0 c.loop-node.node c.loop-node.node (omega arith))

pub returns : goal.returns
returns c =
    let e : c.loop-node.node ≡ c.args.nodes = omega arith in
    c.loop-node.invariant ∙ map-id (range_with_len 0 c.loop-node.node) ∙ ap (range_with_len 0) e
