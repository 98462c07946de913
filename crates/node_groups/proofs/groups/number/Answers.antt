use Rattle.std.proofs.Common.{◌≡◌, ◌<◌, ◌+◌, ℕ, List, length, arith, sym, subst, ◌++◌, [], ◌∷◌, get_or}
use Rattle.std.proofs.lemmas.List.{get_or_read}
use Rattle.node_groups.specs.inside.Forest.{AreNumbered}
use Rattle.node_groups.proofs.Numbers.{number_first, number_other}
use Rattle.node_groups.proofs.groups.number.Goals as goal
use Rattle.node_groups.proofs.groups.number.Goals.{then-parent-node+in_ok-push+in_ok-push-2, else-parent-node+in_ok-push-3}

-- The same lists under other names.
as_told : (parents : List ℕ) (count : ℕ) (group firsts group' firsts' : List ℕ) → group' ≡ group → firsts' ≡ firsts
    → AreNumbered parents count group firsts → AreNumbered parents count group' firsts'
as_told parents count group firsts group' firsts' e f h =
    subst (λ (xs : List ℕ). AreNumbered parents count group' xs) (sym f)
    (subst (λ (xs : List ℕ). AreNumbered parents count xs firsts) (sym e) h)

pub loop-node-preserved : goal.loop-node-preserved
loop-node-preserved c =
    let l : c.loop-node.node < length c.args.parents.now = omega arith in
    elim c.if-parent-node.branch [
      | then-parent-node+in_ok-push+in_ok-push-2 w ↦ (
          let own : get_or c.args.parents.now c.loop-node.node 0 ≡ c.loop-node.node = w.if-parent-node.true in
          let count : w.len.result ≡ length c.loop-node.firsts.items = (cc) in
          let e : c.if-parent-node.group.items ≡ c.loop-node.group.items ++ length c.loop-node.firsts.items ∷ [] =
          cc (w.in_ok-push.ensures.items, w.group-is, count) in
          let f : c.if-parent-node.firsts.items ≡ c.loop-node.firsts.items ++ c.loop-node.node ∷ [] =
          cc (w.in_ok-push-2.ensures.items, w.firsts-is, own) in
          as_told c.args.parents.now (c.loop-node.node + 1) _ _ _ _ e f
          (number_first c.args.parents.now c.loop-node.group.items c.loop-node.firsts.items c.loop-node.node
          c.loop-node.invariant l c.requires.back own))
      | else-parent-node+in_ok-push-3 w ↦ (
          let value : w.index-known.result.now ≡ get_or c.loop-node.group.items
          (get_or c.args.parents.now c.loop-node.node 0) 0 = (
          let p = c.loop-node.invariant.one_a_node in
          let b = c.requires.back c.loop-node.node l in
          let there : get_or c.args.parents.now c.loop-node.node 0 < length c.loop-node.group.items =
          omega (arith, p, b, w.if-parent-node.false) in
          get_or_read c.loop-node.group.items (get_or c.args.parents.now c.loop-node.node 0)
          w.index-known.result.now there w.index-known.ensures 0) in
          let e : c.if-parent-node.group.items ≡ c.loop-node.group.items ++ get_or c.loop-node.group.items
          (get_or c.args.parents.now c.loop-node.node 0) 0 ∷ [] =
          cc (w.in_ok-push-3.ensures.items, w.group-is, value) in
          let f : c.if-parent-node.firsts.items ≡ c.loop-node.firsts.items = cc (w.firsts-is) in
          as_told c.args.parents.now (c.loop-node.node + 1) _ _ _ _ e f
          (number_other c.args.parents.now c.loop-node.group.items c.loop-node.firsts.items c.loop-node.node
          c.loop-node.invariant l c.requires.back w.if-parent-node.false))
    ]

pub returns : goal.returns
returns c =
    let whole : c.loop-node.node ≡ length c.args.parents.now = omega arith in
    as_told c.args.parents.now (length c.args.parents.now) _ _ _ _ c.new.ensures c.new-2.ensures
    (subst (λ (n : ℕ). AreNumbered c.args.parents.now n c.loop-node.group.items c.loop-node.firsts.items) whole
    c.loop-node.invariant)
