use Rattle.std.proofs.Common.{◌≡◌, ℕ, List, length, arith, sym, ap, subst, ◌∙◌}
use Rattle.std.proofs.lemmas.List.FromFn.{length-range_with_len}
use Rattle.std.proofs.lemmas.Result.{IfOk-weaker}
use Rattle.node_groups.specs.inside.Forest.{LeadsBack, IsByShorts, AreNumbered}
use Rattle.node_groups.proofs.Whole.{alone_back, alone_by_shorts, groups_of, written_back}
use Rattle.node_groups.proofs.groups.group_nodes.Goals as goal

pub join_all-requires-clause-nodes : goal.join_all-requires-clause-nodes
join_all-requires-clause-nodes c =
    let e : length c.deref_mut.result.now ≡ c.args.nodes =
    ap length c.deref_mut.ensures.value ∙ ap length c.in_ok-parents.ensures ∙ length-range_with_len 0 c.args.nodes in
    λ k d l. (omega (arith, e, (c.requires k d l).0), omega (arith, e, (c.requires k d l).1))

pub join_all-requires-clause-back : goal.join_all-requires-clause-back
join_all-requires-clause-back c =
    subst LeadsBack (sym (c.deref_mut.ensures.value ∙ c.in_ok-parents.ensures)) (alone_back c.args.nodes)

pub join_all-requires-clause-by_shorts : goal.join_all-requires-clause-by_shorts
join_all-requires-clause-by_shorts c =
    subst (IsByShorts c.args.shorts.now) (sym (c.deref_mut.ensures.value ∙ c.in_ok-parents.ensures))
    (alone_by_shorts c.args.nodes c.args.shorts.now)

pub number-requires-clause-few : goal.number-requires-clause-few
number-requires-clause-few c =
    let e : c.in_ok-parents.parents.len ≡ c.args.nodes =
    sym c.deref_mut.ensures.len ∙ ap length c.deref_mut.ensures.value ∙ ap length c.in_ok-parents.ensures
    ∙ length-range_with_len 0 c.args.nodes in
    omega (arith, c.deref.ensures.len, e, c.ranges.nodes.fits)

pub number-requires-clause-back : goal.number-requires-clause-back
number-requires-clause-back c =
    let same : c.deref.result.now ≡ c.join_all.new.parents = c.deref.ensures.value ∙ written_back c.in_ok-parents.parents.len c.join_all.new.parents c.in_ok-parents.parents.items
    (c.join_all.auto.parents ∙ c.deref_mut.ensures.len) in
    subst LeadsBack (sym same) c.join_all.ensures.back

pub returns : goal.returns
returns c =
    let same : c.deref.result.now ≡ c.join_all.new.parents = c.deref.ensures.value ∙ written_back c.in_ok-parents.parents.len c.join_all.new.parents c.in_ok-parents.parents.items
    (c.join_all.auto.parents ∙ c.deref_mut.ensures.len) in
    let size : length c.join_all.new.parents ≡ c.args.nodes = c.join_all.auto.parents ∙ ap length c.deref_mut.ensures.value
    ∙ ap length c.in_ok-parents.ensures ∙ length-range_with_len 0 c.args.nodes in
    IfOk-weaker c.number.result _ _ (λ groups h. groups_of c.args.nodes c.args.shorts.now c.join_all.new.parents groups.group
    groups.firsts size c.join_all.ensures.back c.join_all.ensures.by_shorts c.join_all.ensures.joins
    (subst (λ (xs : List ℕ). AreNumbered xs (length xs) groups.group groups.firsts) same h)) c.number.ensures
