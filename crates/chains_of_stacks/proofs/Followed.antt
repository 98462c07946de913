-- A maximal chain of the vias of stacks follows one of them from its bottom to its top.
use Rattle.std.proofs.Common.{◌≡◌, ◌⊎◌, inl, inr, ℕ, zero, suc, ◌+◌, ◌-◌, ◌<◌, ◌≤◌, true, false, List, [], ◌∷◌, ◌++◌, All, length, get_or, refl, sym, ap, ◌∙◌, subst, arith}
use Rattle.std.specs.Prelude.{Contains}
use Rattle.std.specs.List.{flat_map}
use Rattle.std.proofs.lemmas.Bool.{false≢true, cases_lt}
use Rattle.std.proofs.lemmas.List.{get_or_default}
use Rattle.std.proofs.lemmas.List.Elements.{All-contains}
use Rattle.wire_chains.specs.declared.via.ViaAt.{ViaAt}
use Rattle.wire_chains.specs.Chain.{LiesOn, IsJoined, IsChain}
use Rattle.chains_of_stacks.specs.Laws.Members.{member_of_some, some_member, same_by_place}
use Rattle.chains_of_stacks.specs.Stacked.{HasVia, GoesUp, StandsOnPiece, EndsOnPiece, IsAlone, AreOfStacks}

next : (k : ℕ) → k + 1 ≡ suc k
next k = omega arith

-- ## following a stack

module _ (vias : List ViaAt) (stacks : List (List ViaAt)) (are : AreOfStacks vias stacks) where
  via_of_stack : (stack : List ViaAt) → Contains stacks stack → (via : ViaAt) → Contains stack via → Contains vias via
  via_of_stack stack in_stacks via in_stack = subst (λ (l : List ViaAt). Contains l via) (sym are.all) (some_member stacks stack via in_stacks in_stack)

  at_place : (xs : List ViaAt) (k : ℕ) (d : ViaAt) → k < length xs → Contains xs (get_or xs k d)
  at_place xs k d within = (k, within, get_or_default xs k (get_or xs k d) d within)

  not_held : (one other : ViaAt) → IsJoined one other → other.held ≡ true → ⊥
  not_held one other joined held = false≢true (sym joined.free ∙ held)

  -- ### a stack is a chain

  pub stack_is_chain : (stack : List ViaAt) → Contains stacks stack → IsChain vias stack
  stack_is_chain stack in_stacks = record {
    some = All-contains HasVia stacks stack are.some in_stacks;
    within = λ k d within. via_of_stack stack in_stacks (get_or stack k d) (at_place stack k d within);
    joined = λ k d within. All-contains GoesUp stacks stack are.up in_stacks k d within;
    first = λ via d in_vias joined. not_held via (get_or stack 0 d) joined (All-contains StandsOnPiece stacks stack are.bottom in_stacks d);
    last = λ via d in_vias joined. not_held (get_or stack (length stack - 1) d) via joined
        (All-contains (EndsOnPiece vias) stacks stack are.top in_stacks via d in_vias joined.above);
  }

  -- ### a chain is a stack

  module _ (chain : List ViaAt) (is : IsChain vias chain) (stack : List ViaAt) (in_stacks : Contains stacks stack) (d : ViaAt) where
    some : 0 < length stack
    some = All-contains HasVia stacks stack are.some in_stacks

    in_vias : (k : ℕ) → k < length chain → Contains vias (get_or chain k d)
    in_vias k within = is.within k d within

    -- where the chain has followed it so far, it does so for one more via, which the stack has
    one_more : (k : ℕ) → k + 1 < length chain → k < length stack → get_or chain k d ≡ get_or stack k d → (k + 1 < length stack) × (get_or chain (k + 1) d ≡ get_or stack (k + 1) d)
    one_more k in_chain in_stack same = by (cases_lt (k + 1) (length stack))
      where
        joined : IsJoined (get_or stack k d) (get_or chain (k + 1) d)
        joined = subst (λ (v : ViaAt). IsJoined v (get_or chain (k + 1) d)) same (is.joined k d in_chain)

        by : (k + 1 < length stack) ⊎ (length stack ≤ k + 1) → (k + 1 < length stack) × (get_or chain (k + 1) d ≡ get_or stack (k + 1) d)
        by (inl more) =
            let up : IsJoined (get_or stack k d) (get_or stack (k + 1) d) = All-contains GoesUp stacks stack are.up in_stacks k d more in (
              more,
              All-contains (IsAlone vias) stacks stack are.alone in_stacks (k + 1) (get_or chain (k + 1) d) d (omega arith) more (in_vias (k + 1) in_chain) (record {
                net = joined.above.net ∙ sym up.above.net;
                x = joined.above.x ∙ sym up.above.x;
                y = joined.above.y ∙ sym up.above.y;
                layer = joined.above.layer ∙ sym up.above.layer;
              }),
            )
        by (inr end) =
            let last : k ≡ length stack - 1 = omega (arith, end, in_stack) in
            let above : LiesOn (get_or stack (length stack - 1) d) ((get_or stack (length stack - 1) d).layer + 1) (get_or chain (k + 1) d) =
            subst (λ n. LiesOn (get_or stack n d) ((get_or stack n d).layer + 1) (get_or chain (k + 1) d)) last joined.above in
            absurd (not_held (get_or stack k d) (get_or chain (k + 1) d) joined
            (All-contains (EndsOnPiece vias) stacks stack are.top in_stacks (get_or chain (k + 1) d) d (in_vias (k + 1) in_chain) above))

    -- it follows the stack as far as it goes
    follows : get_or chain 0 d ≡ get_or stack 0 d → (k : ℕ) → k < length chain → (k < length stack) × (get_or chain k d ≡ get_or stack k d)
    follows begins zero within = (some, begins)
    follows begins (suc k) within = let before = follows begins k (omega (arith, within)) in subst (λ n. (n < length stack) × (get_or chain n d ≡ get_or stack n d)) (next k) (one_more k (omega (arith, within)) before.0 before.1)

    -- it goes as far as the stack
    to_the_top : get_or chain 0 d ≡ get_or stack 0 d → length stack ≤ length chain
    to_the_top begins = by (cases_lt (length chain) (length stack))
      where
        last : ℕ
        last = length chain - 1

        by : (length chain < length stack) ⊎ (length stack ≤ length chain) → length stack ≤ length chain
        by (inr done) = done
        by (inl short) =
            let some_chain = is.some in
            let here = follows begins last (omega (arith, some_chain)) in
            let next : last + 1 < length stack = omega (arith, short, some_chain) in
            let up = All-contains GoesUp stacks stack are.up in_stacks last d next in
            absurd (is.last (get_or stack (last + 1) d) d (via_of_stack stack in_stacks (get_or stack (last + 1) d) (at_place stack (last + 1) d next))
            (subst (λ (v : ViaAt). IsJoined v (get_or stack (last + 1) d)) (sym here.1) up))

    is_stack : get_or chain 0 d ≡ get_or stack 0 d → chain ≡ stack
    is_stack begins = same_by_place chain stack long each
      where
        each : (k : ℕ) (e : ViaAt) → k < length chain → get_or chain k e ≡ get_or stack k e
        each k e within =
            let at = follows begins k within in
            get_or_default chain k e d within ∙ at.1 ∙ get_or_default stack k d e at.0

        long : length chain ≡ length stack
        long =
            let top = to_the_top begins in
            let some_chain = is.some in
            let below = (follows begins (length chain - 1) (omega (arith, some_chain))).0 in
            omega (arith, top, below, some_chain)

  pub chain_is_stack : (chain : List ViaAt) → IsChain vias chain → ViaAt → Contains stacks chain
  chain_is_stack chain is d =
      let in_all = subst (λ (l : List ViaAt). Contains l (get_or chain 0 d)) are.all (is.within 0 d is.some) in
      let (stack, in_stacks, in_stack) = member_of_some stacks (get_or chain 0 d) in_all in
      by stack in_stacks in_stack
    where
      by : (stack : List ViaAt) → Contains stacks stack → Contains stack (get_or chain 0 d) → Contains stacks chain
      by stack in_stacks (zero, within, at) =
          subst (Contains stacks) (sym (is_stack chain is stack in_stacks d (sym (get_or_default stack 0 d (get_or chain 0 d) within ∙ at)))) in_stacks
      by stack in_stacks (suc k, within, at) =
          let there : k + 1 < length stack = omega (arith, within) in
          let here : get_or stack (k + 1) d ≡ get_or chain 0 d =
          get_or_default stack (k + 1) d (get_or chain 0 d) there ∙ ap (λ n. get_or stack n (get_or chain 0 d)) (next k) ∙ at in
          absurd (is.first (get_or stack k d) d (via_of_stack stack in_stacks (get_or stack k d) (at_place stack k d (omega (arith, within))))
          (subst (IsJoined (get_or stack k d)) here (All-contains GoesUp stacks stack are.up in_stacks k d there)))
