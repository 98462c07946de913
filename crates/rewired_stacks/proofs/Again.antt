-- The stacks of vias that are drawn again are the stacks.
use Rattle.std.proofs.Common.{◌≡◌, ◌↔◌, ◌⊎◌, inl, inr, ℕ, zero, suc, ◌+◌, ◌-◌, ◌*◌, ◌<◌, ◌≤◌, ℤ, pos, ◌≤ℤ◌, Bool, true, false, List, [], ◌∷◌, All, AllPairs, map, length, get_or, Some, refl, sym, ap, ◌∙◌, subst, arith}
use Rattle.std.specs.Prelude.{Contains, flat_map, slice_get}
use Rattle.std.specs.Cmp.{IsTotalOrder}
use Rattle.std.specs.List.{AllZip}
use Rattle.std.specs.Ordering.{nat_cmp, int_cmp, ordering_then, ordering_reverse, is_lt}
use Rattle.std.specs.declared.cmp.Ordering.{Ordering}
use Rattle.std.specs.declared.cmp.Ordering.TheVariants.{Less, Equal, Greater}
use Rattle.std.proofs.lemmas.Bool.{false≢true, cases_lt}
use Rattle.std.proofs.lemmas.Cmp.{nat_cmp_total, int_cmp_total, on_total, then_total, tied_itself}
use Rattle.std.proofs.lemmas.Int.{ints}
use Rattle.std.proofs.lemmas.List.{get_or_default, get_or-map, length-map}
use Rattle.std.proofs.lemmas.List.Elements.{All-contains}
use Rattle.std.proofs.lemmas.Option.{same_Some, slice_get-get_or}
use Rattle.geom_rect.specs.declared.rect.Rect.{Rect}
use Rattle.grid_pieces.specs.declared.piece.Piece.{Piece}
use Rattle.grid_pieces.specs.declared.piece.StackAt.{StackAt}
use Rattle.grid_pieces.specs.Piece.{Among}
use Rattle.grid_pieces.specs.Laws.Orders.{then_equal, nat_equal, int_equal}
use Rattle.lef_tech.specs.declared.tech.Tech.{Tech}
use Rattle.via_arrays.specs.declared.parts.CutArray.{CutArray}
use Rattle.via_arrays.specs.Pairs.{HasResistance}
use Rattle.via_arrays.specs.Resistances.{IsResistance, per_cut_of}
use Rattle.wire_chains.specs.declared.via.ViaAt.{ViaAt}
use Rattle.wire_chains.specs.Chain.{IsChain, ComesBefore, via_order}
use Rattle.wire_names.specs.declared.record.NamedVia.{NamedVia}
use Rattle.wire_names.specs.declared.record.Spot.{Spot}
use Rattle.wire_stacks.specs.Crossing.{HoldsVias, IsCrossing}
use Rattle.wire_stacks.specs.Stacks.{Stacked, IsStackOf, place_order, stack_order, GoesBefore, AreStacked, AreStacks}
use Rattle.wire_stacks.specs.Vias.{via_at, array_of}
use Rattle.chains_of_stacks.specs.Stacked.{AreOfStacks}
use Rattle.alike_grids.specs.Alike.{Joint, joint_of}
use Rattle.rewired_stacks.specs.Rewired.{IsWhole, StandApart, AreRewired}
use Rattle.rewired_stacks.proofs.Apart.{as_many_stacks, no_array, no_stack, NoPieceWithin, NoStackWithin, in_stacks, level, levels, long, of_stacks}
use Rattle.rewired_stacks.proofs.Levels.{IsLevelVia, AreLevelVias, as_many, placed_by_stack}
use Rattle.chains_of_stacks.specs.Laws.Members.{same_by_place}
use Rattle.grid_network.specs.Laws.Unique.{same_lists}

-- ## orders

comes_first : (o : Ordering) → is_lt o ≡ true → is_lt (ordering_reverse o) ≡ true → ⊥
comes_first Less is back = false≢true back
comes_first Equal is back = false≢true is
comes_first Greater is back = false≢true is

not_itself : (o : Ordering) → o ≡ Equal → is_lt o ≡ true → ⊥
not_itself Less e is = absurd (cc)
not_itself Equal e is = false≢true is
not_itself Greater e is = false≢true is

-- the first of two orders tells, or it is tied and the other one tells
first_tells : (a b : Ordering) → is_lt (ordering_then a b) ≡ true → (is_lt a ≡ true) ⊎ ((a ≡ Equal) × (is_lt b ≡ true))
first_tells Less b is = inl refl
first_tells Equal b is = inr (refl, is)
first_tells Greater b is = absurd (false≢true is)

-- joints by net, x, y, lowest and highest layer
abbrev joint_order : Joint → Joint → Ordering
joint_order a b = ordering_then
    (ordering_then (ordering_then (ordering_then (nat_cmp a.net b.net) (int_cmp a.x b.x)) (int_cmp a.y b.y))
    (nat_cmp a.stack.from b.stack.from)) (nat_cmp a.stack.to b.stack.to)

joint_total : IsTotalOrder joint_order
joint_total =
    then_total
    (then_total (then_total (then_total (on_total (λ (a : Joint). a.net) nat_cmp_total) (on_total (λ (a : Joint). a.x) int_cmp_total)) (on_total (λ (a : Joint). a.y) int_cmp_total))
    (on_total (λ (a : Joint). a.stack.from) nat_cmp_total))
    (on_total (λ (a : Joint). a.stack.to) nat_cmp_total)

joint_tied : (a b : Joint) → joint_order a b ≡ Equal → (a.x ≡ b.x) × (a.y ≡ b.y)
joint_tied a b e =
    let net = nat_cmp a.net b.net in
    let x = int_cmp a.x b.x in
    let y = int_cmp a.y b.y in
    let from = nat_cmp a.stack.from b.stack.from in
    let by_from = then_equal (ordering_then (ordering_then (ordering_then net x) y) from) (nat_cmp a.stack.to b.stack.to) e in
    let by_y = then_equal (ordering_then (ordering_then net x) y) from by_from.0 in
    let by_x = then_equal (ordering_then net x) y by_y.0 in
    (int_equal a.x b.x (then_equal net x by_x.0).1, int_equal a.y b.y by_x.1)

abbrev JointBefore : Joint → Joint → Type 0
JointBefore a b = is_lt (joint_order a b) ≡ true

joint_one_way : (a b : Joint) → JointBefore a b → JointBefore b a → ⊥
joint_one_way a b one other = comes_first (joint_order a b) one (subst (λ (o : Ordering). is_lt o ≡ true) (joint_total.antisymm b a) other)

via_total : IsTotalOrder via_order
via_total =
    then_total
    (then_total (then_total (then_total (on_total (λ (a : ViaAt). a.net) nat_cmp_total) (on_total (λ (a : ViaAt). a.x) int_cmp_total)) (on_total (λ (a : ViaAt). a.y) int_cmp_total))
    (on_total (λ (a : ViaAt). a.layer) nat_cmp_total))
    (on_total (λ (a : ViaAt). a.number) nat_cmp_total)

rect_tied : (a b : Rect) → a ≡ b → (int_cmp a.x1 b.x1 ≡ Equal) × (int_cmp a.y1 b.y1 ≡ Equal) × (int_cmp a.x2 b.x2 ≡ Equal) × (int_cmp a.y2 b.y2 ≡ Equal)
rect_tied a b e = (tied (ap (λ (r : Rect). r.x1) e), tied (ap (λ (r : Rect). r.y1) e), tied (ap (λ (r : Rect). r.x2) e), tied (ap (λ (r : Rect). r.y2) e))
  where
    tied : {x y : ℤ} → x ≡ y → int_cmp x y ≡ Equal
    tied {x} {y} same = subst (λ z. int_cmp x z ≡ Equal) same (tied_itself int_cmp_total x)

no_via : ViaAt
no_via = record { net = 0; x = pos 0; y = pos 0; layer = 0; held = false; via = 0; number = 0 }

no_stacked : Stacked
no_stacked = record { chain = []; at = no_stack }

-- pairs of images
pairs_map : {X Y : Type 0} (f : X → Y) (R : Y → Y → Type 0) (xs : List X) → AllPairs (λ a b. R (f a) (f b)) xs → X → AllPairs R (map f xs)
pairs_map f R xs up d i j e below within =
    let many = length-map xs f in
    subst (λ y. R y (get_or (map f xs) j e)) (sym (get_or-map f xs i d e (omega (arith, below, within, many))))
    (subst (R (f (get_or xs i d))) (sym (get_or-map f xs j d e (omega (arith, within, many)))) (up i j d below (omega (arith, within, many))))

-- ## one resistance and one crossing

abbrev pub OneResistance : Type 0
OneResistance = (n d a b : ℕ) → IsResistance n d a → IsResistance n d b → a ≡ b

one_ohms : OneResistance → (tech : Tech) (place : ℕ) (array : CutArray) (a b : ℕ) → HasResistance tech place array a → HasResistance tech place array b → a ≡ b
one_ohms one tech place array a b p q =
    let rule = same_Some p.rule q.rule (sym p.is_rule ∙ q.is_rule) in
    let per_cut = same_Some p.per_cut q.per_cut (sym p.stated ∙ ap (λ r. per_cut_of tech r) rule ∙ q.stated) in
    one q.per_cut (array.columns * array.rows) a b (subst (λ n. IsResistance n (array.columns * array.rows) a) per_cut p.shared) q.shared

one_crossing : (vias : List NamedVia) (chain : List ViaAt) (x y : ℤ) (a b : Rect) → IsCrossing vias chain x y a → IsCrossing vias chain x y b → a ≡ b
one_crossing vias chain x y a b p q =
    let there = p.smallest b q.holds in
    let back = q.smallest a p.holds in
    let x1 : a.x1 ≡ b.x1 = between b.x1 a.x1 there.x1 back.x1 in
    let y1 : a.y1 ≡ b.y1 = between b.y1 a.y1 there.y1 back.y1 in
    let x2 : a.x2 ≡ b.x2 = between b.x2 a.x2 back.x2 there.x2 in
    let y2 : a.y2 ≡ b.y2 = between b.y2 a.y2 back.y2 there.y2 in
    λ i. record { x1 = x1 i; y1 = y1 i; x2 = x2 i; y2 = y2 i }
  where
    between : (u v : ℤ) → u ≤ℤ v → v ≤ℤ u → v ≡ u
    between u v p q = omega (arith, ints, p, q)

module _ (no_piece : NoPieceWithin) (no_other : NoStackWithin) (one_resistance : OneResistance)
    (are_chains : (placed : List ViaAt) (chains : List (List ViaAt)) (chain : List ViaAt) → AreOfStacks placed chains → IsChain placed chain ↔ Contains chains chain)
    (tech : Tech) (pieces : List Piece) (stacks : List StackAt) (apart : StandApart tech pieces stacks) (vias : List NamedVia) (placed : List ViaAt)
    (chains : List (List ViaAt)) (all : placed ≡ flat_map (λ (chain : List ViaAt). chain) chains) (zip : AllZip (AreLevelVias vias pieces) stacks chains) where
  abbrev of : ℕ → StackAt
  of i = get_or stacks i no_stack

  -- the stack of a chain at its place
  same_joint : (s : Stacked) → IsStackOf tech vias s.chain s.at → (i : ℕ) → i < length chains → get_or chains i s.chain ≡ s.chain → joint_of s.at ≡ joint_of (of i)
  same_joint s is i within at_i = λ j. record {
    net = net j;
    x = x j;
    y = y j;
    stack = record { from = from j; to = to j; arrays = arrays j; ohms = ohms j };
  }
    where
      chain : List ViaAt
      chain = s.chain

      many : length chain ≡ (of i).stack.to - (of i).stack.from
      many = long no_piece no_other tech pieces stacks apart vias placed chains all zip i chain within at_i

      arrays_many : length (of i).stack.arrays ≡ (of i).stack.to - (of i).stack.from
      arrays_many = (apart.whole i no_stack (in_stacks no_piece no_other tech pieces stacks apart vias placed chains all zip i within)).arrays

      rising : (of i).stack.from < (of i).stack.to
      rising = (apart.whole i no_stack (in_stacks no_piece no_other tech pieces stacks apart vias placed chains all zip i within)).rising

      d : ViaAt
      d = no_via

      here : (k : ℕ) → k < length chain → IsLevelVia vias pieces (of i) ((of i).stack.from + k, get_or (of i).stack.arrays k no_array) (get_or chain k d)
      here k in_chain = level no_piece no_other tech pieces stacks apart vias placed chains all zip i chain within at_i k d in_chain

      bottom : IsLevelVia vias pieces (of i) ((of i).stack.from + 0, get_or (of i).stack.arrays 0 no_array) (get_or chain 0 d)
      bottom = here 0 (omega (arith, many, rising))

      net : s.at.net ≡ (of i).net
      net = sym (is.begins.net d) ∙ bottom.net

      x : s.at.x ≡ (of i).x
      x = sym (is.begins.x d) ∙ bottom.x

      y : s.at.y ≡ (of i).y
      y = sym (is.begins.y d) ∙ bottom.y

      from : s.at.stack.from ≡ (of i).stack.from
      from = let layer = is.begins.layer d in let at = bottom.layer in omega (arith, layer, at)

      to : s.at.stack.to ≡ (of i).stack.to
      to = let ends = is.ends in let f = from in omega (arith, ends, f, many, rising)

      as_via : ViaAt → CutArray
      as_via via = array_of (via_at vias via.via)

      arrays : s.at.stack.arrays ≡ (of i).stack.arrays
      arrays = is.arrays ∙ same_by_place (map as_via chain) (of i).stack.arrays (length-map chain as_via ∙ many ∙ sym arrays_many) (λ k a in_map.
          let in_chain : k < length chain = let l = length-map chain as_via in omega (arith, in_map, l) in
          get_or-map as_via chain k d a in_chain ∙ (here k in_chain).array ∙ get_or_default (of i).stack.arrays k no_array a (omega (arith, in_chain, many, arrays_many)))

      ohms : s.at.stack.ohms ≡ (of i).stack.ohms
      ohms = same_by_place s.at.stack.ohms (of i).stack.ohms (is.as_many ∙ many ∙ sym whole.ohms) (λ k r in_ohms.
          let in_chain : k < length chain = let l = is.as_many in omega (arith, in_ohms, l) in
          let in_arrays : k < length (of i).stack.arrays = omega (arith, in_chain, many, arrays_many) in
          let via = get_or chain k d in
          let one = is.ohms k via (get_or s.at.stack.ohms k r) (slice_get-get_or chain k d in_chain) (slice_get-get_or s.at.stack.ohms k r in_ohms) in
          let other = whole.resist k no_array r in_arrays in
          one_ohms one_resistance tech (get_or (of i).stack.arrays k no_array).rule (get_or (of i).stack.arrays k no_array) (get_or s.at.stack.ohms k r) (get_or (of i).stack.ohms k r)
          (subst (λ (a : CutArray). HasResistance tech a.rule a (get_or s.at.stack.ohms k r)) (here k in_chain).array one) other)
        where
          whole : IsWhole tech (of i)
          whole = apart.whole i no_stack (in_stacks no_piece no_other tech pieces stacks apart vias placed chains all zip i within)

  module _ (stacked : List Stacked) (each : All (λ (s : Stacked). IsChain placed s.chain) stacked) (are : All (λ (s : Stacked). IsStackOf tech vias s.chain s.at) stacked)
      (every : (chain : List ViaAt) → IsChain placed chain → Among (λ (s : Stacked). s.chain ≡ chain) stacked) (order : AllPairs GoesBefore stacked) where
    of_all : AreOfStacks placed chains
    of_all = of_stacks no_piece no_other tech pieces stacks apart vias placed chains all zip

    -- its place among the chains
    place : (s : Stacked) → Contains stacked s → Contains chains s.chain
    place s in_stacked = (are_chains placed chains s.chain of_all).0 (All-contains (λ (s : Stacked). IsChain placed s.chain) stacked s each in_stacked)

    is_stack : (s : Stacked) → Contains stacked s → IsStackOf tech vias s.chain s.at
    is_stack s in_stacked = All-contains (λ (s : Stacked). IsStackOf tech vias s.chain s.at) stacked s are in_stacked

    joint_in : (s : Stacked) → Contains stacked s → Contains (map joint_of stacks) (joint_of s.at)
    joint_in s in_stacked =
        let (i, within, at) = place s in_stacked in
        let there = in_stacks no_piece no_other tech pieces stacks apart vias placed chains all zip i within in
        let many = length-map stacks joint_of in
        (i, omega (arith, there, many), get_or-map joint_of stacks i no_stack (joint_of s.at) there ∙ sym (same_joint s (is_stack s in_stacked) i within at))

    -- of two stacks of one place one is the other, so that they have one chain
    one_chain : (s t : Stacked) → Contains stacked s → Contains stacked t → joint_order (joint_of s.at) (joint_of t.at) ≡ Equal → s.chain ≡ t.chain
    one_chain s t in_s in_t tied = by (place s in_s) (place t in_t)
      where
        by : Contains chains s.chain → Contains chains t.chain → s.chain ≡ t.chain
        by (i, in_i, at_i) (j, in_j, at_j) = sym at_i ∙ ap (λ n. get_or chains n s.chain) same ∙ get_or_default chains j s.chain t.chain in_j ∙ at_j
          where
            alike : joint_order (joint_of s.at) (joint_of t.at) ≡ joint_order (joint_of (of i)) (joint_of (of j))
            alike k = joint_order (same_joint s (is_stack s in_s) i in_i at_i k) (same_joint t (is_stack t in_t) j in_j at_j k)

            tied_too : joint_order (joint_of (of i)) (joint_of (of j)) ≡ Equal
            tied_too = sym alike ∙ tied

            back : joint_order (joint_of (of j)) (joint_of (of i)) ≡ Equal
            back = joint_total.antisymm (joint_of (of j)) (joint_of (of i)) ∙ ap ordering_reverse tied_too

            here : (n : ℕ) → n < length chains → n < length stacks
            here n within = in_stacks no_piece no_other tech pieces stacks apart vias placed chains all zip n within

            same : i ≡ j
            same = by_order (cases_lt i j) (cases_lt j i)
              where
                by_order : (i < j) ⊎ (j ≤ i) → (j < i) ⊎ (i ≤ j) → i ≡ j
                by_order (inl less) _ = absurd (not_itself (joint_order (joint_of (of i)) (joint_of (of j))) tied_too (apart.in_order i j no_stack less (here j in_j)))
                by_order (inr _) (inl less) = absurd (not_itself (joint_order (joint_of (of j)) (joint_of (of i))) back (apart.in_order j i no_stack less (here i in_i)))
                by_order (inr le) (inr ge) = omega (arith, le, ge)

    -- one goes before another by its place
    goes_before : (s t : Stacked) → Contains stacked s → Contains stacked t → GoesBefore s t → JointBefore (joint_of s.at) (joint_of t.at)
    goes_before s t in_s in_t (inl less) = by (first_tells _ _ less)
      where
        never : joint_order (joint_of s.at) (joint_of t.at) ≡ Equal → (f : Rect → ℤ) → is_lt (int_cmp (f s.at.crossing) (f t.at.crossing)) ≡ true → ⊥
        never tied f is =
            let chain = one_chain s t in_s in_t tied in
            let parts = joint_tied (joint_of s.at) (joint_of t.at) tied in
            let same : s.at.crossing ≡ t.at.crossing = one_crossing vias t.chain t.at.x t.at.y s.at.crossing t.at.crossing
            (subst (λ (c : List ViaAt). IsCrossing vias c t.at.x t.at.y s.at.crossing) chain
            (subst (λ z. IsCrossing vias s.chain z t.at.y s.at.crossing) parts.0 (subst (λ z. IsCrossing vias s.chain s.at.x z s.at.crossing) parts.1 (is_stack s in_s).crossing)))
            (is_stack t in_t).crossing in
            not_itself (int_cmp (f s.at.crossing) (f t.at.crossing)) (subst (λ z. int_cmp (f s.at.crossing) z ≡ Equal) (ap f same) (tied_itself int_cmp_total (f s.at.crossing))) is

        o0 : Ordering
        o0 = place_order s.at t.at

        o1 : Ordering
        o1 = ordering_then o0 (int_cmp s.at.crossing.x1 t.at.crossing.x1)

        o2 : Ordering
        o2 = ordering_then o1 (int_cmp s.at.crossing.y1 t.at.crossing.y1)

        o3 : Ordering
        o3 = ordering_then o2 (int_cmp s.at.crossing.x2 t.at.crossing.x2)

        by_x1 : (is_lt o0 ≡ true) ⊎ ((o0 ≡ Equal) × (is_lt (int_cmp s.at.crossing.x1 t.at.crossing.x1) ≡ true)) → JointBefore (joint_of s.at) (joint_of t.at)
        by_x1 (inl is) = is
        by_x1 (inr (e, is)) = absurd (never e (λ (r : Rect). r.x1) is)

        by_y1 : (is_lt o1 ≡ true) ⊎ ((o1 ≡ Equal) × (is_lt (int_cmp s.at.crossing.y1 t.at.crossing.y1) ≡ true)) → JointBefore (joint_of s.at) (joint_of t.at)
        by_y1 (inl is) = by_x1 (first_tells o0 (int_cmp s.at.crossing.x1 t.at.crossing.x1) is)
        by_y1 (inr (e, is)) = absurd (never (then_equal o0 (int_cmp s.at.crossing.x1 t.at.crossing.x1) e).0 (λ (r : Rect). r.y1) is)

        by_x2 : (is_lt o2 ≡ true) ⊎ ((o2 ≡ Equal) × (is_lt (int_cmp s.at.crossing.x2 t.at.crossing.x2) ≡ true)) → JointBefore (joint_of s.at) (joint_of t.at)
        by_x2 (inl is) = by_y1 (first_tells o1 (int_cmp s.at.crossing.y1 t.at.crossing.y1) is)
        by_x2 (inr (e, is)) = absurd (never
            (then_equal o0 (int_cmp s.at.crossing.x1 t.at.crossing.x1) (then_equal o1 (int_cmp s.at.crossing.y1 t.at.crossing.y1) e).0).0
            (λ (r : Rect). r.x2) is)

        by : (is_lt o3 ≡ true) ⊎ ((o3 ≡ Equal) × (is_lt (int_cmp s.at.crossing.y2 t.at.crossing.y2) ≡ true)) → JointBefore (joint_of s.at) (joint_of t.at)
        by (inl is) = by_x2 (first_tells o2 (int_cmp s.at.crossing.x2 t.at.crossing.x2) is)
        by (inr (e, is)) = absurd (never
            (then_equal o0 (int_cmp s.at.crossing.x1 t.at.crossing.x1)
            (then_equal o1 (int_cmp s.at.crossing.y1 t.at.crossing.y1) (then_equal o2 (int_cmp s.at.crossing.x2 t.at.crossing.x2) e).0).0).0
            (λ (r : Rect). r.y2) is)
    goes_before s t in_s in_t (inr (tied, before)) =
        let chain = one_chain s t in_s in_t
        (then_equal (place_order s.at t.at) (int_cmp s.at.crossing.x1 t.at.crossing.x1) (then_equal _ (int_cmp s.at.crossing.y1 t.at.crossing.y1)
        (then_equal _ (int_cmp s.at.crossing.x2 t.at.crossing.x2) (then_equal _ (int_cmp s.at.crossing.y2 t.at.crossing.y2) tied).0).0).0).0 in
        let itself : ComesBefore t.chain t.chain = subst (λ (c : List ViaAt). ComesBefore c t.chain) chain before in
        absurd (not_itself (via_order (get_or t.chain itself.place no_via) (get_or t.chain itself.place no_via)) (tied_itself via_total (get_or t.chain itself.place no_via)) (itself.less no_via))

    in_order : AllPairs (λ (a b : Stacked). JointBefore (joint_of a.at) (joint_of b.at)) stacked
    in_order i j d less within =
        goes_before (get_or stacked i d) (get_or stacked j d) (i, omega (arith, less, within), get_or_default stacked i (get_or stacked i d) d (omega (arith, less, within)))
        (j, within, get_or_default stacked j (get_or stacked j d) d within) (order i j d less within)

    -- ## both lists

    abbrev pub joints : (s : Stacked) → Joint
    joints s = joint_of s.at

    to_stack : (joint : Joint) → Contains (map joints stacked) joint → Contains (map joint_of stacks) joint
    to_stack joint (k, within, at) =
        let many = length-map stacked joints in
        let there : k < length stacked = omega (arith, within, many) in
        let s = get_or stacked k no_stacked in
        subst (Contains (map joint_of stacks)) (sym (get_or-map joints stacked k no_stacked joint there) ∙ at)
        (joint_in s (k, there, get_or_default stacked k s no_stacked there))

    from_stack : (joint : Joint) → Contains (map joint_of stacks) joint → Contains (map joints stacked) joint
    from_stack joint (k, within, at) =
        let many = length-map stacks joint_of in
        let there : k < length stacks = omega (arith, within, many) in
        let in_chains : k < length chains = let long = as_many_stacks no_piece no_other tech pieces stacks apart vias placed chains all zip in omega (arith, there, long) in
        let chain = get_or chains k [] in
        let at_chain : get_or chains k chain ≡ chain = get_or_default chains k chain [] in_chains in
        let (s, (l, in_stacked, at_s), is) = every chain ((are_chains placed chains chain of_all).1 (k, in_chains, at_chain)) in
        let same = same_joint s (is_stack s (l, in_stacked, at_s)) k in_chains (get_or_default chains k s.chain chain in_chains ∙ at_chain ∙ sym is) in
        let as_many = length-map stacked joints in
        (l, omega (arith, in_stacked, as_many), get_or-map joints stacked l s joint in_stacked ∙ ap joints at_s ∙ same ∙ sym (get_or-map joint_of stacks k no_stack joint there) ∙ at)

    pub same_joints : map joints stacked ≡ map joint_of stacks
    same_joints = same_lists JointBefore joint_one_way (map joints stacked) (map joint_of stacks) (pairs_map joints JointBefore stacked in_order no_stacked)
        (pairs_map joint_of JointBefore stacks apart.in_order no_stack) (λ joint. (to_stack joint, from_stack joint))
