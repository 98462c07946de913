-- The chains from the layer of a first via up to another.
use Rattle.std.proofs.Common.{◌≡◌, ◌⊎◌, inl, inr, ℕ, zero, suc, ◌+◌, ◌-◌, ◌<◌, ◌≤◌, true, false, List, [], ◌∷◌, ◌++◌, length, get_or, map, take, All, AllPairs, Contains, subst, refl, sym, ap, ◌∙◌, arith}
use Rattle.std.specs.List.{flat_map}
use Rattle.std.specs.Ordering.{is_lt}
use Rattle.std.proofs.lemmas.Bool.{cases_lt, cases_eq}
use Rattle.std.proofs.lemmas.List.{get_or_default, get_or_append_left, get_or-take, length-take-le}
use Rattle.std.proofs.lemmas.List.Elements.{All-push, All-map, All-take, All-contains, Contains-get_or}
use Rattle.wire_chains.specs.declared.via.ViaAt.{ViaAt}
use Rattle.wire_chains.specs.Chain.{LiesOn, IsJoined, IsChain, ComesBefore, AreHeldAlike, via_order}
use Rattle.wire_chains.specs.inside.Run.{IsSorted, AreLevel, IsRun, IsPath, ArePaths, IsLevel, BeginsIn, gone_on, via_of}
use Rattle.wire_chains.proofs.Lists.{AllPairs-map, AllPairs-flat_map, All-flat_map, Contains-map, from_map, Contains-flat_map, split_last, one_alone, get_or_last, length_more}
use Rattle.wire_chains.proofs.Column.{beside, back, further, on_layer, place_of, contains_of}

-- the via of a chain on each layer
pub column_at : (first : ViaAt) (chain : List ViaAt) → AreLevel first (via_of chain 0) → ((k : ℕ) (d : ViaAt) → k + 1 < length chain → IsJoined (get_or chain k d) (get_or chain (k + 1) d))
    → (i : ℕ) → i < length chain → LiesOn first (first.layer + i) (via_of chain i)
column_at first chain begins joined zero within = on_layer first (via_of chain 0) first.layer (first.layer + 0) (omega arith) begins
column_at first chain begins joined (suc i) within =
    let below = column_at first chain begins joined i (omega arith) in
    let up = joined i _ (omega arith) in
    let same : via_of chain (i + 1) ≡ via_of chain (suc i) = ap (via_of chain) (omega arith) in
    let there : LiesOn (via_of chain i) ((via_of chain i).layer + 1) (via_of chain (suc i)) = subst (λ (v : ViaAt). LiesOn (via_of chain i) ((via_of chain i).layer + 1) v) same up.above in
    on_layer first (via_of chain (suc i)) ((via_of chain i).layer + 1) (first.layer + suc i) (omega (arith, below.layer))
    (further first (via_of chain i) (via_of chain (suc i)) (first.layer + i) ((via_of chain i).layer + 1) below there)

-- one more via at the upper end
get_front : (chain : List ViaAt) (via d : ViaAt) (k : ℕ) → k < length chain → get_or (chain ++ via ∷ []) k d ≡ get_or chain k d
get_front chain via d k within = get_or_append_left chain (via ∷ []) d k within

pub path_more : (all : List ViaAt) (first : ViaAt) (top : ℕ) (chain : List ViaAt) (via : ViaAt) → IsPath all first top chain → Contains all via → LiesOn first (top + 1) via → via.held ≡ false
    → IsPath all first (top + 1) (chain ++ via ∷ [])
path_more all first top chain via path has lies free = record {
  some = omega (arith, long);
  long = omega (arith, long, path.long);
  within = All-push (Contains all) chain via path.within has;
  joined = joined;
  begins = subst (AreLevel first) (sym (get_front chain via _ 0 path.some)) path.begins;
}
  where
    long : length (chain ++ via ∷ []) ≡ length chain + 1
    long = length_more chain via

    joined : (k : ℕ) (d : ViaAt) → k + 1 < length (chain ++ via ∷ []) → IsJoined (get_or (chain ++ via ∷ []) k d) (get_or (chain ++ via ∷ []) (k + 1) d)
    joined k d within = by_place (cases_lt (k + 1) (length chain))
      where
        by_place : (k + 1 < length chain) ⊎ (length chain ≤ k + 1) → IsJoined (get_or (chain ++ via ∷ []) k d) (get_or (chain ++ via ∷ []) (k + 1) d)
        by_place (inl inner) = rw (get_front chain via d k (omega arith), get_front chain via d (k + 1) inner) (path.joined k d inner)
        by_place (inr outer) =
            let in_k : k < length chain = omega (arith, long) in
            let at = column_at first chain path.begins path.joined k in_k in
            let here : via_of chain k ≡ get_or chain k d = get_or_default chain k _ d in_k in
            let up : LiesOn (via_of chain k) (top + 1) via = beside first (via_of chain k) via (first.layer + k) (top + 1) at lies in
            let on : (via_of chain k).layer + 1 ≡ top + 1 = omega (arith, at.layer, path.long, long) in
            rw (get_front chain via d k in_k, get_or_last chain via d (k + 1) (omega (arith, long)))
            (subst (λ (v : ViaAt). IsJoined v via) here (record { above = on_layer (via_of chain k) via (top + 1) ((via_of chain k).layer + 1) (sym on) up; free = free }))

-- all but the last via of a longer one
pub path_less : (all : List ViaAt) (first : ViaAt) (top : ℕ) (chain : List ViaAt) → first.layer ≤ top → IsPath all first (top + 1) chain → IsPath all first top (take (length chain - 1) chain)
path_less all first top chain rising path = record {
  some = omega (arith, long, path.long);
  long = omega (arith, long, path.long);
  within = All-take (Contains all) (length chain - 1) chain path.within;
  joined = λ k d within. rw (at k d (omega (arith, long)), at (k + 1) d (omega (arith, long))) (path.joined k d (omega (arith, long)));
  begins = subst (AreLevel first) (sym (at 0 _ (omega (arith, path.long)))) path.begins;
}
  where
    long : length (take (length chain - 1) chain) ≡ length chain - 1
    long = length-take-le (length chain - 1) chain (omega arith)

    at : (k : ℕ) (d : ViaAt) → k < length chain - 1 → get_or (take (length chain - 1) chain) k d ≡ get_or chain k d
    at k d below = get_or-take (length chain - 1) chain k d below

-- chains of different orders stay so with one more via each
before_more : (one other : List ViaAt) (a b : ViaAt) → ComesBefore one other → ComesBefore (one ++ a ∷ []) (other ++ b ∷ [])
before_more one other a b before = record {
  place = before.place;
  in_one = omega (arith, length_more one a, before.in_one);
  in_other = omega (arith, length_more other b, before.in_other);
  alike = λ k d less. rw (get_front one a d k (omega (arith, before.in_one)), get_front other b d k (omega (arith, before.in_other))) (before.alike k d less);
  less = λ d. rw (get_front one a d before.place before.in_one, get_front other b d before.place before.in_other) (before.less d);
}

before_last : (chain : List ViaAt) (a b : ViaAt) → is_lt (via_order a b) ≡ true → ComesBefore (chain ++ a ∷ []) (chain ++ b ∷ [])
before_last chain a b less = record {
  place = length chain;
  in_one = omega (arith, length_more chain a);
  in_other = omega (arith, length_more chain b);
  alike = λ k d below. rw (get_front chain a d k below, get_front chain b d k below) refl;
  less = λ d. rw (get_or_last chain a d (length chain) refl, get_or_last chain b d (length chain) refl) less;
}

-- each of the chains goes on by each of the vias of the next layer
pub paths_more : (all : List ViaAt) (first : ViaAt) (top : ℕ) (paths : List (List ViaAt)) (level : List ViaAt) → first.layer ≤ top → ArePaths all first top paths → IsLevel all first (top + 1) level
    → All (λ (v : ViaAt). v.held ≡ false) level → ArePaths all first (top + 1) (gone_on level paths)
paths_more all first top paths level rising are of free = record {
  each = All-flat_map (IsPath all first (top + 1)) step paths (λ chain has. All-map (IsPath all first (top + 1)) (λ (via : ViaAt). chain ++ via ∷ []) level
      (λ k d within. let v = of.each k d within in path_more all first top chain (get_or level k d) (All-contains (IsPath all first top) paths chain are.each has) v.0 v.1 (free k d within)));
  every = λ chain path. every chain path;
  in_order = AllPairs-flat_map ComesBefore ComesBefore step paths are.in_order
      (λ chain has. AllPairs-map ComesBefore (λ (via : ViaAt). chain ++ via ∷ []) level (λ i j d less within. before_last chain (get_or level i d) (get_or level j d) (of.in_order i j d less within)))
      (λ a b y z has_a has_b before has_y has_z.
      let u = from_map (λ (via : ViaAt). a ++ via ∷ []) level y has_y in
      let v = from_map (λ (via : ViaAt). b ++ via ∷ []) level z has_z in
      subst (λ (c : List ViaAt). ComesBefore c z) u.2 (subst (λ (c : List ViaAt). ComesBefore (a ++ u.0 ∷ []) c) v.2 (before_more a b u.0 v.0 before)));
}
  where
    step : List ViaAt → List (List ViaAt)
    step chain = map (λ (via : ViaAt). chain ++ via ∷ []) level

    every : (chain : List ViaAt) → IsPath all first (top + 1) chain → Contains (flat_map step paths) chain
    every chain path =
        let n = length chain - 1 in
        let last = via_of chain n in
        let in_n : n < length chain = omega (arith, path.some) in
        let at = column_at first chain path.begins path.joined n in_n in
        let on : LiesOn first (top + 1) last = on_layer first last (first.layer + n) (top + 1) (omega (arith, path.long)) at in
        let has : Contains level last = of.every last (path.within n _ in_n) on in
        let front : Contains paths (take n chain) = are.every (take n chain) (path_less all first top chain rising path) in
        subst (Contains (flat_map step paths)) (sym (split_last chain _ path.some))
        (Contains-flat_map step paths (take n chain) (take n chain ++ last ∷ []) front (Contains-map (λ (via : ViaAt). take n chain ++ via ∷ []) level last has))

-- the chains of one via each
pub paths_begun : (all : List ViaAt) (first : ViaAt) (level : List ViaAt) → IsLevel all first first.layer level → ArePaths all first first.layer (map (λ (via : ViaAt). via ∷ []) level)
paths_begun all first level of = record {
  each = All-map (IsPath all first first.layer) (λ (via : ViaAt). via ∷ []) level (λ k d within. let v = of.each k d within in one (get_or level k d) v.0 v.1);
  every = λ chain path.
      let lone : length chain ≡ 1 = omega (arith, path.long) in
      let has : Contains level (via_of chain 0) = of.every (via_of chain 0) (path.within 0 _ path.some) path.begins in
      subst (Contains (map (λ (via : ViaAt). via ∷ []) level)) (sym (one_alone chain _ lone)) (Contains-map (λ (via : ViaAt). via ∷ []) level (via_of chain 0) has);
  in_order = AllPairs-map ComesBefore (λ (via : ViaAt). via ∷ []) level (λ i j d less within. before_last [] (get_or level i d) (get_or level j d) (of.in_order i j d less within));
}
  where
    one : (via : ViaAt) → Contains all via → LiesOn first first.layer via → IsPath all first first.layer (via ∷ [])
    one via has lies = record {
      some = omega arith;
      long = omega arith;
      within = λ k d within. first_of k d within;
      joined = λ k d within. absurd (omega arith);
      begins = lies;
    }
      where
        first_of : (k : ℕ) (d : ViaAt) → k < length (via ∷ []) → Contains all (get_or (via ∷ []) k d)
        first_of zero d within = has
        first_of (suc k) d within = absurd (omega arith)

-- ---- maximal chains

module _ (all : List ViaAt) (held : AreHeldAlike all) (first : ViaAt) (top : ℕ) (run : IsRun all first top) where
  -- a via on each layer of the run, on which no piece is above the lowest
  step_up : (below : ViaAt) (on : ℕ) → LiesOn first on below → first.layer ≤ on → on < top → (via : ViaAt) × Contains all via × IsJoined below via
  step_up below on lies low high =
      let w = run.levels (on + 1) (omega arith) (omega arith) in
      (w.0, w.1, record { above = on_layer below w.0 (on + 1) (below.layer + 1) (omega (arith, lies.layer)) (beside first below w.0 on (on + 1) lies w.2); free = w.3 })

  -- each chain of the run is maximal
  pub path_is_chain : ((via : ViaAt) → Contains all via → IsJoined via first → ⊥) → ((below via : ViaAt) → LiesOn first top below → Contains all via → IsJoined below via → ⊥)
      → (chain : List ViaAt) → IsPath all first top chain → IsChain all chain
  path_is_chain alone above chain path = record {
    some = path.some;
    within = path.within;
    joined = path.joined;
    first = λ via d has joined.
        let head = via_of chain 0 in
        let same : get_or chain 0 d ≡ head = get_or_default chain 0 d _ path.some in
        let is_joined : IsJoined via head = subst (IsJoined via) same joined in
        let level : AreLevel head first = on_layer head first first.layer head.layer (sym path.begins.layer) (back first head first.layer path.begins) in
        alone via has (record {
          above = on_layer via first head.layer (via.layer + 1) is_joined.above.layer (further via head first (via.layer + 1) head.layer is_joined.above level);
          free = held head first (path.within 0 _ path.some) run.first_is level ∙ is_joined.free;
        });
    last = λ via d has joined.
        let n = length chain - 1 in
        let in_n : n < length chain = omega (arith, path.some) in
        let at = column_at first chain path.begins path.joined n in_n in
        let same : get_or chain n d ≡ via_of chain n = get_or_default chain n d _ in_n in
        above (via_of chain n) via (on_layer first (via_of chain n) (first.layer + n) top (omega (arith, path.long)) at) has (subst (λ (v : ViaAt). IsJoined v via) same joined);
  }

  -- each maximal chain that begins in the run is one of it
  pub chain_is_path : ((below via : ViaAt) → LiesOn first top below → Contains all via → IsJoined below via → ⊥) → (chain : List ViaAt) → IsChain all chain
      → LiesOn first (via_of chain 0).layer (via_of chain 0) → first.layer ≤ (via_of chain 0).layer → (via_of chain 0).layer ≤ top → IsPath all first top chain
  chain_is_path above chain is lies low high = record {
    some = is.some;
    long = long;
    within = is.within;
    joined = is.joined;
    begins = begins;
  }
    where
      head : ViaAt
      head = via_of chain 0

      has_head : Contains all (via_of chain 0)
      has_head = is.within 0 _ is.some

      by_head : ((via_of chain 0).layer ≡ first.layer) ⊎ ((via_of chain 0).layer ≡ first.layer → ⊥) → AreLevel first (via_of chain 0)
      by_head (inl same) = on_layer first (via_of chain 0) (via_of chain 0).layer first.layer same lies
      by_head (inr differ) = absurd (by_below (cases_eq ((via_of chain 0).layer - 1) first.layer))
        where
          up : first.layer < (via_of chain 0).layer
          up = omega arith

          this : (via : ViaAt) × Contains all via × LiesOn first (via_of chain 0).layer via × (via.held ≡ false)
          this = run.levels (via_of chain 0).layer up high

          free : (via_of chain 0).held ≡ false
          free = held this.0 (via_of chain 0) this.1 has_head (on_layer this.0 (via_of chain 0) (via_of chain 0).layer this.0.layer (sym this.2.layer) (beside first this.0 (via_of chain 0) (via_of chain 0).layer (via_of chain 0).layer this.2 lies)) ∙ this.3

          from_below : (via : ViaAt) → Contains all via → LiesOn first ((via_of chain 0).layer - 1) via → ⊥
          from_below via has on = is.first via _ has (record {
            above = on_layer via (via_of chain 0) (via_of chain 0).layer (via.layer + 1) (omega (arith, on.layer)) (beside first via (via_of chain 0) ((via_of chain 0).layer - 1) (via_of chain 0).layer on lies);
            free = free;
          })

          by_below : ((via_of chain 0).layer - 1 ≡ first.layer) ⊎ ((via_of chain 0).layer - 1 ≡ first.layer → ⊥) → ⊥
          by_below (inl same) = from_below first run.first_is (record { net = refl; x = refl; y = refl; layer = sym same })
          by_below (inr higher) = let w = run.levels ((via_of chain 0).layer - 1) (omega arith) (omega arith) in from_below w.0 w.1 w.2

      begins : AreLevel first (via_of chain 0)
      begins = by_head (cases_eq (via_of chain 0).layer first.layer)

      at : (i : ℕ) → i < length chain → LiesOn first (first.layer + i) (via_of chain i)
      at i within = column_at first chain begins is.joined i within

      by_length : (length chain + first.layer < top + 1) ⊎ (top + 1 ≤ length chain + first.layer) → (top + 1 < length chain + first.layer) ⊎ (length chain + first.layer ≤ top + 1) → length chain + first.layer ≡ top + 1
      by_length (inl short) _ =
          let n = length chain - 1 in
          let in_n : n < length chain = omega (arith, is.some) in
          let w = step_up (via_of chain n) (first.layer + n) (at n in_n) (omega arith) (omega (arith, is.some)) in
          absurd (is.last w.0 _ w.1 w.2)
      by_length (inr _) (inl far) =
          let n = top - first.layer in
          let in_n : n + 1 < length chain = omega (arith, run.rising) in
          let here : LiesOn first top (via_of chain n) = on_layer first (via_of chain n) (first.layer + n) top (omega (arith, run.rising)) (at n (omega arith)) in
          absurd (above (via_of chain n) (via_of chain (n + 1)) here (is.within (n + 1) _ in_n) (is.joined n _ in_n))
      by_length (inr a) (inr b) = omega arith

      long : length chain + first.layer ≡ top + 1
      long = by_length (cases_lt (length chain + first.layer) (top + 1)) (cases_lt (top + 1) (length chain + first.layer))
