-- Vias of one net at one place, by their layers.
use Rattle.std.proofs.Common.{◌≡◌, ◌⊎◌, inl, inr, ℕ, ◌+◌, ◌-◌, ◌<◌, ◌≤◌, true, false, List, length, get_or, All, AllPairs, Contains, take, drop, subst, refl, sym, ap, ◌∙◌, arith, length-drop}
use Rattle.std.specs.Ordering.{is_gt}
use Rattle.std.proofs.lemmas.Bool.{cases_lt, cases_eq}
use Rattle.std.proofs.lemmas.List.{get_or_default, get_or-take, get_or-drop, length-take-le}
use Rattle.std.proofs.lemmas.List.Elements.{Contains-get_or}
use Rattle.wire_chains.specs.declared.via.ViaAt.{ViaAt}
use Rattle.wire_chains.specs.Chain.{LiesOn, IsJoined, AreHeldAlike, via_order}
use Rattle.wire_chains.specs.inside.Run.{IsSorted, AreLevel, IsEnd, IsStart, GoesOn, IsLevel, via_of}
use Rattle.wire_chains.proofs.Order.{sorted_le, layers, between}

-- two that lie at the place of a third lie at one place
pub beside : (a b c : ViaAt) (m n : ℕ) → LiesOn a m b → LiesOn a n c → LiesOn b n c
beside a b c m n b_lies c_lies = record {
  net = c_lies.net ∙ sym b_lies.net;
  x = c_lies.x ∙ sym b_lies.x;
  y = c_lies.y ∙ sym b_lies.y;
  layer = c_lies.layer;
}

pub back : (a b : ViaAt) (m : ℕ) → LiesOn a m b → LiesOn b a.layer a
back a b m lies = record { net = sym lies.net; x = sym lies.x; y = sym lies.y; layer = refl }

pub further : (a b c : ViaAt) (m n : ℕ) → LiesOn a m b → LiesOn b n c → LiesOn a n c
further a b c m n b_lies c_lies = record {
  net = c_lies.net ∙ b_lies.net;
  x = c_lies.x ∙ b_lies.x;
  y = c_lies.y ∙ b_lies.y;
  layer = c_lies.layer;
}

pub on_layer : (a b : ViaAt) (m n : ℕ) → m ≡ n → LiesOn a m b → LiesOn a n b
on_layer a b m n is lies = record { net = lies.net; x = lies.x; y = lies.y; layer = lies.layer ∙ is }

-- the place of a via of the list
pub place_of : (all : List ViaAt) (via : ViaAt) → Contains all via → (k : ℕ) × (k < length all) × (via_of all k ≡ via)
place_of all via w = (w.0, w.1, get_or_default all w.0 _ via w.1 ∙ w.2)

pub contains_of : (all : List ViaAt) (k : ℕ) → k < length all → Contains all (via_of all k)
contains_of all k within = Contains-get_or all k _ within

module _ (all : List ViaAt) (sorted : IsSorted all) where
  -- one on a higher layer stands later
  pub later : (i j : ℕ) (on : ℕ) → i < length all → j < length all → LiesOn (via_of all i) on (via_of all j) → (via_of all i).layer < on → i < j
  later i j on in_i in_j lies less = by_place (cases_lt i j)
    where
      by_place : (i < j) ⊎ (j ≤ i) → i < j
      by_place (inl before) = before
      by_place (inr behind) =
          let low = layers (via_of all j) (via_of all i) (sorted_le all sorted j i behind in_i) lies.net lies.x lies.y in
          absurd (omega (arith, low, lies.layer))

  -- between two of one place all lie there
  pub amid : (i k j : ℕ) (on : ℕ) → i ≤ k → k ≤ j → j < length all → LiesOn (via_of all i) on (via_of all j)
      → LiesOn (via_of all i) (via_of all k).layer (via_of all k) × ((via_of all i).layer ≤ (via_of all k).layer) × ((via_of all k).layer ≤ on)
  amid i k j on low high within lies =
      between (via_of all i) (via_of all j) (via_of all k) on lies (sorted_le all sorted i k low (omega arith)) (sorted_le all sorted k j high within)

  -- all of a layer stand from its first place up to its end
  pub level_places : (from to : ℕ) → IsEnd all from → from < length all → from < to → to ≤ length all
      → (to < length all → AreLevel (via_of all from) (via_of all to) → ⊥) → (k : ℕ) → k < length all → AreLevel (via_of all from) (via_of all k) → (from ≤ k) × (k < to)
  level_places from to ends in_from some within behind k in_k level = (low (cases_lt k from), high (cases_lt k to))
    where
      low : (k < from) ⊎ (from ≤ k) → from ≤ k
      low (inr is) = is
      low (inl before) =
          let first = via_of all from in
          let turned : LiesOn (via_of all k) first.layer first = back first (via_of all k) first.layer level in
          let w = amid k (from - 1) from first.layer (omega arith) (omega arith) in_from turned in
          let layer : (via_of all (from - 1)).layer ≡ first.layer = omega (arith, w.1, w.2, level.layer) in
          let there : AreLevel (via_of all (from - 1)) first =
          on_layer (via_of all (from - 1)) first first.layer (via_of all (from - 1)).layer (sym layer) (beside (via_of all k) (via_of all (from - 1)) first (via_of all (from - 1)).layer first.layer w.0 turned) in
          absurd (ends (omega arith) in_from there)

      high : (k < to) ⊎ (to ≤ k) → k < to
      high (inl is) = is
      high (inr past) =
          let first = via_of all from in
          let w = amid from to k first.layer (omega arith) past in_k level in
          let layer : (via_of all to).layer ≡ first.layer = omega (arith, w.1, w.2) in
          absurd (behind (omega arith) (on_layer first (via_of all to) (via_of all to).layer first.layer layer w.0))

  -- the end of a layer
  pub level_ends : (from to : ℕ) → from < to → ((k : ℕ) → from ≤ k → k < to → AreLevel (via_of all from) (via_of all k))
      → (to < length all → AreLevel (via_of all from) (via_of all to) → ⊥) → IsEnd all to
  level_ends from to some level behind positive within there =
      let first = via_of all from in
      let last = via_of all (to - 1) in
      let lies : AreLevel first last = level (to - 1) (omega arith) (omega arith) in
      let on : LiesOn first last.layer (via_of all to) = further first last (via_of all to) first.layer last.layer lies there in
      behind within (on_layer first (via_of all to) last.layer first.layer lies.layer on)

  pub starts_at_none : IsStart all 0
  starts_at_none = record {
    ends = λ positive within there. absurd (omega arith);
    alone = λ within via has joined.
        let p = place_of all via has in
        let lies : LiesOn (via_of all p.0) ((via_of all p.0).layer + 1) (via_of all 0) = subst (λ (v : ViaAt). LiesOn v (v.layer + 1) (via_of all 0)) (sym p.2) joined.above in
        absurd (omega (arith, later p.0 0 ((via_of all p.0).layer + 1) p.1 within lies (omega arith)));
  }

  module _ (held : AreHeldAlike all) where
    -- the vias of one layer go on from the same
    pub joined_alike : (via one other : ViaAt) → Contains all one → Contains all other → AreLevel one other → IsJoined via one → IsJoined via other
    joined_alike via one other has_one has_other level joined = record {
      above = on_layer via other one.layer (via.layer + 1) joined.above.layer (further via one other (via.layer + 1) one.layer joined.above level);
      free = held one other has_one has_other level ∙ joined.free;
    }

    -- where nothing goes on at the end of a layer, the next vias are the first of a chain
    pub starts_behind : (to : ℕ) → 0 < to → IsEnd all to → (GoesOn all to → ⊥) → IsStart all to
    starts_behind to positive ends none = record {
      ends = ends;
      alone = λ within via has joined.
          let p = place_of all via has in
          let below = via_of all p.0 in
          let above = via_of all to in
          let last = via_of all (to - 1) in
          let on = below.layer + 1 in
          let is_joined : IsJoined below above = subst (λ (v : ViaAt). IsJoined v above) (sym p.2) joined in
          let before : p.0 < to = later p.0 to on p.1 within is_joined.above (omega arith) in
          let w = amid p.0 (to - 1) to on (omega arith) (omega arith) within is_joined.above in
          let lies : LiesOn last on above = beside below last above last.layer on w.0 is_joined.above in
          by_layer p.0 (cases_eq last.layer on) within lies is_joined w.1 w.2;
    }
      where
        by_layer : (p : ℕ) → ((via_of all (to - 1)).layer ≡ (via_of all p).layer + 1) ⊎ ((via_of all (to - 1)).layer ≡ (via_of all p).layer + 1 → ⊥)
            → to < length all → LiesOn (via_of all (to - 1)) ((via_of all p).layer + 1) (via_of all to) → IsJoined (via_of all p) (via_of all to)
            → (via_of all p).layer ≤ (via_of all (to - 1)).layer → (via_of all (to - 1)).layer ≤ (via_of all p).layer + 1 → ⊥
        by_layer p (inl same) within lies joined low high =
            ends positive within (on_layer (via_of all (to - 1)) (via_of all to) ((via_of all p).layer + 1) (via_of all (to - 1)).layer (sym same) lies)
        by_layer p (inr differ) within lies joined low high =
            let layer : (via_of all p).layer + 1 ≡ (via_of all (to - 1)).layer + 1 = omega arith in
            none (within, record { above = on_layer (via_of all (to - 1)) (via_of all to) ((via_of all p).layer + 1) ((via_of all (to - 1)).layer + 1) layer lies; free = joined.free })

    -- nothing goes on from a via of the layer before
    pub none_above : (to : ℕ) → 0 < to → to ≤ length all → IsEnd all to → (GoesOn all to → ⊥) → (below via : ViaAt) → AreLevel (via_of all (to - 1)) below → Contains all via → IsJoined below via → ⊥
    none_above to positive upto ends none below via level has joined =
        let last = via_of all (to - 1) in
        let p = place_of all via has in
        let top = via_of all p.0 in
        let is_joined : IsJoined below top = subst (λ (v : ViaAt). IsJoined below v) (sym p.2) joined in
        let on = below.layer + 1 in
        let lies : LiesOn last on top = further last below top last.layer on level is_joined.above in
        let behind : to - 1 < p.0 = later (to - 1) p.0 on (omega arith) p.1 lies (omega (arith, level.layer)) in
        let within : to < length all = omega (arith, p.1) in
        let w = amid (to - 1) to p.0 on (omega arith) (omega arith) p.1 lies in
        by_layer p.0 p.1 within w (cases_eq (via_of all to).layer last.layer) lies is_joined.free (omega (arith, level.layer))
      where
        by_layer : (p : ℕ) → p < length all → to < length all
            → LiesOn (via_of all (to - 1)) (via_of all to).layer (via_of all to) × ((via_of all (to - 1)).layer ≤ (via_of all to).layer) × ((via_of all to).layer ≤ below.layer + 1)
            → ((via_of all to).layer ≡ (via_of all (to - 1)).layer) ⊎ ((via_of all to).layer ≡ (via_of all (to - 1)).layer → ⊥)
            → LiesOn (via_of all (to - 1)) (below.layer + 1) (via_of all p) → (via_of all p).held ≡ false → below.layer ≡ (via_of all (to - 1)).layer → ⊥
        by_layer p in_p within w (inl same) lies free layer = ends positive within (on_layer (via_of all (to - 1)) (via_of all to) (via_of all to).layer (via_of all (to - 1)).layer same w.0)
        by_layer p in_p within w (inr differ) lies free layer =
            let last = via_of all (to - 1) in
            let next = via_of all to in
            let up : next.layer ≡ last.layer + 1 = omega (arith, w.1, w.2) in
            let on_next : LiesOn last (last.layer + 1) next = on_layer last next next.layer (last.layer + 1) up w.0 in
            let level : AreLevel (via_of all p) next =
            on_layer (via_of all p) next (last.layer + 1) (via_of all p).layer (omega (arith, lies.layer)) (beside last (via_of all p) next (below.layer + 1) (last.layer + 1) lies on_next) in
            none (within, record { above = on_next; free = held (via_of all p) next (contains_of all p in_p) (contains_of all to within) level ∙ free })

-- a slice of a list in order, with all of a layer
pub level_of : (all : List ViaAt) (first : ViaAt) (on from to : ℕ) → IsSorted all → from ≤ to → to ≤ length all → ((k : ℕ) → from ≤ k → k < to → LiesOn first on (via_of all k))
    → ((k : ℕ) → k < length all → LiesOn first on (via_of all k) → (from ≤ k) × (k < to)) → IsLevel all first on (take (to - from) (drop from all))
level_of all first on from to sorted upto within level places = record {
  each = λ k d in_k. rw (at k d in_k) (Contains-get_or all (from + k) d (omega (arith, long)), there k d in_k);
  every = λ via has lies.
      let p = place_of all via has in
      let in_to = places p.0 p.1 (subst (LiesOn first on) (sym p.2) lies) in
      (p.0 - from, omega (arith, long, in_to.0, in_to.1), at (p.0 - from) via (omega (arith, long, in_to.0, in_to.1)) ∙ ap (λ n. get_or all n via) (omega (arith, in_to.0)) ∙ get_or_default all p.0 via _ p.1 ∙ p.2);
  in_order = λ i j d less in_j. rw (at i d (omega arith), at j d in_j) (sorted (from + i) (from + j) d (omega arith) (omega (arith, long)));
}
  where
    long : length (take (to - from) (drop from all)) ≡ to - from
    long = length-take-le (to - from) (drop from all) (omega (arith, length-drop from all))

    at : (k : ℕ) (d : ViaAt) → k < length (take (to - from) (drop from all)) → get_or (take (to - from) (drop from all)) k d ≡ get_or all (from + k) d
    at k d in_k = get_or-take (to - from) (drop from all) k d (omega (arith, long)) ∙ get_or-drop from all k d

    there : (k : ℕ) (d : ViaAt) → k < length (take (to - from) (drop from all)) → LiesOn first on (get_or all (from + k) d)
    there k d in_k = subst (LiesOn first on) (get_or_default all (from + k) _ d (omega (arith, long))) (level (from + k) (omega arith) (omega (arith, long)))
