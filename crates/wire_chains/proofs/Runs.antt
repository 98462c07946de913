-- Run by run: the vias from a first layer up, and all chains in order.
use Rattle.std.proofs.Common.{◌≡◌, ◌⊎◌, inl, inr, ℕ, ◌+◌, ◌-◌, ◌<◌, ◌≤◌, true, false, List, [], ◌∷◌, ◌++◌, length, get_or, map, take, drop, All, AllPairs, Contains, subst, refl, sym, ap, ◌∙◌, arith}
use Rattle.std.specs.Ordering.{is_lt}
use Rattle.std.specs.List.Sorted.{IsPermutation}
use Rattle.std.proofs.lemmas.Bool.{cases_lt, cases_eq}
use Rattle.std.proofs.lemmas.List.{get_or_default}
use Rattle.std.proofs.lemmas.List.Elements.{All-append, All-weaker, All-contains, Contains-append_left, Contains-append_right}
use Rattle.std.proofs.lemmas.List.Sorted.{IsPermutation-sym, Contains-permutation}
use Rattle.wire_chains.specs.declared.via.ViaAt.{ViaAt}
use Rattle.wire_chains.specs.Chain.{LiesOn, IsJoined, IsChain, ComesBefore, AreChains, AreHeldAlike, via_order}
use Rattle.wire_chains.specs.inside.Run.{IsSorted, AreLevel, IsEnd, IsStart, GoesOn, BeginsIn, AreFrom, IsRun, IsPath, ArePaths, IsLevel, InRun, gone_on, via_of}
use Rattle.wire_chains.proofs.Lists.{AllPairs-append}
use Rattle.wire_chains.proofs.Column.{beside, back, further, on_layer, place_of, contains_of, level_places, level_ends, level_of, none_above}
use Rattle.wire_chains.proofs.Paths.{paths_begun, paths_more, path_is_chain, chain_is_path}

itself : (a : ViaAt) → AreLevel a a
itself a = record { net = refl; x = refl; y = refl; layer = refl }

-- what `level_end` says of the first layer
pub record IsLevelTo (all : List ViaAt) (from to : ℕ) : Type 0 where
  pub some : from < to
  pub within : to ≤ length all
  pub level : (k : ℕ) → from ≤ k → k < to → AreLevel (via_of all from) (via_of all k)
  pub behind : to < length all → AreLevel (via_of all from) (via_of all to) → ⊥

pub run_begun : (all : List ViaAt) (from to : ℕ) → IsSorted all → from < length all → IsStart all from → IsLevelTo all from to
    → InRun all from to (map (λ (via : ViaAt). via ∷ []) (take (to - from) (drop from all)))
run_begun all from to sorted in_from start end = record {
  some = end.some;
  within = end.within;
  ends = level_ends all sorted from to end.some end.level end.behind;
  run = record {
    rising = omega (arith, last_level.layer);
    first_is = contains_of all from in_from;
    levels = λ layer low high. absurd (omega (arith, last_level.layer));
  };
  last = on_layer first last first.layer last.layer (sym last_level.layer) last_level;
  inside = λ k low high.
      let lies = end.level k low high in
      (on_layer first (via_of all k) first.layer (via_of all k).layer (sym lies.layer) lies, omega (arith, lies.layer), omega (arith, lies.layer, last_level.layer));
  firsts = places;
  are = subst (λ n. ArePaths all first n (map (λ (via : ViaAt). via ∷ []) level)) (sym last_level.layer) (paths_begun all first level of);
}
  where
    first : ViaAt
    first = via_of all from

    last : ViaAt
    last = via_of all (to - 1)

    level : List ViaAt
    level = take (to - from) (drop from all)

    last_level : AreLevel (via_of all from) (via_of all (to - 1))
    last_level = end.level (to - 1) (omega (arith, end.some)) (omega (arith, end.some))

    places : (k : ℕ) → k < length all → AreLevel (via_of all from) (via_of all k) → (from ≤ k) × (k < to)
    places k in_k there = level_places all sorted from to start.ends in_from end.some end.within end.behind k in_k there

    of : IsLevel all (via_of all from) (via_of all from).layer (take (to - from) (drop from all))
    of = level_of all (via_of all from) (via_of all from).layer from to sorted (omega (arith, end.some)) end.within end.level places

pub run_more : (all : List ViaAt) (from to next : ℕ) (paths : List (List ViaAt)) → IsSorted all → AreHeldAlike all → InRun all from to paths → GoesOn all to → IsLevelTo all to next
    → InRun all from next (gone_on (take (next - to) (drop to all)) paths)
run_more all from to next paths sorted held in_run goes end = record {
  some = omega (arith, end.some, in_run.some);
  within = end.within;
  ends = level_ends all sorted to next end.some end.level end.behind;
  run = record {
    rising = omega (arith, top_is, in_run.run.rising);
    first_is = in_run.run.first_is;
    levels = λ layer low high. by_layer layer low high (cases_lt (via_of all (to - 1)).layer layer);
  };
  last = on_new (next - 1) (omega (arith, end.some)) (omega (arith, end.some));
  inside = λ k low high. by_place k low high (cases_lt k to);
  firsts = λ k in_k there. let w = in_run.firsts k in_k there in (w.0, omega (arith, w.1, end.some));
  are = subst (λ n. ArePaths all (via_of all from) n (gone_on (take (next - to) (drop to all)) paths)) (sym top_is)
      (paths_more all (via_of all from) (via_of all (to - 1)).layer paths (take (next - to) (drop to all)) in_run.run.rising in_run.are of free);
}
  where
    top : ℕ
    top = (via_of all (to - 1)).layer

    up : LiesOn (via_of all from) ((via_of all (to - 1)).layer + 1) (via_of all to)
    up = further (via_of all from) (via_of all (to - 1)) (via_of all to) (via_of all (to - 1)).layer ((via_of all (to - 1)).layer + 1) in_run.last goes.1.above

    on_next : (k : ℕ) → to ≤ k → k < next → LiesOn (via_of all from) ((via_of all (to - 1)).layer + 1) (via_of all k)
    on_next k low high =
        let there = end.level k low high in
        on_layer (via_of all from) (via_of all k) (via_of all to).layer ((via_of all (to - 1)).layer + 1) up.layer
        (further (via_of all from) (via_of all to) (via_of all k) ((via_of all (to - 1)).layer + 1) (via_of all to).layer up there)

    on_new : (k : ℕ) → to ≤ k → k < next → LiesOn (via_of all from) (via_of all k).layer (via_of all k)
    on_new k low high = let lies = on_next k low high in on_layer (via_of all from) (via_of all k) ((via_of all (to - 1)).layer + 1) (via_of all k).layer (sym lies.layer) lies

    top_is : (via_of all (next - 1)).layer ≡ (via_of all (to - 1)).layer + 1
    top_is = (on_next (next - 1) (omega (arith, end.some)) (omega (arith, end.some))).layer

    by_layer : (layer : ℕ) → (via_of all from).layer < layer → layer ≤ (via_of all (next - 1)).layer → ((via_of all (to - 1)).layer < layer) ⊎ (layer ≤ (via_of all (to - 1)).layer)
        → (via : ViaAt) × Contains all via × LiesOn (via_of all from) layer via × (via.held ≡ false)
    by_layer layer low high (inl new) =
        (via_of all to, contains_of all to goes.0, on_layer (via_of all from) (via_of all to) ((via_of all (to - 1)).layer + 1) layer (omega (arith, top_is)) up, goes.1.free)
    by_layer layer low high (inr old) = in_run.run.levels layer low old

    by_place : (k : ℕ) → from ≤ k → k < next → (k < to) ⊎ (to ≤ k)
        → LiesOn (via_of all from) (via_of all k).layer (via_of all k) × ((via_of all from).layer ≤ (via_of all k).layer) × ((via_of all k).layer ≤ (via_of all (next - 1)).layer)
    by_place k low high (inl old) = let w = in_run.inside k low old in (w.0, w.1, omega (arith, w.2, top_is))
    by_place k low high (inr new) = let lies = on_next k new high in (on_new k new high, omega (arith, lies.layer, in_run.run.rising), omega (arith, lies.layer, top_is))

    places : (k : ℕ) → k < length all → LiesOn (via_of all from) ((via_of all (to - 1)).layer + 1) (via_of all k) → (to ≤ k) × (k < next)
    places k in_k there =
        level_places all sorted to next in_run.ends goes.0 end.some end.within end.behind k in_k
        (on_layer (via_of all to) (via_of all k) ((via_of all (to - 1)).layer + 1) (via_of all to).layer (sym up.layer)
        (beside (via_of all from) (via_of all to) (via_of all k) ((via_of all (to - 1)).layer + 1) ((via_of all (to - 1)).layer + 1) up there))

    of : IsLevel all (via_of all from) ((via_of all (to - 1)).layer + 1) (take (next - to) (drop to all))
    of = level_of all (via_of all from) ((via_of all (to - 1)).layer + 1) to next sorted (omega (arith, end.some)) end.within on_next places

    free : All (λ (v : ViaAt). v.held ≡ false) (take (next - to) (drop to all))
    free k d within =
        let v = of.each k d within in
        held (via_of all to) (get_or (take (next - to) (drop to all)) k d) (contains_of all to goes.0) v.0
        (on_layer (via_of all to) (get_or (take (next - to) (drop to all)) k d) ((via_of all (to - 1)).layer + 1) (via_of all to).layer (sym up.layer)
        (beside (via_of all from) (via_of all to) (get_or (take (next - to) (drop to all)) k d) ((via_of all (to - 1)).layer + 1) ((via_of all (to - 1)).layer + 1) up v.1))
        ∙ goes.1.free

-- at the end of a run its chains are the maximal ones that begin in it
pub run_done : (all : List ViaAt) (from to : ℕ) (paths : List (List ViaAt)) → IsSorted all → AreHeldAlike all → from < length all → IsStart all from → InRun all from to paths → (GoesOn all to → ⊥)
    → AreFrom all from to paths
run_done all from to paths sorted held in_from start in_run none = record {
  each = All-weaker (IsPath all first top) (IsChain all) (λ chain path. path_is_chain all held first top in_run.run (λ via has joined. start.alone in_from via has joined) above chain path) paths in_run.are.each;
  begin = All-weaker (IsPath all first top) (BeginsIn all from to) begin paths in_run.are.each;
  every = λ chain is begins. in_run.are.every chain (path chain is begins);
  in_order = in_run.are.in_order;
}
  where
    first : ViaAt
    first = via_of all from

    top : ℕ
    top = (via_of all (to - 1)).layer

    above : (below via : ViaAt) → LiesOn (via_of all from) (via_of all (to - 1)).layer below → Contains all via → IsJoined below via → ⊥
    above below via lies has joined =
        none_above all sorted held to (omega (arith, in_run.some)) in_run.within in_run.ends none below via
        (beside (via_of all from) (via_of all (to - 1)) below (via_of all (to - 1)).layer (via_of all (to - 1)).layer in_run.last lies) has joined

    begin : (chain : List ViaAt) → IsPath all (via_of all from) (via_of all (to - 1)).layer chain → BeginsIn all from to chain
    begin chain is =
        let p = place_of all (via_of chain 0) (is.within 0 _ is.some) in
        let w = in_run.firsts p.0 p.1 (subst (AreLevel (via_of all from)) (sym p.2) is.begins) in
        (p.0, w.0, w.1, sym p.2)

    path : (chain : List ViaAt) → IsChain all chain → BeginsIn all from to chain → IsPath all (via_of all from) (via_of all (to - 1)).layer chain
    path chain is begins =
        let w = in_run.inside begins.0 begins.1 begins.2 in
        let there : LiesOn (via_of all from) (via_of chain 0).layer (via_of chain 0) = subst (λ (v : ViaAt). LiesOn (via_of all from) v.layer v) (sym begins.3) w.0 in
        let low : (via_of all from).layer ≤ (via_of chain 0).layer = subst (λ (v : ViaAt). (via_of all from).layer ≤ v.layer) (sym begins.3) w.1 in
        let high : (via_of chain 0).layer ≤ (via_of all (to - 1)).layer = subst (λ (v : ViaAt). v.layer ≤ (via_of all (to - 1)).layer) (sym begins.3) w.2 in
        chain_is_path all held (via_of all from) (via_of all (to - 1)).layer in_run.run above chain is there low high

-- ---- all runs

-- chains that begin earlier come before
head_before : (all : List ViaAt) (from to : ℕ) (one other : List ViaAt) → IsSorted all → to ≤ length all → IsChain all one → IsChain all other → BeginsIn all 0 from one → BeginsIn all from to other → ComesBefore one other
head_before all from to one other sorted within one_is other_is one_in other_in = record {
  place = 0;
  in_one = one_is.some;
  in_other = other_is.some;
  alike = λ k d less. absurd (omega arith);
  less = λ d.
      let a : get_or one 0 d ≡ get_or all one_in.0 d = get_or_default one 0 d _ one_is.some ∙ one_in.3 ∙ get_or_default all one_in.0 _ d (omega (arith, one_in.2, other_in.1, other_in.2)) in
      let b : get_or other 0 d ≡ get_or all other_in.0 d = get_or_default other 0 d _ other_is.some ∙ other_in.3 ∙ get_or_default all other_in.0 _ d (omega (arith, other_in.2)) in
      rw (a, b) (sorted one_in.0 other_in.0 d (omega (arith, one_in.2, other_in.1)) (omega (arith, other_in.2)));
}

pub from_more : (all : List ViaAt) (from to : ℕ) (old more : List (List ViaAt)) → IsSorted all → from ≤ to → to ≤ length all → AreFrom all 0 from old → AreFrom all from to more → AreFrom all 0 to (old ++ more)
from_more all from to old more sorted upto within front back_ = record {
  each = All-append (IsChain all) old more front.each back_.each;
  begin = All-append (BeginsIn all 0 to) old more
      (All-weaker (BeginsIn all 0 from) (BeginsIn all 0 to) (λ chain w. (w.0, w.1, omega (arith, w.2), w.3)) old front.begin)
      (All-weaker (BeginsIn all from to) (BeginsIn all 0 to) (λ chain w. (w.0, omega arith, w.2, w.3)) more back_.begin);
  every = λ chain is begins. by_place chain is begins (cases_lt begins.0 from);
  in_order = AllPairs-append ComesBefore old more front.in_order back_.in_order
      (λ one other has_one has_other. head_before all from to one other sorted within (All-contains (IsChain all) old one front.each has_one) (All-contains (IsChain all) more other back_.each has_other)
      (All-contains (BeginsIn all 0 from) old one front.begin has_one) (All-contains (BeginsIn all from to) more other back_.begin has_other));
}
  where
    by_place : (chain : List ViaAt) → IsChain all chain → (w : BeginsIn all 0 to chain) → (w.0 < from) ⊎ (from ≤ w.0) → Contains (old ++ more) chain
    by_place chain is w (inl early) = Contains-append_left old more chain (front.every chain is (w.0, w.1, early, w.3))
    by_place chain is w (inr late) = Contains-append_right old more chain (back_.every chain is (w.0, late, w.2, w.3))

pub from_none : (all : List ViaAt) → AreFrom all 0 0 []
from_none all = record {
  each = λ k d within. absurd (omega arith);
  begin = λ k d within. absurd (omega arith);
  every = λ chain is w. absurd (omega (arith, w.2));
  in_order = λ i j d less within. absurd (omega arith);
}

chain_moved : (one other chain : List ViaAt) → ((v : ViaAt) → Contains one v → Contains other v) → ((v : ViaAt) → Contains other v → Contains one v) → IsChain one chain → IsChain other chain
chain_moved one other chain there back_ is = record {
  some = is.some;
  within = All-weaker (Contains one) (Contains other) there chain is.within;
  joined = is.joined;
  first = λ via d has joined. is.first via d (back_ via has) joined;
  last = λ via d has joined. is.last via d (back_ via has) joined;
}

-- the chains of vias in order are those of the vias
pub all_chains : (vias all : List ViaAt) (chains : List (List ViaAt)) (to : ℕ) → IsPermutation vias all → length all ≤ to → AreFrom all 0 to chains → AreChains vias chains
all_chains vias all chains to moved past are = record {
  each = All-weaker (IsChain all) (IsChain vias) (λ chain is. chain_moved all vias chain home away is) chains are.each;
  every = λ chain is.
      let of_all = chain_moved vias all chain away home is in
      let p = place_of all (via_of chain 0) (of_all.within 0 _ of_all.some) in
      are.every chain of_all (p.0, omega arith, omega (arith, p.1), sym p.2);
  in_order = are.in_order;
}
  where
    away : (v : ViaAt) → Contains vias v → Contains all v
    away v has = Contains-permutation vias all v moved has

    home : (v : ViaAt) → Contains all v → Contains vias v
    home v has = Contains-permutation all vias v (IsPermutation-sym vias all moved) has
