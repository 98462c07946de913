-- Stacks that are made of chains, after they were put in order.
use Rattle.std.proofs.Common.{◌≡◌, ◌≢◌, ℕ, ◌<◌, false, inl, inr, List, [], ◌∷◌, AllPairs, Contains, length, map, get_or, Some, refl, sym, ◌∙◌, ap, subst, arith}
use Rattle.std.specs.declared.cmp.Ordering.{Ordering}
use Rattle.std.specs.declared.cmp.Ordering.TheVariants.{Less, Equal, Greater}
use Rattle.std.specs.List.Sorted.{IsPermutation}
use Rattle.std.specs.Ordering.{nat_cmp, ordering_then, is_lt, is_gt, MatchOrdering}
use Rattle.std.proofs.lemmas.Bool.{true≢false}
use Rattle.std.proofs.lemmas.Cmp.{ranked}
use Rattle.std.proofs.lemmas.List.{length-map, get_or-map}
use Rattle.std.proofs.lemmas.List.Elements.{All-map, Contains-get_or}
use Rattle.std.proofs.lemmas.List.Sorted.{Contains-permutation, IsPermutation-sym}
use Rattle.std.proofs.lemmas.Option.{slice_get-get_or, get_or_from_slice_get}
use Rattle.grid_pieces.specs.declared.piece.Piece.{Piece}
use Rattle.list_laws.specs.Laws.Permuted.{apart_permuted}
use Rattle.grid_pieces.specs.Piece.{Among}
use Rattle.lef_tech.specs.declared.tech.Tech.{Tech}
use Rattle.wire_chains.specs.declared.via.ViaAt.{ViaAt}
use Rattle.wire_chains.specs.Chain.{IsChain, AreChains, ComesBefore}
use Rattle.wire_names.specs.declared.record.NamedVia.{NamedVia}
use Rattle.wire_names.specs.declared.record.Spot.{Spot}
use Rattle.wire_stacks.specs.declared.made.Made.{Made}
use Rattle.wire_stacks.specs.Stacks.{Stacked, AreStacked, IsStackOf, GoesBefore, stack_order}
use Rattle.wire_stacks.specs.Vias.{AreViasAt}
use Rattle.wire_stacks.specs.inside.Made.{AreMade, IsMade, made_order, stacked_of}

-- What was made of the chain at its number.
pub made_at : (tech : Tech) (vias : List NamedVia) (chains : List (List ViaAt)) (made : List Made) (one : Made) → AreMade tech vias chains made
    → Contains made one → (one.number < length chains) × IsMade tech vias (get_or chains one.number []) one.number one
made_at tech vias chains made one are (k, within, is) =
    let there = are.each k (get_or chains k []) one (slice_get-get_or chains k [] (omega (arith, are.as_many))) (slice_get-get_or made k one within ∙ ap Some is) in
    let same = there.is_number in (
      omega (arith, are.as_many),
      subst (λ n. IsMade tech vias (get_or chains n []) n one) (sym same) there,
    )

apart : (tech : Tech) (vias : List NamedVia) (chains : List (List ViaAt)) (made : List Made) → AreMade tech vias chains made
    → AllPairs (λ (a b : Made). a.number ≢ b.number) made
apart tech vias chains made are i j d less within same =
    let first = (are.each i (get_or chains i []) (get_or made i d) (slice_get-get_or chains i [] (omega (arith, are.as_many))) (slice_get-get_or made i d (omega arith))).is_number in
    let second = (are.each j (get_or chains j []) (get_or made j d) (slice_get-get_or chains j [] (omega (arith, are.as_many))) (slice_get-get_or made j d within)).is_number in
    omega (arith, first, second, same)

-- Of two in order one goes before the other.
goes : (chains : List (List ViaAt)) (a b : Made) → AllPairs ComesBefore chains → a.number < length chains → b.number < length chains
    → a.number ≢ b.number → is_gt (made_order a b) ≡ false → GoesBefore (stacked_of chains a) (stacked_of chains b)
goes chains a b rising in_a in_b other low = by (stack_order a.at b.at) refl low
  where
    by_number : (r : Ordering) → MatchOrdering r (a.number < b.number) (a.number ≡ b.number) (b.number < a.number) → is_gt r ≡ false
        → ComesBefore (get_or chains a.number []) (get_or chains b.number [])
    by_number Less less l = rising a.number b.number [] less in_b
    by_number Equal same l = absurd (other same)
    by_number Greater more l = absurd (true≢false l)

    by : (r : Ordering) → stack_order a.at b.at ≡ r → is_gt (ordering_then r (nat_cmp a.number b.number)) ≡ false
        → GoesBefore (stacked_of chains a) (stacked_of chains b)
    by Less is l = inl (ap is_lt is)
    by Equal is l = inr (is, by_number (nat_cmp a.number b.number) (ranked a.number b.number (nat_cmp a.number b.number) refl) l)
    by Greater is l = absurd (true≢false l)

pub are_stacked : (tech : Tech) (vias : List NamedVia) (spots : List Spot) (pieces : List Piece) (placed : List ViaAt) (chains : List (List ViaAt))
    (made sorted : List Made) → AreViasAt vias pieces spots placed → AreChains placed chains → AreMade tech vias chains made → IsPermutation made sorted
    → AllPairs (λ (a b : Made). is_gt (made_order a b) ≡ false) sorted → AreStacked tech vias spots pieces (map (stacked_of chains) sorted)
are_stacked tech vias spots pieces placed chains made sorted placed_are chains_are made_are moved in_order = record {
  placed = placed;
  are_placed = placed_are;
  each = All-map (λ (s : Stacked). IsChain placed s.chain) (stacked_of chains) sorted
      (λ k d within. let at = of_sorted (get_or sorted k d) (Contains-get_or sorted k d within) in chains_are.each (get_or sorted k d).number [] at.0);
  stacks = All-map (λ (s : Stacked). IsStackOf tech vias s.chain s.at) (stacked_of chains) sorted
      (λ k d within. (of_sorted (get_or sorted k d) (Contains-get_or sorted k d within)).1.stack);
  every = λ chain is. found chain (chains_are.every chain is);
  in_order = λ i j d less within. ordered i j d less within;
}
  where
    of_sorted : (one : Made) → Contains sorted one → (one.number < length chains) × IsMade tech vias (get_or chains one.number []) one.number one
    of_sorted one has = made_at tech vias chains made one made_are (Contains-permutation sorted made one (IsPermutation-sym made sorted moved) has)

    found_at : (chain : List ViaAt) (k : ℕ) → k < length chains → get_or chains k chain ≡ chain → (d : Made) → get_or made k d ≡ get_or made k d
        → Among (λ (s : Stacked). s.chain ≡ chain) (map (stacked_of chains) sorted)
    found_at chain k within is d same =
        let low : k < length made = omega (arith, made_are.as_many) in
        let one = get_or made k d in
        let number = (made_are.each k chain one (slice_get-get_or chains k chain within ∙ ap Some is) (slice_get-get_or made k d low)).is_number in
        let has = Contains-permutation made sorted one moved (Contains-get_or made k d low) in
        let default : get_or chains one.number [] ≡ chain = ap (λ n. get_or chains n []) number ∙ get_or_from_slice_get chains k chain [] (slice_get-get_or chains k chain within ∙ ap Some is) in
        (stacked_of chains one, contained has, default)
      where
        contained : {one : Made} → Contains sorted one → Contains (map (stacked_of chains) sorted) (stacked_of chains one)
        contained {one} (j, inside, there) = (
          j,
          omega (arith, length-map sorted (stacked_of chains)),
          get_or-map (stacked_of chains) sorted j one (stacked_of chains one) inside ∙ ap (stacked_of chains) there,
        )

    found : (chain : List ViaAt) → Contains chains chain → Among (λ (s : Stacked). s.chain ≡ chain) (map (stacked_of chains) sorted)
    found chain (k, within, is) = by_list made refl
      where
        by_list : (ms : List Made) → ms ≡ made → Among (λ (s : Stacked). s.chain ≡ chain) (map (stacked_of chains) sorted)
        by_list [] none = absurd (omega (arith, made_are.as_many, ap length none))
        by_list (m ∷ ms) some = found_at chain k within is m refl

    numbers_apart : AllPairs (λ (a b : Made). a.number ≢ b.number) sorted
    numbers_apart = apart_permuted (λ (a b : Made). a.number ≢ b.number) (λ a b other same. other (sym same)) made sorted moved (apart tech vias chains made made_are)

    ordered : (i j : ℕ) (d : Stacked) → i < j → j < length (map (stacked_of chains) sorted)
        → GoesBefore (get_or (map (stacked_of chains) sorted) i d) (get_or (map (stacked_of chains) sorted) j d)
    ordered i j d less within = with_default (get_or sorted) refl
      where
        inside : j < length sorted
        inside = omega (arith, length-map sorted (stacked_of chains))

        with_default : (read : ℕ → Made → Made) → read ≡ get_or sorted → GoesBefore (get_or (map (stacked_of chains) sorted) i d) (get_or (map (stacked_of chains) sorted) j d)
        with_default read same = pick sorted refl
          where
            pick : (ss : List Made) → ss ≡ sorted → GoesBefore (get_or (map (stacked_of chains) sorted) i d) (get_or (map (stacked_of chains) sorted) j d)
            pick [] none = absurd (omega (arith, inside, ap length none))
            pick (m ∷ ms) some =
                let at_i = of_sorted (get_or sorted i m) (Contains-get_or sorted i m (omega (arith, inside))) in
                let at_j = of_sorted (get_or sorted j m) (Contains-get_or sorted j m inside) in
                let before = goes chains (get_or sorted i m) (get_or sorted j m) chains_are.in_order at_i.0 at_j.0 (numbers_apart i j m less inside) (in_order i j m less inside) in
                subst (λ a. GoesBefore a (get_or (map (stacked_of chains) sorted) j d)) (sym (get_or-map (stacked_of chains) sorted i m d (omega (arith, inside))))
                (subst (λ b. GoesBefore (stacked_of chains (get_or sorted i m)) b) (sym (get_or-map (stacked_of chains) sorted j m d inside)) before)
