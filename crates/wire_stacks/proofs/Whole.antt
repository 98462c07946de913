-- The stacks of all vias, or the first that has an end on no piece.
use Rattle.std.proofs.Common.{◌≡◌, ℕ, ◌-◌, ◌<◌, pos, false, inl, inr, List, [], ◌∷◌, All, AllPairs, Contains, length, map, get_or, slice_get, Some, refl, sym, ◌∙◌, ap, subst, arith}
use Rattle.std.specs.List.Sorted.{IsPermutation}
use Rattle.std.specs.Option.{option_map}
use Rattle.std.specs.Ordering.{is_gt}
use Rattle.std.proofs.lemmas.List.{length-map, get_or-map}
use Rattle.std.proofs.lemmas.List.Elements.{All-contains, All-map, Contains-get_or}
use Rattle.std.proofs.lemmas.List.Sorted.{Contains-permutation, IsPermutation-sym}
use Rattle.std.proofs.lemmas.Option.{slice_get-get_or, slice_get-map, get_or_from_slice_get, slice_get_within}
use Rattle.grid_pieces.specs.declared.piece.Piece.{Piece}
use Rattle.grid_pieces.specs.declared.piece.StackAt.{StackAt}
use Rattle.lef_tech.specs.declared.tech.Tech.{Tech}
use Rattle.wire_chains.specs.declared.via.ViaAt.{ViaAt}
use Rattle.wire_chains.specs.Chain.{IsChain, AreChains}
use Rattle.wire_limits.specs.Vias.{HasItsLayers, EachUsedHas}
use Rattle.wire_names.specs.declared.record.NamedVia.{NamedVia}
use Rattle.wire_names.specs.declared.record.Spot.{Spot}
use Rattle.wire_names.specs.Keeping.{ViaStands, SpotStands}
use Rattle.wire_stacks.specs.declared.error.OffError.{OffError}
use Rattle.wire_stacks.specs.declared.error.OffError.TheVariants.{ViaOff, Want}
use Rattle.wire_stacks.specs.declared.made.Made.{Made}
use Rattle.wire_stacks.specs.Stacks.{Stacked, AreStacks, AreOff, HasEnds, IsEndOff, StackStands}
use Rattle.wire_stacks.specs.Vias.{AreViasAt}
use Rattle.wire_stacks.specs.inside.Ends.{IsFirstMadeOff, IsMadeOff}
use Rattle.wire_stacks.specs.inside.Made.{AreMade, IsMade, made_order, stacked_of}
use Rattle.wire_stacks.proofs.Chained.{layer_at, next_layer}
use Rattle.wire_stacks.proofs.Placing.{held_moved, placed_moved, there}
use Rattle.wire_stacks.proofs.Stacking.{made_at, are_stacked}

at_map : (chains : List (List ViaAt)) (ms : List Made) → map (λ (s : Stacked). s.at) (map (stacked_of chains) ms) ≡ map (λ (m : Made). m.at) ms
at_map chains [] = refl
at_map chains (m ∷ ms) = ap (λ z. m.at ∷ z) (at_map chains ms)

ends_moved : (pieces lines : List Piece) (at : StackAt) → IsPermutation pieces lines → HasEnds lines at → HasEnds pieces at
ends_moved pieces lines at moved ends = (
  (held_moved pieces lines at.net at.stack.from at.x at.y moved).0 ends.0,
  (held_moved pieces lines at.net at.stack.to at.x at.y moved).0 ends.1,
)

pub stacks_are : (tech : Tech) (vias : List NamedVia) (spots : List Spot) (pieces lines : List Piece) (placed : List ViaAt) (chains : List (List ViaAt))
    (made sorted : List Made) (stacks : List StackAt) → IsPermutation pieces lines → AreViasAt vias lines spots placed → AreChains placed chains
    → AreMade tech vias chains made → IsPermutation made sorted → AllPairs (λ (a b : Made). is_gt (made_order a b) ≡ false) sorted
    → All (λ (one : Made). HasEnds lines one.at) sorted → stacks ≡ map (λ (one : Made). one.at) sorted → AreStacks tech vias spots pieces stacks
stacks_are tech vias spots pieces lines placed chains made sorted stacks same placed_are chains_are made_are moved in_order ends is = record {
  stacked = map (stacked_of chains) sorted;
  are_stacked = are_stacked tech vias spots pieces placed chains made sorted (placed_moved vias pieces lines spots placed same placed_are) chains_are made_are moved in_order;
  are = is ∙ sym (at_map chains sorted);
  ends = subst (All (HasEnds pieces)) (sym is) (All-map (HasEnds pieces) (λ (one : Made). one.at) sorted
      (λ k d within. ends_moved pieces lines (get_or sorted k d).at same (ends k d within)));
}

of_sorted : (tech : Tech) (vias : List NamedVia) (chains : List (List ViaAt)) (made sorted : List Made) (one : Made) → AreMade tech vias chains made
    → IsPermutation made sorted → Contains sorted one → (one.number < length chains) × IsMade tech vias (get_or chains one.number []) one.number one
of_sorted tech vias chains made sorted one are moved has =
    made_at tech vias chains made one are (Contains-permutation sorted made one (IsPermutation-sym made sorted moved) has)

off_moved : (tech : Tech) (vias : List NamedVia) (chains : List (List ViaAt)) (pieces lines : List Piece) (one : Made) (via : ℕ) → IsPermutation pieces lines
    → IsMade tech vias (get_or chains one.number []) one.number one → IsMadeOff lines one via → IsEndOff pieces (stacked_of chains one) via
off_moved tech vias chains pieces lines one via same is (inl (none, low)) = inl (
  λ held. none ((held_moved pieces lines one.at.net one.at.stack.from one.at.x one.at.y same).1 held),
  λ d. is.low d ∙ low,
)
off_moved tech vias chains pieces lines one via same is (inr (held, none, high)) = inr (
  (held_moved pieces lines one.at.net one.at.stack.from one.at.x one.at.y same).0 held,
  λ on. none ((held_moved pieces lines one.at.net one.at.stack.to one.at.x one.at.y same).1 on),
  λ d. is.high d ∙ high,
)

stands_at : {X : Type 0} (xs : List X) (k : ℕ) (x : X) → slice_get xs k ≡ Some x → Contains xs x
stands_at xs k x at = (k, slice_get_within xs k x at, get_or_from_slice_get xs k x x at)

pub stacks_off : (tech : Tech) (vias : List NamedVia) (spots : List Spot) (pieces lines : List Piece) (placed : List ViaAt) (chains : List (List ViaAt))
    (made sorted : List Made) (e : OffError) → IsPermutation pieces lines → AreViasAt vias lines spots placed → AreChains placed chains
    → AreMade tech vias chains made → IsPermutation made sorted → AllPairs (λ (a b : Made). is_gt (made_order a b) ≡ false) sorted
    → IsFirstMadeOff lines sorted e → AreOff tech vias spots pieces e
stacks_off tech vias spots pieces lines placed chains made sorted Want same placed_are chains_are made_are moved in_order off = tt
stacks_off tech vias spots pieces lines placed chains made sorted (ViaOff via x y) same placed_are chains_are made_are moved in_order off = record {
  stacked = map (stacked_of chains) sorted;
  are_stacked = are_stacked tech vias spots pieces placed chains made sorted (placed_moved vias pieces lines spots placed same placed_are) chains_are made_are moved in_order;
  number = off.number;
  one = stacked_of chains off.one;
  stands = slice_get-map (stacked_of chains) sorted off.number ∙ ap (option_map (stacked_of chains)) off.stands;
  off = off_moved tech vias chains pieces lines off.one via same
      (of_sorted tech vias chains made sorted off.one made_are moved (stands_at sorted off.number off.one off.stands)).1 off.off;
  at_x = off.at_x;
  at_y = off.at_y;
  before = λ k other low at. before k other low at sorted refl;
}
  where
    before : (k : ℕ) (other : Stacked) → k < off.number → slice_get (map (stacked_of chains) sorted) k ≡ Some other → (ms : List Made) → ms ≡ sorted
        → HasEnds pieces other.at
    before k other low at [] none =
        let within = slice_get_within (map (stacked_of chains) sorted) k other at in absurd (omega (arith, length-map sorted (stacked_of chains), ap length none))
    before k other low at (m ∷ ms) some =
        let within = slice_get_within (map (stacked_of chains) sorted) k other at in
        let inside : k < length sorted = omega (arith, length-map sorted (stacked_of chains)) in
        let is : stacked_of chains (get_or sorted k m) ≡ other =
        sym (get_or-map (stacked_of chains) sorted k m other inside) ∙ get_or_from_slice_get (map (stacked_of chains) sorted) k other other at in
        subst (λ (s : Stacked). HasEnds pieces s.at) is
        (ends_moved pieces lines (get_or sorted k m).at same (off.before k (get_or sorted k m) low (slice_get-get_or sorted k m inside)))

-- ## what a stack keeps

one_stands : (tech : Tech) (vias : List NamedVia) (lines : List Piece) (spots : List Spot) (placed chain : List ViaAt) (number : ℕ) (one : Made)
    → All (ViaStands (length tech.routing) (length tech.cuts) (length tech.rules)) vias → All (SpotStands (length vias)) spots
    → EachUsedHas (HasItsLayers tech) vias spots → AreViasAt vias lines spots placed → IsChain placed chain → IsMade tech vias chain number one
    → (d : ViaAt) → StackStands tech one.at
one_stands tech vias lines spots placed chain number one stand on layers are is made d =
    let some = is.some in
    let first = get_or chain 0 d in
    let last = get_or chain (length chain - 1) d in
    let from = there vias lines spots placed first are (is.within 0 d some) in
    let spot_stands = All-contains (SpotStands (length vias)) spots from.1 on from.2 in
    let net_is : one.at.net ≡ from.1.net = sym (made.stack.begins.net d) ∙ from.3.net in
    let from_is = made.stack.begins.layer d in
    let last_in : length chain - 1 < length chain = omega arith in
    let up = layer_at placed chain d (length chain - 1) is last_in in
    let top = next_layer tech (length tech.routing) (length tech.cuts) (length tech.rules) vias lines spots placed last stand on layers are
    (is.within (length chain - 1) d last_in) in
    let to_is = made.stack.ends in
    let arrays_many : length one.at.stack.arrays ≡ length chain = ap length made.stack.arrays ∙ length-map chain _ in
    let ohms_many = made.stack.as_many in
    record {
      net = subst (λ n. n < 2) (sym net_is) spot_stands.net;
      rising = omega arith;
      layers = omega (arith, up, top, from_is, to_is);
      arrays = omega (arith, arrays_many, to_is);
      ohms = omega (arith, ohms_many, to_is);
      upright = made.upright;
    }

pub stacks_stand : (tech : Tech) (vias : List NamedVia) (spots : List Spot) (lines : List Piece) (placed : List ViaAt) (chains : List (List ViaAt))
    (made sorted : List Made) (stacks : List StackAt)
    → All (ViaStands (length tech.routing) (length tech.cuts) (length tech.rules)) vias → All (SpotStands (length vias)) spots
    → EachUsedHas (HasItsLayers tech) vias spots → AreViasAt vias lines spots placed → AreChains placed chains
    → AreMade tech vias chains made → IsPermutation made sorted → stacks ≡ map (λ (one : Made). one.at) sorted → All (StackStands tech) stacks
stacks_stand tech vias spots lines placed chains made sorted stacks stand on layers are chains_are made_are moved is =
    subst (All (StackStands tech)) (sym is) (All-map (StackStands tech) (λ (one : Made). one.at) sorted (λ k d within.
    let at = of_sorted tech vias chains made sorted (get_or sorted k d) made_are moved (Contains-get_or sorted k d within) in
    one_stands tech vias lines spots placed (get_or chains (get_or sorted k d).number []) (get_or sorted k d).number (get_or sorted k d) stand on layers are
    (chains_are.each (get_or sorted k d).number [] at.0) at.1 no_via))
  where
    no_via : ViaAt
    no_via = record { net = 0; x = pos 0; y = pos 0; layer = 0; held = false; via = 0; number = 0 }
