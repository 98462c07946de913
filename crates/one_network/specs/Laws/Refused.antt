-- The network of one drawing is refused in one way.
use Rattle.std.proofs.Common.{◌≡◌, inl, inr, ℕ, ◌<◌, ◌||◌, min, max, Bool, true, false, cond, true≢false, leb, pos, List, [], ◌∷◌, map, length, get_or, refl, sym, ap, ◌∙◌, arith}
use Rattle.std.specs.Prelude.{Option, Some, None}
use Rattle.std.specs.List.{position}
use Rattle.std.specs.Option.{option_map, unwrap_or}
use Rattle.std.proofs.lemmas.Bool.{lt-leb}
use Rattle.std.proofs.lemmas.List.{get_or-map, length-map}
use Rattle.std.proofs.lemmas.List.Quantifiers.{position-Some}
use Rattle.std.proofs.lemmas.Option.{same_Some}
use Rattle.lef_tech.specs.declared.tech.Tech.{Tech}
use Rattle.grid_net.specs.declared.part.Resistor.{Resistor}
use Rattle.grid_net.specs.declared.part.Pad.{Pad}
use Rattle.grid_net.specs.declared.part.Load.{Load}
use Rattle.grid_net.specs.declared.error.NetError.{NetError}
use Rattle.grid_net.specs.declared.error.NetError.TheVariants.{BadEnd, Range}
use Rattle.grid_net.specs.declared.error.Quantity.TheVariants.{Nodes}
use Rattle.grid_net.specs.Building.{first_net_refusal, first_bad_end, first_beyond_limit, first_conflict}
use Rattle.grid_net.specs.Laws.Search.{none_both}
use Rattle.grid_net.specs.Limits.{most_nodes}
use Rattle.grid_net.specs.Search.{or_else}
use Rattle.grid_network.specs.declared.error.ExtractError.TheVariants.{Net as OfNet}
use Rattle.grid_network.specs.declared.key.Key.{Key}
use Rattle.grid_network.specs.declared.segment.Segment.{Segment}
use Rattle.grid_network.specs.Drawing.{Drawing, key_at}
use Rattle.grid_network.specs.Laws.OneList.{keys_one, segments_one, as_many}
use Rattle.grid_network.specs.Laws.Unique.{both_ways}
use Rattle.grid_network.specs.Network.{IsRefused, HasTooManyNodes, MakesNoNet, resistors_of, pads_of, loads_of}
use Rattle.grid_network.specs.Nodes.{IsNode, same_key, number_of}
use Rattle.grid_network.specs.Segments.{resistor_of}

-- ## the refusals

many_many : (d : Drawing) (a b : NetError) → HasTooManyNodes d a → HasTooManyNodes d b → a ≡ b
many_many d a b p q =
    let count = as_many p.keys q.keys p.once q.once (both_ways (IsNode d) p.keys q.keys p.all q.all) in
    p.is ∙ ap (λ n. Range Nodes 0 (pos n)) count ∙ sym q.is

made_made : (d : Drawing) (tech : Tech) (a b : NetError) → MakesNoNet d tech a → MakesNoNet d tech b → a ≡ b
made_made d tech a b p q =
    let k = keys_one d (length tech.routing) p.keys q.keys p.nodes q.nodes in
    let s = segments_one d tech p.keys q.keys p.segments q.segments k p.all_segments q.all_segments in
    let same : first_net_refusal (length p.keys) (resistors_of p.keys p.segments) (pads_of d p.keys) (loads_of d p.keys)
    ≡ first_net_refusal (length q.keys) (resistors_of q.keys q.segments) (pads_of d q.keys) (loads_of d q.keys) =
    λ i. first_net_refusal (length (k i)) (resistors_of (k i) (s i)) (pads_of d (k i)) (loads_of d (k i)) in
    same_Some a b (sym p.refused ∙ same ∙ q.refused)

-- The number of a point is one of the nodes' numbers, where there is a node: that of a point that is no node is 0.
number_below : (keys : List Key) (key : Key) → 0 < length keys → number_of keys key < length keys
number_below keys key some = by (position (same_key key) keys) refl
  where
    by : (o : Option ℕ) → position (same_key key) keys ≡ o → number_of keys key < length keys
    by None e = let q : number_of keys key ≡ 0 = ap (λ z. unwrap_or z 0) e in omega (arith, q, some)
    by (Some i) e =
        let q : number_of keys key ≡ i = ap (λ z. unwrap_or z 0) e in
        let within : i < length keys = (position-Some (same_key key) keys i key e).0 in
        omega (arith, q, within)

passes_none : {X : Type 0} (p : X → Bool) (xs : List X) (d : X) → ((k : ℕ) → k < length xs → p (get_or xs k d) ≡ false) → position p xs ≡ None
passes_none {X} p xs d fails = by (position p xs) refl
  where
    by : (o : Option ℕ) → position p xs ≡ o → position p xs ≡ None
    by None e = e
    by (Some i) e = let h = position-Some p xs i d e in absurd (true≢false (sym h.1 ∙ fails i h.0))

mapped_none : {X Y : Type 0} (f : X → Y) (p : Y → Bool) (xs : List X) → ((x : X) → p (f x) ≡ false) → position p (map f xs) ≡ None
mapped_none f p [] fails = refl
mapped_none f p (x ∷ xs) fails =
    passes_none p (map f (x ∷ xs)) (f x) (λ k within.
    let b : k < length (x ∷ xs) = omega (arith, within, length-map (x ∷ xs) f) in
    ap p (get_or-map f (x ∷ xs) k x (f x) b) ∙ fails (get_or (x ∷ xs) k x))

both_below : (n i j : ℕ) → i < n → j < n → (leb n (min i j) || leb n (max i j)) ≡ false
both_below n i j h k =
    ap (λ b. b || leb n (max i j)) (lt-leb n (min i j) (omega arith)) ∙ lt-leb n (max i j) (omega arith)

-- where there is a node no entry names another
no_bad_end : (d : Drawing) (keys : List Key) (segments : List Segment) → 0 < length keys
    → first_bad_end (length keys) (resistors_of keys segments) (pads_of d keys) (loads_of d keys) ≡ None
no_bad_end d keys segments some =
    none_both resistors (or_else pads loads) no_resistor (none_both pads loads no_pad no_load)
  where
    resistors : Option ℕ
    resistors = position (λ r. leb (length keys) r.a || leb (length keys) r.b) (resistors_of keys segments)

    pads : Option ℕ
    pads = position (λ p. leb (length keys) p.node) (pads_of d keys)

    loads : Option ℕ
    loads = position (λ l. leb (length keys) l.node) (loads_of d keys)

    no_resistor : position (λ (r : Resistor). leb (length keys) r.a || leb (length keys) r.b) (resistors_of keys segments) ≡ None
    no_resistor =
        mapped_none (resistor_of keys) (λ (r : Resistor). leb (length keys) r.a || leb (length keys) r.b) segments
        (λ s. both_below (length keys) (number_of keys s.first) (number_of keys s.second) (number_below keys s.first some) (number_below keys s.second some))

    no_pad : position (λ (p : Pad). leb (length keys) p.node) (pads_of d keys) ≡ None
    no_pad = mapped_none _ (λ (p : Pad). leb (length keys) p.node) d.pads (λ p. lt-leb (length keys) _ (number_below keys (key_at d.grid.pieces p.piece p.along) some))

    no_load : position (λ (l : Load). leb (length keys) l.node) (loads_of d keys) ≡ None
    no_load = mapped_none _ (λ (l : Load). leb (length keys) l.node) d.taps (λ t. lt-leb (length keys) _ (number_below keys (key_at d.grid.pieces t.piece t.along) some))

-- so the count of nodes is the first to be refused
first_quantity : (few : Bool) → few ≡ false → (count : NetError) (others conflict : Option NetError)
    → or_else (or_else (cond few None (Some count)) others) conflict ≡ Some count
first_quantity false e count others conflict = refl
first_quantity true e count others conflict = absurd (true≢false e)

count_first : (nodes : ℕ) (resistors : List Resistor) (pads : List Pad) (loads : List Load) → most_nodes < nodes
    → first_bad_end nodes resistors pads loads ≡ None → first_net_refusal nodes resistors pads loads ≡ Some (Range Nodes 0 (pos nodes))
count_first nodes resistors pads loads many none =
    ap (λ o. or_else (option_map (λ at. BadEnd at) o) (or_else (first_beyond_limit nodes resistors pads loads) (first_conflict pads))) none
    ∙ first_quantity (leb nodes most_nodes) (lt-leb nodes most_nodes many) (Range Nodes 0 (pos nodes)) _ (first_conflict pads)

many_made : (d : Drawing) (tech : Tech) (a b : NetError) → HasTooManyNodes d a → MakesNoNet d tech b → a ≡ b
many_made d tech a b p q =
    let count = as_many p.keys q.keys p.once q.nodes.once (both_ways (IsNode d) p.keys q.keys p.all q.nodes.all) in
    let more = p.many in
    let many : most_nodes < length q.keys = omega (arith, more, count) in
    let none = no_bad_end d q.keys q.segments (omega (arith, many)) in
    p.is ∙ ap (λ n. Range Nodes 0 (pos n)) count
    ∙ same_Some (Range Nodes 0 (pos (length q.keys))) b
    (sym (count_first (length q.keys) (resistors_of q.keys q.segments) (pads_of d q.keys) (loads_of d q.keys) many none) ∙ q.refused)

pub net_refusal_one : (d : Drawing) (tech : Tech) (a b : NetError) → IsRefused d tech (OfNet a) → IsRefused d tech (OfNet b) → a ≡ b
net_refusal_one d tech a b (inl p) (inl q) = many_many d a b p q
net_refusal_one d tech a b (inl p) (inr q) = many_made d tech a b p q
net_refusal_one d tech a b (inr p) (inl q) = sym (many_made d tech b a q p)
net_refusal_one d tech a b (inr p) (inr q) = made_made d tech a b p q
