-- The pads of one node are of one net, whose supply has one potential: no two pads conflict.
use Rattle.std.proofs.Common.{◌≡◌, ◌⊎◌, inl, inr, ℕ, ◌<◌, ◌≤◌, ◌==◌, ◌&&◌, Bool, true, false, cond, leb, ltb, ℤ, pos, Option, Some, None, List, [], ◌∷◌, length, get_or, map, All, Contains, refl, sym, ap, ◌∙◌, subst, arith}
use Rattle.std.specs.List.{position, position_or_len}
use Rattle.std.specs.Option.{option_map, unwrap_or}
use Rattle.std.specs.Ordering.{int_eq}
use Rattle.std.proofs.lemmas.Bool.{false≢true, cases_lt, and_parts, and_from}
use Rattle.std.proofs.lemmas.Bool.Decides.{nat_tests, Decides-eqb, Decides-int_eq}
use Rattle.std.proofs.lemmas.List.{get_or_default, get_or-map, length-map}
use Rattle.std.proofs.lemmas.List.Elements.{All-map, All-head, All-tail, Contains-get_or}
use Rattle.std.proofs.lemmas.List.Quantifiers.{position-Some}
use Rattle.std.proofs.lemmas.List.Sums.{fails_before_first}
use Rattle.geom_rect.specs.declared.direction.Axis.{Axis}
use Rattle.geom_rect.specs.declared.direction.Axis.TheVariants.{X, Y}
use Rattle.geom_rect.specs.declared.drawn.Shape.TheVariants.{Stripe}
use Rattle.lef_tech.specs.declared.tech.Tech.{Tech}
use Rattle.bias_file.specs.declared.record.Bias.{Bias}
use Rattle.bias_file.specs.declared.record.Supply.{Supply}
use Rattle.bias_file.specs.declared.record.PadAt.{PadAt}
use Rattle.bias_file.specs.Limits.{BiasKeeps}
use Rattle.grid_pieces.specs.declared.grid.Grid.{Grid}
use Rattle.grid_pieces.specs.declared.piece.Piece.{Piece}
use Rattle.grid_net.specs.declared.part.Resistor.{Resistor}
use Rattle.grid_net.specs.declared.part.Pad.{Pad}
use Rattle.grid_net.specs.declared.part.Load.{Load}
use Rattle.grid_net.specs.declared.error.Quantity.{Quantity}
use Rattle.grid_net.specs.declared.error.Quantity.TheVariants.{Nodes, Resistors, Resistance, Voltage, Loads}
use Rattle.grid_net.specs.declared.error.NetError.{NetError}
use Rattle.grid_net.specs.declared.error.NetError.TheVariants.{BadEnd, Range, PadConflict}
use Rattle.grid_net.specs.Adding.{given_load}
use Rattle.grid_net.specs.Building.{first_net_refusal, first_bad_end, first_beyond_limit, first_conflict, unless_at_most, first_unfit, resistance_fits, voltage_fits, conflict_with}
use Rattle.grid_net.specs.Laws.Pads.{first_is_of_list}
use Rattle.grid_net.specs.Limits.{most_nodes, most_resistors, greatest_load}
use Rattle.grid_net.specs.Network.{first_pad}
use Rattle.grid_net.specs.Search.{or_else, first_of}
use Rattle.grid_network.specs.declared.error.ExtractError.TheVariants.{Net as OfNet}
use Rattle.grid_network.specs.declared.key.Key.{Key}
use Rattle.grid_network.specs.declared.pad.PadOn.{PadOn}
use Rattle.grid_network.specs.declared.pad.Tap.{Tap}
use Rattle.grid_network.specs.Drawing.{piece_at, key_along, key_at}
use Rattle.grid_network.specs.Listing.{ListsAll}
use Rattle.grid_network.specs.Network.{pads_of, IsRefused}
use Rattle.grid_network.specs.Nodes.{IsNode, number_of, same_key}
use Rattle.grid_taps.specs.Naming.{At}
use Rattle.grid_taps.specs.Pads.{IsSupply, IsPadOn, AreOnPieces, ArePads}
use Rattle.grid_extract.specs.Extraction.{drawing_of}
use Rattle.grid_extract.specs.Laws.OnPieces.{all_in_order}

-- ## a supply has one potential, and a node one net

one_potential : (bias : Bias) → BiasKeeps bias → (net : List ℕ) (v w : ℤ) → IsSupply bias net v → IsSupply bias net w → v ≡ w
one_potential bias keeps net v w (s, (k, k_in, k_is), (s_net, s_volts)) (t, (l, l_in, l_is), (t_net, t_volts)) = by_order (cases_lt k l) (cases_lt l k)
  where
    nets : List (List ℕ)
    nets = map (λ (z : Supply). z.net) bias.supplies

    named : (n : ℕ) (z : Supply) → n < length bias.supplies → get_or bias.supplies n z ≡ z → z.net ≡ net → get_or (map (λ (z : Supply). z.net) bias.supplies) n net ≡ net
    named n z within is is_net = get_or-map (λ (z : Supply). z.net) bias.supplies n z net within ∙ ap (λ (z : Supply). z.net) is ∙ is_net

    counted : length (map (λ (z : Supply). z.net) bias.supplies) ≡ length bias.supplies
    counted = length-map bias.supplies (λ (z : Supply). z.net)

    by_order : (k < l) ⊎ (l ≤ k) → (l < k) ⊎ (k ≤ l) → v ≡ w
    by_order (inl less) _ = absurd (keeps.supplied_nets k l net less (omega (arith, counted)) (named k s k_in k_is s_net ∙ sym (named l t l_in l_is t_net)))
    by_order (inr _) (inl less) = absurd (keeps.supplied_nets l k net less (omega (arith, counted)) (named l t l_in l_is t_net ∙ sym (named k s k_in k_is s_net)))
    by_order (inr over) (inr under) =
        let same : k ≡ l = omega arith in
        let one : s ≡ t = sym k_is ∙ get_or_default bias.supplies k s t k_in ∙ ap (λ n. get_or bias.supplies n t) same ∙ l_is in
        sym s_volts ∙ ap (λ (z : Supply). z.volts) one ∙ t_volts

-- two points are one, by their net
of_one_net : (a b : Key) → same_key a b ≡ true → a.net ≡ b.net
of_one_net a b h =
    let three = and_parts ((a.net == b.net) && (a.layer == b.layer) && int_eq a.x b.x) (int_eq a.y b.y) h in
    let two = and_parts ((a.net == b.net) && (a.layer == b.layer)) (int_eq a.x b.x) three.0 in
    let one = and_parts (a.net == b.net) (a.layer == b.layer) two.0 in
    (Decides-eqb a.net b.net).0 one.0

itself : (a : Key) → same_key a a ≡ true
itself a =
    and_from ((a.net == a.net) && (a.layer == a.layer) && int_eq a.x a.x) (int_eq a.y a.y)
    (and_from ((a.net == a.net) && (a.layer == a.layer)) (int_eq a.x a.x)
    (and_from (a.net == a.net) (a.layer == a.layer) ((Decides-eqb a.net a.net).1 refl) ((Decides-eqb a.layer a.layer).1 refl)) ((Decides-int_eq a.x a.x).1 refl))
    ((Decides-int_eq a.y a.y).1 refl)

is_below : (n m : ℕ) → n < m → ltb n m ≡ true
is_below n m h = grind (arith, nat_tests)

-- what passes a test has a first place
no_first : {X : Type 0} (p : X → Bool) (xs : List X) (k : ℕ) (d : X) → k < length xs → p (get_or xs k d) ≡ true → position p xs ≡ None → ⊥
no_first {X} p xs k d within passes none = by (cases_lt k (position_or_len p xs))
  where
    by : (k < position_or_len p xs) ⊎ (position_or_len p xs ≤ k) → ⊥
    by (inl before) = false≢true (sym (fails_before_first p xs k d before) ∙ passes)
    by (inr after) =
        let found : ◌≡◌ {A = Option ℕ} (Some (position_or_len p xs)) None =
        sym (ap (λ b. cond b (Some (position_or_len p xs)) None) (is_below (position_or_len p xs) (length xs) (omega arith))) ∙ none in
        absurd (cc)

net_of_number : (keys : List Key) (key d : Key) → Contains keys key → (get_or keys (number_of keys key) d).net ≡ key.net
net_of_number keys key d (k, within, is) = by (position (same_key key) keys) refl
  where
    by : (o : Option ℕ) → position (same_key key) keys ≡ o → (get_or keys (number_of keys key) d).net ≡ key.net
    by None e = absurd (no_first (same_key key) keys k key within (subst (λ (z : Key). same_key key z ≡ true) (sym is) (itself key)) e)
    by (Some i) e = subst (λ (o : Option ℕ). (get_or keys (unwrap_or o 0) d).net ≡ key.net) (sym e)
        (sym (of_one_net key (get_or keys i d) (position-Some (same_key key) keys i d e).1))

net_along : (axis : Axis) (net layer : ℕ) (across along : ℤ) → (key_along axis net layer across along).net ≡ net
net_along X net layer across along = refl
net_along Y net layer across along = refl

-- ## pads that stand

-- A pad stands on a piece of a net, with the potential of the net's supply.
record IsOfNet (grid : Grid) (bias : Bias) (on : PadOn) : Type 0 where
  within : on.piece < length grid.pieces
  name : List ℕ
  net : At grid.nets (piece_at grid.pieces on.piece).net name
  volts : IsSupply bias name on.volts

pad_is : (grid : Grid) (tech : Tech) (bias : Bias) (pad : PadAt) (on : PadOn) → IsPadOn grid tech bias pad on → IsOfNet grid bias on
pad_is grid tech bias pad on h =
    let nothing : Piece = record { net = 0; layer = 0; axis = X; centre = pos 0; width = pos 0; from = pos 0; to = pos 0; shape = Stripe } in
    let same : piece_at grid.pieces on.piece ≡ h.stands.piece = get_or_default grid.pieces on.piece nothing h.stands.piece h.stands.is.0 ∙ h.stands.is.1 in
    record {
      within = h.stands.is.0;
      name = pad.net;
      net = subst (λ (p : Piece). At grid.nets p.net pad.net) (sym same) h.stands.net;
      volts = h.volts;
    }

pads_are : (grid : Grid) (tech : Tech) (bias : Bias) (pads : List PadOn) → ArePads grid tech bias pads → All (IsOfNet grid bias) pads
pads_are grid tech bias pads are =
    all_in_order (AreOnPieces grid tech bias) (IsOfNet grid bias) (λ pad on h k d within. pad_is grid tech bias pad (get_or on k d) (h.each k d within)) bias.pads pads are

one_name : (nets : List (List ℕ)) (k l : ℕ) (a b : List ℕ) → k ≡ l → At nets k a → At nets l b → a ≡ b
one_name nets k l a b same (k_in, k_is) (l_in, l_is) = sym k_is ∙ get_or_default nets k a b k_in ∙ ap (λ n. get_or nets n b) same ∙ l_is

abbrev key_of : Grid → PadOn → Key
key_of grid p = key_at grid.pieces p.piece p.along

net_of_pad : (grid : Grid) (p : PadOn) → (key_of grid p).net ≡ (piece_at grid.pieces p.piece).net
net_of_pad grid p = let q = piece_at grid.pieces p.piece in net_along q.axis q.net q.layer q.centre p.along

pad_in : (grid : Grid) (bias : Bias) (pads : List PadOn) (taps : List Tap) (keys : List Key) → ListsAll (IsNode (drawing_of grid pads taps)) keys → (p : PadOn)
    → IsOfNet grid bias p → Contains pads p → Contains keys (key_of grid p)
pad_in grid bias pads taps keys all p of_net (k, within, is) =
    (all (key_at grid.pieces p.piece p.along)).1
    (inl (p.piece, p.along, record { of_a_piece = of_net.within; joins = inr (inl (k, p, within, is, (refl, refl))) }, refl))

agree : (grid : Grid) (bias : Bias) (pads : List PadOn) (taps : List Tap) (keys : List Key) → BiasKeeps bias → ListsAll (IsNode (drawing_of grid pads taps)) keys
    → (p q : PadOn) → IsOfNet grid bias p → IsOfNet grid bias q → Contains pads p → Contains pads q
    → number_of keys (key_of grid p) ≡ number_of keys (key_of grid q) → p.volts ≡ q.volts
agree grid bias pads taps keys keeps all p q p_is q_is p_in q_in same =
    let d = key_of grid p in
    let at_p = net_of_number keys (key_of grid p) d (pad_in grid bias pads taps keys all p p_is p_in) in
    let at_q = net_of_number keys (key_of grid q) d (pad_in grid bias pads taps keys all q q_is q_in) in
    let nets : (piece_at grid.pieces p.piece).net ≡ (piece_at grid.pieces q.piece).net =
    sym (net_of_pad grid p) ∙ sym at_p ∙ ap (λ n. (get_or keys n d).net) same ∙ at_q ∙ net_of_pad grid q in
    let name = one_name grid.nets (piece_at grid.pieces p.piece).net (piece_at grid.pieces q.piece).net p_is.name q_is.name nets p_is.net q_is.net in
    one_potential bias keeps q_is.name p.volts q.volts (subst (λ (n : List ℕ). IsSupply bias n p.volts) name p_is.volts) q_is.volts

-- ## no refusal is a conflict

-- The refusal, if there is one, is no conflict of two pads.
abbrev IsOther : Option NetError → Type 0
IsOther o = (node : ℕ) (first second : ℤ) → o ≡ Some (PadConflict node first second) → ⊥

nothing_other : IsOther None
nothing_other node first second e = absurd (cc)

bad_end_other : (at : ℕ) → IsOther (Some (BadEnd at))
bad_end_other at node first second e = absurd (cc)

range_other : (quantity : Quantity) (place : ℕ) (number : ℤ) → IsOther (Some (Range quantity place number))
range_other quantity place number node first second e = absurd (cc)

else_other : (o p : Option NetError) → IsOther o → IsOther p → IsOther (or_else o p)
else_other None p h k = k
else_other (Some x) p h k = h

cond_other : (b : Bool) (o p : Option NetError) → IsOther o → IsOther p → IsOther (cond b o p)
cond_other true o p h k = h
cond_other false o p h k = k

map_other : (o : Option ℕ) (f : ℕ → NetError) → ((n : ℕ) → IsOther (Some (f n))) → IsOther (option_map f o)
map_other None f h = nothing_other
map_other (Some n) f h = h n

most_other : (limit : ℕ) (quantity : Quantity) (number : ℕ) → IsOther (unless_at_most limit quantity number)
most_other limit quantity number = cond_other (leb number limit) None (Some (Range quantity 0 (pos number))) nothing_other (range_other quantity 0 (pos number))

unfit_other : (quantity : Quantity) (fits : ℤ → Bool) (numbers : List ℤ) → IsOther (first_unfit quantity fits numbers)
unfit_other quantity fits numbers =
    map_other (position (λ z. cond (fits z) false true) numbers) (λ at. Range quantity at (get_or numbers at (pos 0))) (λ n. range_other quantity n (get_or numbers n (pos 0)))

limits_other : (nodes : ℕ) (resistors : List Resistor) (pads : List Pad) (loads : List Load) → IsOther (first_beyond_limit nodes resistors pads loads)
limits_other nodes resistors pads loads =
    else_other (unless_at_most most_nodes Nodes nodes) _ (most_other most_nodes Nodes nodes)
    (else_other (unless_at_most most_resistors Resistors (length resistors)) _ (most_other most_resistors Resistors (length resistors))
    (else_other (first_unfit Resistance resistance_fits (map (λ r. r.ohms) resistors)) _ (unfit_other Resistance resistance_fits (map (λ r. r.ohms) resistors))
    (else_other (first_unfit Voltage voltage_fits (map (λ p. p.volts) pads)) _ (unfit_other Voltage voltage_fits (map (λ p. p.volts) pads)) (most_other greatest_load Loads (given_load loads)))))

-- A pad agrees with each pad of its node.
abbrev AgreesWith : Pad → Pad → Type 0
AgreesWith p q = q.node ≡ p.node → q.volts ≡ p.volts

agreeing_other : (p : Pad) (o : Option ℤ) → ((first : ℤ) → o ≡ Some first → first ≡ p.volts) → IsOther (conflict_with p o)
agreeing_other p None h = nothing_other
agreeing_other p (Some first) h =
    subst IsOther (sym (ap (λ b. cond b None (Some (PadConflict p.node first p.volts))) ((Decides-int_eq first p.volts).1 (h first refl)))) nothing_other

pad_other : (pads : List Pad) (p : Pad) → All (AgreesWith p) pads → IsOther (conflict_with p (first_pad pads p.node))
pad_other pads p all = agreeing_other p (first_pad pads p.node) (λ first e. by first (first_is_of_list (AgreesWith p) pads p.node first all e))
  where
    by : (first : ℤ) → (q : Pad) × (q.node ≡ p.node) × (q.volts ≡ first) × AgreesWith p q → first ≡ p.volts
    by first (q, at, volts, agrees) = sym volts ∙ agrees at

conflicts_other : (pads ps : List Pad) → All (λ (p : Pad). All (AgreesWith p) pads) ps → IsOther (first_of (λ p. conflict_with p (first_pad pads p.node)) ps)
conflicts_other pads [] all = nothing_other
conflicts_other pads (p ∷ ps) all =
    else_other (conflict_with p (first_pad pads p.node)) _ (pad_other pads p (All-head (λ (p : Pad). All (AgreesWith p) pads) p ps all))
    (conflicts_other pads ps (All-tail (λ (p : Pad). All (AgreesWith p) pads) p ps all))

refusal_other : (nodes : ℕ) (resistors : List Resistor) (pads : List Pad) (loads : List Load) → All (λ (p : Pad). All (AgreesWith p) pads) pads
    → IsOther (first_net_refusal nodes resistors pads loads)
refusal_other nodes resistors pads loads all =
    else_other (option_map (λ at. BadEnd at) (first_bad_end nodes resistors pads loads)) _
    (map_other (first_bad_end nodes resistors pads loads) (λ at. BadEnd at) bad_end_other)
    (else_other (first_beyond_limit nodes resistors pads loads) (first_conflict pads) (limits_other nodes resistors pads loads) (conflicts_other pads pads all))

-- ## the pads of a drawing

pub never_conflict : (grid : Grid) (tech : Tech) (bias : Bias) (pads : List PadOn) (taps : List Tap) → BiasKeeps bias → ArePads grid tech bias pads
    → (node : ℕ) (first second : ℤ) → IsRefused (drawing_of grid pads taps) tech (OfNet (PadConflict node first second)) → ⊥
never_conflict grid tech bias pads taps keeps are node first second (inl many) = range_other Nodes 0 (pos (length many.keys)) node first second (ap Some (sym many.is))
never_conflict grid tech bias pads taps keeps are node first second (inr made) =
    refusal_other (length made.keys) _ (pads_of (drawing_of grid pads taps) made.keys) _ all node first second made.refused
  where
    on_node : PadOn → Pad
    on_node p = record { node = number_of made.keys (key_at grid.pieces p.piece p.along); volts = p.volts }

    each : (k : ℕ) (d : PadOn) → k < length pads → (l : ℕ) (e : PadOn) → l < length pads → AgreesWith (on_node (get_or pads k d)) (on_node (get_or pads l e))
    each k d within l e inside same =
        let p = get_or pads k d in
        let q = get_or pads l e in
        agree grid bias pads taps made.keys keeps made.nodes.all q p (pads_are grid tech bias pads are l e inside) (pads_are grid tech bias pads are k d within)
        (Contains-get_or pads l e inside) (Contains-get_or pads k d within) same

    all : All (λ (p : Pad). All (AgreesWith p) (map on_node pads)) (map on_node pads)
    all = All-map (λ (p : Pad). All (AgreesWith p) (map on_node pads)) on_node pads
        (λ k d within. All-map (AgreesWith (on_node (get_or pads k d))) on_node pads (λ l e inside. each k d within l e inside))
