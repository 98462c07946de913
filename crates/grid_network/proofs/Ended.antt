-- Each end of a resistor, each pad and each load stands at a node.
use Rattle.std.proofs.Common.{◌≡◌, inl, inr, ℕ, ◌+◌, ◌<◌, ◌≤◌, ◌||◌, Bool, true, false, true≢false, cond, leb, min, max, ℤ, pos, Option, Some, None, List, [], ◌∷◌, map, Contains, length, get_or, slice_get, refl, sym, subst, ap, ◌∙◌, arith}
use Rattle.std.specs.Option.{option_map}
use Rattle.std.specs.List.{position}
use Rattle.std.proofs.lemmas.Bool.Decides.{nat_tests}
use Rattle.std.proofs.lemmas.List.{length-map, get_or-map}
use Rattle.std.proofs.lemmas.List.Elements.{Contains-get_or}
use Rattle.std.proofs.lemmas.List.Quantifiers.{position-Some}
use Rattle.std.proofs.lemmas.Option.{slice_get_within, get_or_from_slice_get}
use Rattle.lef_tech.specs.declared.tech.Tech.{Tech}
use Rattle.grid_pieces.specs.declared.piece.StackAt.{StackAt}
use Rattle.grid_net.specs.declared.part.Resistor.{Resistor}
use Rattle.grid_net.specs.declared.part.Pad.{Pad}
use Rattle.grid_net.specs.declared.part.Load.{Load}
use Rattle.grid_net.specs.declared.error.Quantity.{Quantity}
use Rattle.grid_net.specs.declared.error.Quantity.TheVariants.{Nodes, Resistors, Resistance, Voltage, Loads}
use Rattle.grid_net.specs.declared.error.NetError.{NetError}
use Rattle.grid_net.specs.declared.error.NetError.TheVariants.{BadEnd, Range, PadConflict}
use Rattle.grid_net.specs.Search.{or_else, first_of}
use Rattle.grid_net.specs.Network.{first_pad}
use Rattle.grid_net.specs.Adding.{given_load}
use Rattle.grid_net.specs.Limits.{most_nodes, most_resistors, greatest_load}
use Rattle.grid_net.specs.Building.{first_net_refusal, first_bad_end, first_beyond_limit, first_conflict, unless_at_most, first_unfit, resistance_fits, voltage_fits, conflict_with}
use Rattle.grid_network.specs.declared.error.ExtractError.TheVariants.{Net as OfNet}
use Rattle.grid_network.specs.declared.key.Key.{Key}
use Rattle.grid_network.specs.declared.pad.PadOn.{PadOn}
use Rattle.grid_network.specs.declared.pad.Tap.{Tap}
use Rattle.grid_network.specs.declared.segment.Segment.{Segment}
use Rattle.grid_network.specs.Listing.{ListsAll, EachOnce}
use Rattle.grid_network.specs.Drawing.{Drawing, key_at, key_of_stack}
use Rattle.grid_network.specs.Asked.{IsDrawing, IsStackOf, IsOnPiece}
use Rattle.grid_network.specs.Nodes.{IsNode, number_of}
use Rattle.grid_network.specs.Segments.{IsSegment, resistor_of}
use Rattle.grid_network.specs.Network.{resistors_of, pads_of, loads_of, IsRefused}
use Rattle.grid_network.proofs.Numbered.{number_found}

-- ---- what stands at a node

number_below : (keys : List Key) (key : Key) → Contains keys key → EachOnce keys → number_of keys key < length keys
number_below keys key (k, within, e) once = let q : k ≡ number_of keys key = number_found keys key k within e once in omega (arith, within, q)

of_stack : (d : Drawing) (number : ℕ) (stack : StackAt) (layer : ℕ) → slice_get d.grid.stacks number ≡ Some stack → stack.stack.from ≤ layer → layer ≤ stack.stack.to → IsNode d (key_of_stack stack layer)
of_stack d number stack layer at low high =
    inr (number, stack, slice_get_within d.grid.stacks number stack at, get_or_from_slice_get d.grid.stacks number stack stack at, (layer, low, high, refl))

is_stack : (d : Drawing) (tech : Tech) (number : ℕ) (stack : StackAt) → IsDrawing d tech → slice_get d.grid.stacks number ≡ Some stack → IsStackOf d.grid tech stack
is_stack d tech number stack is at =
    subst (IsStackOf d.grid tech) (get_or_from_slice_get d.grid.stacks number stack stack at) (is.stacks number stack (slice_get_within d.grid.stacks number stack at))

ends_nodes : (d : Drawing) (tech : Tech) (s : Segment) → IsDrawing d tech → IsSegment d tech s → IsNode d s.first × IsNode d s.second
ends_nodes d tech s is (inl (k, near, far, nb, e)) =
    (subst (IsNode d) (sym (ap (λ q. q.first) e)) (inl (k, near, nb.near_joins, refl)), subst (IsNode d) (sym (ap (λ q. q.second) e)) (inl (k, far, nb.far_joins, refl)))
ends_nodes d tech s is (inr (k, stack, level, at, within, e)) =
    let of = is_stack d tech k stack is at in
    let count = of.arrays in
    let up = of.rising in
    let first : IsNode d (key_of_stack stack (stack.stack.from + level)) = of_stack d k stack (stack.stack.from + level) at (omega arith) (omega (arith, count, up, within)) in
    let second : IsNode d (key_of_stack stack (stack.stack.from + level + 1)) = of_stack d k stack (stack.stack.from + level + 1) at (omega arith) (omega (arith, count, up, within)) in
    (subst (IsNode d) (sym (ap (λ q. q.first) e)) first, subst (IsNode d) (sym (ap (λ q. q.second) e)) second)

pad_node : (d : Drawing) (tech : Tech) (p : PadOn) → IsDrawing d tech → Contains d.pads p → IsNode d (key_at d.grid.pieces p.piece p.along)
pad_node d tech p is (k, within, e) =
    let on : IsOnPiece d.grid.pieces p.piece p.along = subst (λ q. IsOnPiece d.grid.pieces q.piece q.along) e (is.pads k p within) in
    inl (p.piece, p.along, record { of_a_piece = on.piece; joins = inr (inl (k, p, within, e, (refl, refl))) }, refl)

tap_node : (d : Drawing) (tech : Tech) (t : Tap) → IsDrawing d tech → Contains d.taps t → IsNode d (key_at d.grid.pieces t.piece t.along)
tap_node d tech t is (k, within, e) =
    let on : IsOnPiece d.grid.pieces t.piece t.along = subst (λ q. IsOnPiece d.grid.pieces q.piece q.along) e (is.taps k t within) in
    inl (t.piece, t.along, record { of_a_piece = on.piece; joins = inr (inr (k, t, within, e, (refl, refl))) }, refl)

-- ---- no entry passes the test of a bad end

passes_none : {X : Type 0} (p : X → Bool) (xs : List X) (d : X) → ((k : ℕ) → k < length xs → p (get_or xs k d) ≡ false) → position p xs ≡ None
passes_none {X} p xs d fails = by (position p xs) refl
  where
    by : (o : Option ℕ) → position p xs ≡ o → position p xs ≡ None
    by None e = e
    by (Some i) e = let h = position-Some p xs i d e in absurd (true≢false (sym h.1 ∙ fails i h.0))

mapped_none : {X Y : Type 0} (f : X → Y) (p : Y → Bool) (xs : List X) → ((x : X) → Contains xs x → p (f x) ≡ false) → position p (map f xs) ≡ None
mapped_none f p [] fails = refl
mapped_none f p (x ∷ xs) fails =
    passes_none p (map f (x ∷ xs)) (f x) (λ k within.
    let b : k < length (x ∷ xs) = omega (arith, within, length-map (x ∷ xs) f) in
    ap p (get_or-map f (x ∷ xs) k x (f x) b) ∙ fails (get_or (x ∷ xs) k x) (Contains-get_or (x ∷ xs) k x b))

is_below : (n m : ℕ) → m < n → leb n m ≡ false
is_below n m h = grind (arith, nat_tests)

both_below : (n i j : ℕ) → i < n → j < n → (leb n (min i j) || leb n (max i j)) ≡ false
both_below n i j h k =
    ap (λ b. b || leb n (max i j)) (is_below n (min i j) (omega arith)) ∙ is_below n (max i j) (omega arith)

-- ---- no other refusal names a bad end

abbrev pub NotBad : Option NetError → Type 0
NotBad o = (at : ℕ) → o ≡ Some (BadEnd at) → ⊥

else_not_bad : (o p : Option NetError) → NotBad o → NotBad p → NotBad (or_else o p)
else_not_bad None p h k = k
else_not_bad (Some x) p h k = h

none_not_bad : NotBad None
none_not_bad at e = absurd (cc)

range_not_bad : (quantity : Quantity) (place : ℕ) (number : ℤ) → NotBad (Some (Range quantity place number))
range_not_bad quantity place number at e = absurd (cc)

conflict_not_bad : (node : ℕ) (first second : ℤ) → NotBad (Some (PadConflict node first second))
conflict_not_bad node first second at e = absurd (cc)

cond_not_bad : (b : Bool) (o p : Option NetError) → NotBad o → NotBad p → NotBad (cond b o p)
cond_not_bad true o p h k = h
cond_not_bad false o p h k = k

map_not_bad : (o : Option ℕ) (f : ℕ → NetError) → ((n : ℕ) → NotBad (Some (f n))) → NotBad (option_map f o)
map_not_bad None f h = none_not_bad
map_not_bad (Some n) f h = h n

unless_not_bad : (limit : ℕ) (quantity : Quantity) (number : ℕ) → NotBad (unless_at_most limit quantity number)
unless_not_bad limit quantity number = cond_not_bad (leb number limit) None (Some (Range quantity 0 (pos number))) none_not_bad (range_not_bad quantity 0 (pos number))

unfit_not_bad : (quantity : Quantity) (fits : ℤ → Bool) (numbers : List ℤ) → NotBad (first_unfit quantity fits numbers)
unfit_not_bad quantity fits numbers =
    map_not_bad (position (λ z. cond (fits z) false true) numbers) (λ at. Range quantity at (get_or numbers at (pos 0))) (λ n. range_not_bad quantity n (get_or numbers n (pos 0)))

one_conflict : (p : Pad) (o : Option ℤ) → NotBad (conflict_with p o)
one_conflict p None = none_not_bad
one_conflict p (Some first) = cond_not_bad _ None (Some (PadConflict p.node first p.volts)) none_not_bad (conflict_not_bad p.node first p.volts)

conflicts : (pads ps : List Pad) → NotBad (first_of (λ p. conflict_with p (first_pad pads p.node)) ps)
conflicts pads [] = none_not_bad
conflicts pads (p ∷ ps) = else_not_bad (conflict_with p (first_pad pads p.node)) _ (one_conflict p (first_pad pads p.node)) (conflicts pads ps)

limits : (nodes : ℕ) (resistors : List Resistor) (pads : List Pad) (loads : List Load) → NotBad (first_beyond_limit nodes resistors pads loads)
limits nodes resistors pads loads =
    else_not_bad (unless_at_most most_nodes Nodes nodes) _ (unless_not_bad most_nodes Nodes nodes)
    (else_not_bad (unless_at_most most_resistors Resistors (length resistors)) _ (unless_not_bad most_resistors Resistors (length resistors))
    (else_not_bad (first_unfit Resistance resistance_fits (map (λ r. r.ohms) resistors)) _ (unfit_not_bad Resistance resistance_fits (map (λ r. r.ohms) resistors))
    (else_not_bad (first_unfit Voltage voltage_fits (map (λ p. p.volts) pads)) _ (unfit_not_bad Voltage voltage_fits (map (λ p. p.volts) pads)) (unless_not_bad greatest_load Loads (given_load loads)))))

refusal_not_bad : (nodes : ℕ) (resistors : List Resistor) (pads : List Pad) (loads : List Load) → first_bad_end nodes resistors pads loads ≡ None → NotBad (first_net_refusal nodes resistors pads loads)
refusal_not_bad nodes resistors pads loads e =
    let rest = or_else (first_beyond_limit nodes resistors pads loads) (first_conflict pads) in
    let here : NotBad rest = else_not_bad (first_beyond_limit nodes resistors pads loads) (first_conflict pads) (limits nodes resistors pads loads) (conflicts pads pads) in
    subst (λ (o : Option ℕ). NotBad (or_else (option_map (λ at. BadEnd at) o) rest)) (sym e) here

-- ---- the lists of a drawing

module _ (d : Drawing) (tech : Tech) (is : IsDrawing d tech) (keys : List Key) (nodes : ListsAll (IsNode d) keys) (once : EachOnce keys) where
  node_below : (key : Key) → IsNode d key → number_of keys key < length keys
  node_below key node = number_below keys key ((nodes key).1 node) once

  no_resistor : (segments : List Segment) → ListsAll (IsSegment d tech) segments → position (λ r. leb (length keys) r.a || leb (length keys) r.b) (resistors_of keys segments) ≡ None
  no_resistor segments all = mapped_none (resistor_of keys) (λ r. leb (length keys) r.a || leb (length keys) r.b) segments (λ s h. here s (ends_nodes d tech s is ((all s).0 h)))
    where
      here : (s : Segment) → IsNode d s.first × IsNode d s.second → (leb (length keys) (resistor_of keys s).a || leb (length keys) (resistor_of keys s).b) ≡ false
      here s ends = both_below (length keys) (number_of keys s.first) (number_of keys s.second) (node_below s.first ends.0) (node_below s.second ends.1)

  no_pad : position (λ p. leb (length keys) p.node) (pads_of d keys) ≡ None
  no_pad = mapped_none (λ (p : PadOn). record { node = number_of keys (key_at d.grid.pieces p.piece p.along); volts = p.volts }) (λ (p : Pad). leb (length keys) p.node) d.pads
      (λ p h. is_below (length keys) (number_of keys (key_at d.grid.pieces p.piece p.along)) (node_below (key_at d.grid.pieces p.piece p.along) (pad_node d tech p is h)))

  no_load : position (λ l. leb (length keys) l.node) (loads_of d keys) ≡ None
  no_load = mapped_none (λ (t : Tap). record { node = number_of keys (key_at d.grid.pieces t.piece t.along); low = t.low; high = t.high }) (λ (l : Load). leb (length keys) l.node) d.taps
      (λ t h. is_below (length keys) (number_of keys (key_at d.grid.pieces t.piece t.along)) (node_below (key_at d.grid.pieces t.piece t.along) (tap_node d tech t is h)))

  no_bad_end : (segments : List Segment) → ListsAll (IsSegment d tech) segments → first_bad_end (length keys) (resistors_of keys segments) (pads_of d keys) (loads_of d keys) ≡ None
  no_bad_end segments all =
      let pads = position (λ p. leb (length keys) p.node) (pads_of d keys) in
      let loads = position (λ l. leb (length keys) l.node) (loads_of d keys) in
      ap (λ o. or_else o (or_else pads loads)) (no_resistor segments all) ∙ ap (λ o. or_else o loads) no_pad ∙ no_load

pub never_bad : (d : Drawing) (tech : Tech) (at : ℕ) → IsDrawing d tech → IsRefused d tech (OfNet (BadEnd at)) → ⊥
never_bad d tech at is (inl many) = range_not_bad Nodes 0 (pos (length many.keys)) at (ap Some (sym many.is))
never_bad d tech at is (inr made) =
    refusal_not_bad (length made.keys) (resistors_of made.keys made.segments) (pads_of d made.keys) (loads_of d made.keys)
    (no_bad_end d tech is made.keys made.nodes.all made.nodes.once made.segments made.all_segments.all) at made.refused
