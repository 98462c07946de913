-- In the ordered list of all junctions the wires are exactly those between neighbours.
use Rattle.std.proofs.Common.{◌≡◌, ◌⊎◌, inl, inr, zero, suc, ℕ, ◌<◌, ◌≤◌, Bool, true, false, ◌==◌, ℤ, pos, Option, Some, None, List, Contains, length, if◌then◌else◌, refl, sym, subst, ap, ◌∙◌, arith}
use Rattle.std.specs.Prelude.{◌<ℤ◌}
use Rattle.std.specs.List.Sorted.{IsStrictlySortedBy}
use Rattle.std.specs.Option.{option_to_list}
use Rattle.std.proofs.lemmas.Bool.{cases_lt}
use Rattle.std.proofs.lemmas.Bool.Decides.{Decides-eqb}
use Rattle.std.proofs.lemmas.Int.{ints}
use Rattle.std.proofs.lemmas.List.{get_or_default}
use Rattle.std.proofs.lemmas.List.Elements.{Contains-get_or, Contains-append_left, Contains-append_right, Contains-append_cases}
use Rattle.lef_tech.specs.declared.layer.RoutingLayer.{RoutingLayer}
use Rattle.lef_tech.specs.declared.tech.Tech.{Tech}
use Rattle.grid_pieces.specs.declared.piece.Piece.{Piece}
use Rattle.grid_network.specs.declared.junction.Junction.{Junction}
use Rattle.grid_network.specs.declared.segment.Segment.{Segment}
use Rattle.grid_network.specs.Listing.{ListsAll}
use Rattle.grid_network.specs.Drawing.{Drawing, IsJunction, AreNeighbours}
use Rattle.grid_network.specs.Segments.{wire_between, IsWire}
use Rattle.grid_network.specs.inside.Steps.{junction_cmp, junction_at, wire_to, wires_below}
use Rattle.grid_network.proofs.Junctions.{lies_before, pieces_rise}

-- ---- the list of the wires, by places

pub held_once : (s : Segment) (o : Option Segment) → Contains (option_to_list o) s → o ≡ Some s
held_once s None (k, within, e) = absurd (omega arith)
held_once s (Some t) (zero, within, e) = ap Some e
held_once s (Some t) (suc k, within, e) = absurd (omega arith)

-- which segments the list has
abbrev Has : List RoutingLayer → List Piece → List Junction → ℕ → Segment → Type 0
Has layers pieces js n s = (i : ℕ) × (i < n) × (wire_to layers pieces js i ≡ Some s)

have_more : (layers : List RoutingLayer) (pieces : List Piece) (js : List Junction) (n : ℕ) (s : Segment) → (Contains (wires_below layers pieces js n) s → Has layers pieces js n s)
    → (Contains (wires_below layers pieces js n) s ⊎ Contains (option_to_list (wire_to layers pieces js n)) s) → Has layers pieces js (suc n) s
have_more layers pieces js n s before (inl g) = let r = before g in (r.0, omega (arith, r.1), r.2)
have_more layers pieces js n s before (inr g) = (n, omega arith, held_once s (wire_to layers pieces js n) g)

pub wires_have : (layers : List RoutingLayer) (pieces : List Piece) (js : List Junction) (n : ℕ) (s : Segment) → Contains (wires_below layers pieces js n) s → (i : ℕ) × (i < n) × (wire_to layers pieces js i ≡ Some s)
wires_have layers pieces js zero s (k, within, e) = absurd (omega arith)
wires_have layers pieces js (suc n) s h =
    have_more layers pieces js n s (wires_have layers pieces js n s) (Contains-append_cases (wires_below layers pieces js n) (option_to_list (wire_to layers pieces js n)) s h)

hold_more : (layers : List RoutingLayer) (pieces : List Piece) (js : List Junction) (n i : ℕ) (s : Segment) → (i < n → Contains (wires_below layers pieces js n) s) → i < suc n → wire_to layers pieces js i ≡ Some s
    → ((i < n) ⊎ (n ≤ i)) → Contains (wires_below layers pieces js (suc n)) s
hold_more layers pieces js n i s before below e (inl h) = Contains-append_left (wires_below layers pieces js n) (option_to_list (wire_to layers pieces js n)) s (before h)
hold_more layers pieces js n i s before below e (inr h) =
    let same : i ≡ n = omega arith in
    let here : Contains (option_to_list (Some s)) s = (0, omega arith, refl) in
    Contains-append_right (wires_below layers pieces js n) (option_to_list (wire_to layers pieces js n)) s
    (subst (λ (o : Option Segment). Contains (option_to_list o) s) (sym (ap (wire_to layers pieces js) (sym same) ∙ e)) here)

pub wires_hold : (layers : List RoutingLayer) (pieces : List Piece) (js : List Junction) (n i : ℕ) (s : Segment) → i < n → wire_to layers pieces js i ≡ Some s → Contains (wires_below layers pieces js n) s
wires_hold layers pieces js zero i s below e = absurd (omega arith)
wires_hold layers pieces js (suc n) i s below e = hold_more layers pieces js n i s (λ h. wires_hold layers pieces js n i s h e) below e (cases_lt i n)

-- ---- one step of it

taken : (b : Bool) (t s : Segment) → (if b then Some t else None) ≡ Some s → (b ≡ true) × (t ≡ s)
taken true t s e = (refl, (cc))
taken false t s e = absurd (cc)

pub step_is : (layers : List RoutingLayer) (pieces : List Piece) (js : List Junction) (i : ℕ) (s : Segment) → wire_to layers pieces js (suc i) ≡ Some s
    → ((junction_at js i).piece ≡ (junction_at js (suc i)).piece) × (s ≡ wire_between layers pieces (junction_at js (suc i)).piece (junction_at js i).along (junction_at js (suc i)).along)
step_is layers pieces js i s e =
    let r = taken ((junction_at js i).piece == (junction_at js (suc i)).piece) (wire_between layers pieces (junction_at js (suc i)).piece (junction_at js i).along (junction_at js (suc i)).along) s e in
    ((Decides-eqb (junction_at js i).piece (junction_at js (suc i)).piece).0 r.0, sym r.1)

pub step_gives : (layers : List RoutingLayer) (pieces : List Piece) (js : List Junction) (i : ℕ) → (junction_at js i).piece ≡ (junction_at js (suc i)).piece
    → wire_to layers pieces js (suc i) ≡ Some (wire_between layers pieces (junction_at js (suc i)).piece (junction_at js i).along (junction_at js (suc i)).along)
step_gives layers pieces js i e =
    ap (λ b. if b then Some (wire_between layers pieces (junction_at js (suc i)).piece (junction_at js i).along (junction_at js (suc i)).along) else None)
    ((Decides-eqb (junction_at js i).piece (junction_at js (suc i)).piece).1 e)

-- ---- neighbours

-- all junctions, in order
pub record AreAll (d : Drawing) (js : List Junction) : Type 0 where
  pub lists : ListsAll (λ j. IsJunction d j.piece j.along) js
  pub up : IsStrictlySortedBy junction_cmp js

-- a junction has its place
pub found : (d : Drawing) (js : List Junction) (number : ℕ) (along : ℤ) → AreAll d js → IsJunction d number along
    → (m : ℕ) × (m < length js) × ((junction_at js m).piece ≡ number) × ((junction_at js m).along ≡ along)
found d js number along all h = place ((all.lists (record { piece = number; along = along })).1 h)
  where
    place : Contains js (record { piece = number; along = along }) → (m : ℕ) × (m < length js) × ((junction_at js m).piece ≡ number) × ((junction_at js m).along ≡ along)
    place (m, within, e) =
        let j : Junction = record { piece = number; along = along } in
        let here : junction_at js m ≡ j = get_or_default js m _ j within ∙ e in
        (m, within, ap (λ (q : Junction). q.piece) here, ap (λ (q : Junction). q.along) here)

joined : (d : Drawing) (js : List Junction) (i : ℕ) → AreAll d js → i < length js → IsJunction d (junction_at js i).piece (junction_at js i).along
joined d js i all within = (all.lists (junction_at js i)).0 (Contains-get_or js i _ within)

-- two junctions of one piece that follow on each other are neighbours
pub next_are_neighbours : (d : Drawing) (js : List Junction) (i : ℕ) → AreAll d js → suc i < length js → (junction_at js i).piece ≡ (junction_at js (suc i)).piece
    → AreNeighbours d (junction_at js (suc i)).piece (junction_at js i).along (junction_at js (suc i)).along
next_are_neighbours d js i all within one = record {
  near_joins = subst (λ (n : ℕ). IsJunction d n (junction_at js i).along) one (joined d js i all (omega arith));
  far_joins = joined d js (suc i) all within;
  rising = lies_before js i (suc i) _ all.up (omega arith) within one;
  none_between = λ along h low high. none along low high (found d js (junction_at js (suc i)).piece along all h);
}
  where
    before_near : (m : ℕ) → m < suc i → (junction_at js m).piece ≡ (junction_at js (suc i)).piece → (junction_at js i).along <ℤ (junction_at js m).along → ((m < i) ⊎ (i ≤ m)) → ⊥
    before_near m below p low (inl h) = let lt = lies_before js m i _ all.up h (omega arith) (p ∙ sym one) in omega (arith, ints, lt, low)
    before_near m below p low (inr h) = let same : m ≡ i = omega arith in let lt : (junction_at js i).along <ℤ (junction_at js i).along = subst (λ (n : ℕ). (junction_at js i).along <ℤ (junction_at js n).along) same low in omega (arith, ints, lt)

    behind_far : (m : ℕ) → suc i ≤ m → m < length js → (junction_at js m).piece ≡ (junction_at js (suc i)).piece → (junction_at js m).along <ℤ (junction_at js (suc i)).along → ((suc i < m) ⊎ (m ≤ suc i)) → ⊥
    behind_far m above m_within p high (inl h) = let lt = lies_before js (suc i) m _ all.up h m_within (sym p) in omega (arith, ints, lt, high)
    behind_far m above m_within p high (inr h) = let same : m ≡ suc i = omega arith in let lt : (junction_at js (suc i)).along <ℤ (junction_at js (suc i)).along = subst (λ (n : ℕ). (junction_at js n).along <ℤ (junction_at js (suc i)).along) same high in omega (arith, ints, lt)

    none : (along : ℤ) → (junction_at js i).along <ℤ along → along <ℤ (junction_at js (suc i)).along
        → (m : ℕ) × (m < length js) × ((junction_at js m).piece ≡ (junction_at js (suc i)).piece) × ((junction_at js m).along ≡ along) → ⊥
    none along low high (m, m_within, p, a) = by (cases_lt m (suc i))
      where
        low' : (junction_at js i).along <ℤ (junction_at js m).along
        low' = subst (λ (z : ℤ). (junction_at js i).along <ℤ z) (sym a) low

        high' : (junction_at js m).along <ℤ (junction_at js (suc i)).along
        high' = subst (λ (z : ℤ). z <ℤ (junction_at js (suc i)).along) (sym a) high

        by : ((m < suc i) ⊎ (suc i ≤ m)) → ⊥
        by (inl h) = before_near m h p low' (cases_lt m i)
        by (inr h) = behind_far m h m_within p high' (cases_lt (suc i) m)

-- neighbours follow on each other in the list
pub neighbours_are_next : (d : Drawing) (js : List Junction) (number : ℕ) (near far : ℤ) → AreAll d js → AreNeighbours d number near far
    → (i : ℕ) × (suc i < length js) × ((junction_at js i).piece ≡ number) × ((junction_at js i).along ≡ near) × ((junction_at js (suc i)).piece ≡ number) × ((junction_at js (suc i)).along ≡ far)
neighbours_are_next d js number near far all h = by (found d js number near all h.near_joins) (found d js number far all h.far_joins)
  where
    in_order : (a b : ℕ) → a < length js → (junction_at js a).piece ≡ number → (junction_at js b).piece ≡ number → (junction_at js a).along <ℤ (junction_at js b).along → ((a < b) ⊎ (b ≤ a)) → ((b < a) ⊎ (a ≤ b)) → a < b
    in_order a b a_within p q lt (inl g) k = g
    in_order a b a_within p q lt (inr g) (inl k) = let back = lies_before js b a (record { piece = 0; along = pos 0 }) all.up k a_within (q ∙ sym p) in absurd (omega (arith, ints, back, lt))
    in_order a b a_within p q lt (inr g) (inr k) =
        let same : a ≡ b = omega arith in
        let itself : (junction_at js b).along <ℤ (junction_at js b).along = subst (λ (n : ℕ). (junction_at js n).along <ℤ (junction_at js b).along) same lt in
        absurd (omega (arith, ints, itself))

    next : (a b : ℕ) → a < b → b < length js → (junction_at js a).piece ≡ number → (junction_at js a).along ≡ near → (junction_at js b).piece ≡ number → (junction_at js b).along ≡ far → ((suc a < b) ⊎ (b ≤ suc a)) → suc a ≡ b
    next a b below within p x q y (inr g) = omega arith
    next a b below within p x q y (inl g) =
        let one = pieces_rise js a (suc a) (record { piece = 0; along = pos 0 }) all.up (omega arith) (omega arith) in
        let two = pieces_rise js (suc a) b (record { piece = 0; along = pos 0 }) all.up g within in
        let same : (junction_at js (suc a)).piece ≡ number = omega (arith, one, two, p, q) in
        let low = lies_before js a (suc a) (record { piece = 0; along = pos 0 }) all.up (omega arith) (omega arith) (p ∙ sym same) in
        let high = lies_before js (suc a) b (record { piece = 0; along = pos 0 }) all.up g within (same ∙ sym q) in
        let there = subst (λ (n : ℕ). IsJunction d n (junction_at js (suc a)).along) same (joined d js (suc a) all (omega arith)) in
        absurd (h.none_between (junction_at js (suc a)).along there (subst (λ (z : ℤ). z <ℤ (junction_at js (suc a)).along) x low) (subst (λ (z : ℤ). (junction_at js (suc a)).along <ℤ z) y high))

    by : ((m : ℕ) × (m < length js) × ((junction_at js m).piece ≡ number) × ((junction_at js m).along ≡ near)) → ((m : ℕ) × (m < length js) × ((junction_at js m).piece ≡ number) × ((junction_at js m).along ≡ far))
        → (i : ℕ) × (suc i < length js) × ((junction_at js i).piece ≡ number) × ((junction_at js i).along ≡ near) × ((junction_at js (suc i)).piece ≡ number) × ((junction_at js (suc i)).along ≡ far)
    by (a, a_within, p, x) (b, b_within, q, y) =
        let lt : (junction_at js a).along <ℤ (junction_at js b).along = subst (λ (z : ℤ). z <ℤ (junction_at js b).along) (sym x) (subst (λ (z : ℤ). near <ℤ z) (sym y) h.rising) in
        let below = in_order a b a_within p q lt (cases_lt a b) (cases_lt b a) in
        let follows = next a b below b_within p x q y (cases_lt (suc a) b) in
        (a, omega arith, p, x, ap (λ n. (junction_at js n).piece) follows ∙ q, ap (λ n. (junction_at js n).along) follows ∙ y)

-- ---- the wires are those between neighbours, and no others

pub first_is_none : (layers : List RoutingLayer) (pieces : List Piece) (js : List Junction) (s : Segment) → wire_to layers pieces js zero ≡ Some s → ⊥
first_is_none layers pieces js s e = cc

pub wires_listed : (d : Drawing) (tech : Tech) (js : List Junction) → AreAll d js → ListsAll (IsWire d tech) (wires_below tech.routing d.grid.pieces js (length js))
wires_listed d tech js all s = (λ h. there (wires_have tech.routing d.grid.pieces js (length js) s h), λ h. back h)
  where
    there : ((i : ℕ) × (i < length js) × (wire_to tech.routing d.grid.pieces js i ≡ Some s)) → IsWire d tech s
    there (zero, within, e) = absurd (first_is_none tech.routing d.grid.pieces js s e)
    there (suc i, within, e) =
        let r = step_is tech.routing d.grid.pieces js i s e in
        ((junction_at js (suc i)).piece, (junction_at js i).along, (junction_at js (suc i)).along, next_are_neighbours d js i all within r.0, r.1)

    back : IsWire d tech s → Contains (wires_below tech.routing d.grid.pieces js (length js)) s
    back (number, near, far, h, e) =
        let r = neighbours_are_next d js number near far all h in
        let i : ℕ = r.0 in
        let step = step_gives tech.routing d.grid.pieces js i (r.2 ∙ sym r.4) in
        let same : wire_between tech.routing d.grid.pieces (junction_at js (suc i)).piece (junction_at js i).along (junction_at js (suc i)).along ≡ s =
        ap (λ n. wire_between tech.routing d.grid.pieces n (junction_at js i).along (junction_at js (suc i)).along) r.4
        ∙ ap (λ z. wire_between tech.routing d.grid.pieces number z (junction_at js (suc i)).along) r.3
        ∙ ap (λ z. wire_between tech.routing d.grid.pieces number near z) r.5 ∙ sym e in
        wires_hold tech.routing d.grid.pieces js (length js) (suc i) s r.1 (step ∙ ap Some same)
