-- No wire and no array stands twice in the list of the segments.
use Rattle.std.proofs.Common.{◌≡◌, ◌≢◌, ◌⊎◌, inl, inr, zero, suc, ℕ, ◌+◌, ◌-◌, ◌<◌, ◌≤◌, ℤ, Option, Some, None, List, [], ◌++◌, AllPairs, Contains, length, get_or, slice_get, refl, sym, ap, ◌∙◌, arith}
use Rattle.std.specs.Prelude.{◌<ℤ◌}
use Rattle.std.specs.List.Sorted.{IsStrictlySortedBy}
use Rattle.std.specs.Option.{option_to_list}
use Rattle.std.proofs.lemmas.Bool.{cases_lt}
use Rattle.std.proofs.lemmas.Int.{ints}
use Rattle.std.proofs.lemmas.List.{length-append, get_or_append_left, get_or-append_right}
use Rattle.std.proofs.lemmas.List.Elements.{Contains-get_or}
use Rattle.std.proofs.lemmas.List.FromFn.{length-map-range_with_len, get_or-map-range_with_len}
use Rattle.geom_rect.specs.declared.direction.Axis.{Axis}
use Rattle.geom_rect.specs.declared.direction.Axis.TheVariants.{X, Y}
use Rattle.lef_tech.specs.declared.layer.RoutingLayer.{RoutingLayer}
use Rattle.grid_pieces.specs.declared.piece.Piece.{Piece}
use Rattle.grid_pieces.specs.declared.piece.StackAt.{StackAt}
use Rattle.grid_network.specs.declared.branch.Branch.TheVariants.{Wire, Cuts}
use Rattle.grid_network.specs.declared.junction.Junction.{Junction}
use Rattle.grid_network.specs.declared.segment.Segment.{Segment}
use Rattle.grid_network.specs.Listing.{EachOnce}
use Rattle.grid_network.specs.Drawing.{piece_at, key_along, key_on}
use Rattle.grid_network.specs.Segments.{wire_between, cut_array}
use Rattle.grid_network.specs.inside.Steps.{junction_cmp, junction_at, wire_to, wires_below, arrays_of, cuts_below}
use Rattle.grid_network.proofs.Arrays.{cuts_have}
use Rattle.grid_network.proofs.Junctions.{lies_before}
use Rattle.grid_network.proofs.Wires.{held_once, first_is_none, step_is, wires_have}

-- ---- two lists, one behind the other

all_pairs_append : {X : Type 0} (R : X → X → Type 0) (xs ys : List X) → AllPairs R xs → AllPairs R ys → ((x y : X) → Contains xs x → Contains ys y → R x y) → AllPairs R (xs ++ ys)
all_pairs_append {X} R xs ys h k across i j d lt within = by (cases_lt i (length xs)) (cases_lt j (length xs))
  where
    n : ℕ
    n = length xs

    long : length (xs ++ ys) ≡ n + length ys
    long = length-append xs ys

    by : ((i < n) ⊎ (n ≤ i)) → ((j < n) ⊎ (n ≤ j)) → R (get_or (xs ++ ys) i d) (get_or (xs ++ ys) j d)
    by (inl a) (inl b) = rw (get_or_append_left xs ys d i a, get_or_append_left xs ys d j b) (h i j d lt b)
    by (inl a) (inr b) =
        let l : j - n < length ys = omega (arith, long) in
        rw (get_or_append_left xs ys d i a, get_or-append_right xs ys n j d refl b) (across (get_or xs i d) (get_or ys (j - n) d) (Contains-get_or xs i d a) (Contains-get_or ys (j - n) d l))
    by (inr a) (inl b) = absurd (omega arith)
    by (inr a) (inr b) = rw (get_or-append_right xs ys n i d refl a, get_or-append_right xs ys n j d refl b) (k (i - n) (j - n) d (omega arith) (omega (arith, long)))

-- ---- the parts of a segment

axis_along : (o : Axis) (net layer : ℕ) (across a b : ℤ) → key_along o net layer across a ≡ key_along o net layer across b → a ≡ b
axis_along X net layer across a b e = ap (λ k. k.x) e
axis_along Y net layer across a b e = ap (λ k. k.y) e

pub along_same : (piece : Piece) (a b : ℤ) → key_on piece a ≡ key_on piece b → a ≡ b
along_same piece a b e = axis_along piece.axis piece.net piece.layer piece.centre a b e

pub wire_same : (k l : ℕ) → Wire k ≡ Wire l → k ≡ l
wire_same k l e = cc

pub cuts_same : (k i l j : ℕ) → Cuts k i ≡ Cuts l j → (k ≡ l) × (i ≡ j)
cuts_same k i l j e = ((cc), (cc))

pub wire_no_cuts : (k l j : ℕ) → Wire k ≡ Cuts l j → ⊥
wire_no_cuts k l j e = cc

-- ---- the wires

wires_differ : (layers : List RoutingLayer) (pieces : List Piece) (js : List Junction) (i n : ℕ) (x y : Segment) → IsStrictlySortedBy junction_cmp js → i < n → n < length js
    → wire_to layers pieces js i ≡ Some x → wire_to layers pieces js n ≡ Some y → x ≡ y → ⊥
wires_differ layers pieces js zero n x y up below within ex ey e = first_is_none layers pieces js x ex
wires_differ layers pieces js (suc i) zero x y up below within ex ey e = omega arith
wires_differ layers pieces js (suc i) (suc n) x y up below within ex ey e =
    let p = step_is layers pieces js i x ex in
    let q = step_is layers pieces js n y ey in
    let a : Junction = junction_at js (suc i) in
    let b : Junction = junction_at js (suc n) in
    let same : wire_between layers pieces a.piece (junction_at js i).along a.along ≡ wire_between layers pieces b.piece (junction_at js n).along b.along = sym p.1 ∙ e ∙ q.1 in
    let piece : a.piece ≡ b.piece = wire_same a.piece b.piece (ap (λ s. s.branch) same) in
    let second : key_on (piece_at pieces a.piece) a.along ≡ key_on (piece_at pieces b.piece) b.along = ap (λ s. s.second) same in
    let along = along_same (piece_at pieces b.piece) a.along b.along (ap (λ k. key_on (piece_at pieces k) a.along) (sym piece) ∙ second) in
    let lt : a.along <ℤ b.along = lies_before js (suc i) (suc n) _ up below within piece in
    omega (arith, ints, lt, along)

none_once : {X : Type 0} → EachOnce {X = X} []
none_once i j d lt within = absurd (omega arith)

option_once : {X : Type 0} (o : Option X) → EachOnce (option_to_list o)
option_once None i j d lt within = absurd (omega arith)
option_once (Some x) i j d lt within = absurd (omega arith)

wires_once : (layers : List RoutingLayer) (pieces : List Piece) (js : List Junction) (n : ℕ) → IsStrictlySortedBy junction_cmp js → n ≤ length js → EachOnce (wires_below layers pieces js n)
wires_once layers pieces js zero up within = none_once
wires_once layers pieces js (suc n) up within =
    all_pairs_append (λ a b. a ≢ b) (wires_below layers pieces js n) (option_to_list (wire_to layers pieces js n)) (wires_once layers pieces js n up (omega arith)) (option_once (wire_to layers pieces js n))
    (λ x y hx hy e. let r = wires_have layers pieces js n x hx in wires_differ layers pieces js r.0 n x y up r.1 (omega arith) r.2 (held_once y (wire_to layers pieces js n) hy) e)

-- ---- the arrays

array_number : (o : Option StackAt) (n : ℕ) (y : Segment) → Contains (arrays_of o n) y → (level : ℕ) × (y.branch ≡ Cuts n level)
array_number None n y (k, within, e) = absurd (omega arith)
array_number (Some stack) n y (k, within, e) =
    let long = length-map-range_with_len (cut_array stack n) 0 (length stack.stack.arrays) in
    (k, ap (λ s. s.branch) (sym e ∙ get_or-map-range_with_len (cut_array stack n) 0 (length stack.stack.arrays) k k y (omega (arith, long)) (omega arith)))

arrays_once : (o : Option StackAt) (n : ℕ) → EachOnce (arrays_of o n)
arrays_once None n = none_once
arrays_once (Some stack) n = λ i j d lt within e.
    let long = length-map-range_with_len (cut_array stack n) 0 (length stack.stack.arrays) in
    let low = get_or-map-range_with_len (cut_array stack n) 0 (length stack.stack.arrays) i i d (omega (arith, long)) (omega arith) in
    let high = get_or-map-range_with_len (cut_array stack n) 0 (length stack.stack.arrays) j j d (omega (arith, long)) (omega arith) in
    let same : cut_array stack n i ≡ cut_array stack n j = sym low ∙ e ∙ high in
    let level = (cuts_same n i n j (ap (λ s. s.branch) same)).1 in
    omega (arith, level)

cuts_once : (stacks : List StackAt) (n : ℕ) → EachOnce (cuts_below stacks n)
cuts_once stacks zero = none_once
cuts_once stacks (suc n) =
    all_pairs_append (λ a b. a ≢ b) (cuts_below stacks n) (arrays_of (slice_get stacks n) n) (cuts_once stacks n) (arrays_once (slice_get stacks n) n)
    (λ x y hx hy e.
    let r = cuts_have stacks n x hx in
    let s = array_number (slice_get stacks n) n y hy in
    let number = (cuts_same r.0 r.2 n s.0 (sym (ap (λ q. q.branch) r.6) ∙ ap (λ q. q.branch) e ∙ s.1)).0 in
    let below = r.3 in
    omega (arith, number, below))

-- ---- both

wire_has_branch : (layers : List RoutingLayer) (pieces : List Piece) (js : List Junction) (i : ℕ) (x : Segment) → wire_to layers pieces js i ≡ Some x → (k : ℕ) × (x.branch ≡ Wire k)
wire_has_branch layers pieces js zero x e = absurd (first_is_none layers pieces js x e)
wire_has_branch layers pieces js (suc i) x e = ((junction_at js (suc i)).piece, ap (λ s. s.branch) (step_is layers pieces js i x e).1)

pub segments_once : (layers : List RoutingLayer) (pieces : List Piece) (stacks : List StackAt) (js : List Junction) → IsStrictlySortedBy junction_cmp js
    → EachOnce (wires_below layers pieces js (length js) ++ cuts_below stacks (length stacks))
segments_once layers pieces stacks js up =
    all_pairs_append (λ a b. a ≢ b) (wires_below layers pieces js (length js)) (cuts_below stacks (length stacks)) (wires_once layers pieces js (length js) up (omega arith)) (cuts_once stacks (length stacks))
    (λ x y hx hy e.
    let w = wires_have layers pieces js (length js) x hx in
    let p = wire_has_branch layers pieces js w.0 x w.2 in
    let r = cuts_have stacks (length stacks) y hy in
    wire_no_cuts p.0 r.0 r.2 (sym p.1 ∙ ap (λ q. q.branch) e ∙ ap (λ q. q.branch) r.6))
