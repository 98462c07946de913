-- The vias of wiring have one list of stacks, or one first stack with an end that lies on no piece.
use Rattle.std.proofs.Common.{◌≡◌, ◌⊎◌, inl, inr, ℕ, ◌*◌, ◌-◌, ◌<◌, ◌≤◌, ℤ, ◌≤ℤ◌, true, Ordering, List, length, get_or, map, All, Contains, Option, Some, slice_get, subst, refl, sym, ap, ◌∙◌, arith}
use Rattle.std.specs.declared.cmp.Ordering.TheVariants.{Less, Equal, Greater}
use Rattle.std.specs.Cmp.{IsTotalOrder}
use Rattle.std.specs.Ordering.{ordering_reverse, is_lt}
use Rattle.std.proofs.lemmas.Bool.{cases_lt, false≢true}
use Rattle.std.proofs.lemmas.Cmp.{nat_cmp_total, int_cmp_total, on_total, then_total}
use Rattle.std.proofs.lemmas.Int.{ints}
use Rattle.std.proofs.lemmas.List.{ext_get_or, get_or-map, length-map}
use Rattle.std.proofs.lemmas.List.Elements.{All-contains}
use Rattle.std.proofs.lemmas.Option.{slice_get_within, get_or_from_slice_get, slice_get-get_or}
use Rattle.geom_rect.specs.declared.rect.Rect.{Rect}
use Rattle.grid_pieces.specs.declared.piece.Piece.{Piece}
use Rattle.grid_pieces.specs.declared.piece.StackAt.{StackAt}
use Rattle.grid_pieces.specs.Piece.{Among}
use Rattle.lef_tech.specs.declared.tech.Tech.{Tech}
use Rattle.via_arrays.specs.declared.parts.CutArray.{CutArray}
use Rattle.via_arrays.specs.Choice.{IsRule}
use Rattle.via_arrays.specs.Pairs.{HasResistance}
use Rattle.via_arrays.specs.Resistances.{IsResistance, per_cut_of}
use Rattle.wire_chains.specs.declared.via.ViaAt.{ViaAt}
use Rattle.wire_chains.specs.Chain.{IsChain}
use Rattle.wire_names.specs.declared.record.NamedVia.{NamedVia}
use Rattle.wire_names.specs.declared.record.Spot.{Spot}
use Rattle.wire_stacks.specs.Crossing.{HoldsVias, LiesIn}
use Rattle.wire_stacks.specs.Stacks.{Stacked, IsStackOf, stack_order, GoesBefore, AreStacked, HasEnds, AreStacks, IsEndOff, IsFirstOff}
use Rattle.wire_stacks.specs.Vias.{via_at, array_of}
use Rattle.wired_grid.specs.declared.error.WiredError.{WiredError}
use Rattle.wired_grid.specs.declared.error.WiredError.TheVariants.{ViaOff}
use Rattle.one_drawing.specs.Laws.Listed.{same_list}
use Rattle.one_wired_grid.proofs.Chained.{no_via, one_placed, chains_one_way}
use Rattle.one_wired_grid.proofs.Firsts.{some_same}
use Rattle.one_wired_grid.proofs.Pieced.{one_way}
use Rattle.one_wired_grid.proofs.Ways.{One}

-- A fraction is one resistance.
abbrev pub OneResistance : Type 0
OneResistance = (n d a b : ℕ) → IsResistance n d a → IsResistance n d b → a ≡ b

-- ## one stack

resistance_same : OneResistance → (tech : Tech) (place : ℕ) (array : CutArray) (a b : ℕ) → HasResistance tech place array a → HasResistance tech place array b → a ≡ b
resistance_same one tech place array a b x y =
    let rule : x.rule ≡ y.rule = some_same (slice_get tech.rules place) (slice_get tech.rules place) x.rule y.rule x.is_rule y.is_rule refl in
    let per_cut : x.per_cut ≡ y.per_cut = some_same (per_cut_of tech x.rule) (per_cut_of tech y.rule) x.per_cut y.per_cut x.stated y.stated (ap (per_cut_of tech) rule) in
    one y.per_cut (array.columns * array.rows) a b (subst (λ n. IsResistance n (array.columns * array.rows) a) per_cut x.shared) y.shared

both_ways : (a b : ℤ) → a ≤ℤ b → b ≤ℤ a → a ≡ b
both_ways a b h k = omega (arith, ints)

rect_same : (a b : Rect) → LiesIn a b → LiesIn b a → a ≡ b
rect_same a b h k =
    let x1 = both_ways a.x1 b.x1 k.x1 h.x1 in
    let y1 = both_ways a.y1 b.y1 k.y1 h.y1 in
    let x2 = both_ways a.x2 b.x2 h.x2 k.x2 in
    let y2 = both_ways a.y2 b.y2 h.y2 k.y2 in
    λ i. record { x1 = x1 i; y1 = y1 i; x2 = x2 i; y2 = y2 i }

stack_same : OneResistance → (tech : Tech) (vias : List NamedVia) (chain : List ViaAt) (a b : StackAt) → IsStackOf tech vias chain a → IsStackOf tech vias chain b → a ≡ b
stack_same one tech vias chain a b p q =
    let net : a.net ≡ b.net = sym (p.begins.net no_via) ∙ q.begins.net no_via in
    let x : a.x ≡ b.x = sym (p.begins.x no_via) ∙ q.begins.x no_via in
    let y : a.y ≡ b.y = sym (p.begins.y no_via) ∙ q.begins.y no_via in
    let from : a.stack.from ≡ b.stack.from = sym (p.begins.layer no_via) ∙ q.begins.layer no_via in
    let to : a.stack.to ≡ b.stack.to = omega (arith, p.ends, q.ends) in
    let arrays = p.arrays ∙ sym q.arrays in
    let ohms : a.stack.ohms ≡ b.stack.ohms =
    ext_get_or 0 a.stack.ohms b.stack.ohms (p.as_many ∙ sym q.as_many)
    (λ k within.
    let via = get_or chain k no_via in
    let stands = slice_get-get_or chain k no_via (omega (arith, p.as_many)) in
    resistance_same one tech (via_at vias via.via).rule (array_of (via_at vias via.via)) (get_or a.stack.ohms k 0) (get_or b.stack.ohms k 0)
    (p.ohms k via _ stands (slice_get-get_or a.stack.ohms k 0 within))
    (q.ohms k via _ stands (slice_get-get_or b.stack.ohms k 0 (omega (arith, p.as_many, q.as_many))))) in
    let holds = subst (λ z. HoldsVias vias chain z a.y b.crossing) (sym x)
    (subst (λ z. HoldsVias vias chain b.x z b.crossing) (sym y) q.crossing.holds) in
    let also = subst (λ z. HoldsVias vias chain z b.y a.crossing) x
    (subst (λ z. HoldsVias vias chain a.x z a.crossing) y p.crossing.holds) in
    let crossing : a.crossing ≡ b.crossing = rect_same a.crossing b.crossing (p.crossing.smallest b.crossing holds) (q.crossing.smallest a.crossing also) in
    λ i. record { net = net i; x = x i; y = y i; crossing = crossing i; stack = record { from = from i; to = to i; arrays = arrays i; ohms = ohms i } }

-- ## their order

stack_total : IsTotalOrder stack_order
stack_total =
    then_total
    (then_total
    (then_total
    (then_total
    (then_total
    (then_total (then_total (then_total (on_total (λ (a : StackAt). a.net) nat_cmp_total) (on_total (λ (a : StackAt). a.x) int_cmp_total)) (on_total (λ (a : StackAt). a.y) int_cmp_total))
    (on_total (λ (a : StackAt). a.stack.from) nat_cmp_total)) (on_total (λ (a : StackAt). a.stack.to) nat_cmp_total)) (on_total (λ (a : StackAt). a.crossing.x1) int_cmp_total))
    (on_total (λ (a : StackAt). a.crossing.y1) int_cmp_total)) (on_total (λ (a : StackAt). a.crossing.x2) int_cmp_total)) (on_total (λ (a : StackAt). a.crossing.y2) int_cmp_total)

turned : (o : Ordering) → is_lt (ordering_reverse o) ≡ true → o ≡ Equal → ⊥
turned Less h e = false≢true h
turned Equal h e = false≢true h
turned Greater h e = absurd (cc)

less_equal : (a b : StackAt) → is_lt (stack_order a b) ≡ true → stack_order b a ≡ Equal → ⊥
less_equal a b less equal = turned (stack_order b a) (subst (λ o. is_lt o ≡ true) (stack_total.antisymm a b) less) equal

goes_one_way : (a b : Stacked) → GoesBefore a b → GoesBefore b a → ⊥
goes_one_way a b (inl h) (inl k) = one_way stack_order stack_total a.at b.at h k
goes_one_way a b (inl h) (inr k) = less_equal a.at b.at h k.0
goes_one_way a b (inr h) (inl k) = less_equal b.at a.at k h.0
goes_one_way a b (inr h) (inr k) = chains_one_way a.chain b.chain h.1 k.1

-- ## all stacks

stacked_from : OneResistance → (tech : Tech) (vias : List NamedVia) (spots : List Spot) (pieces : List Piece) (a b : List Stacked) → AreStacked tech vias spots pieces a
    → AreStacked tech vias spots pieces b → (s : Stacked) → Contains a s → Contains b s
stacked_from one tech vias spots pieces a b p q s has =
    let placed : p.placed ≡ q.placed = one_placed vias pieces spots p.placed q.placed p.are_placed q.are_placed in
    let chain : IsChain q.placed s.chain = subst (λ (vs : List ViaAt). IsChain vs s.chain) placed (All-contains (λ (s : Stacked). IsChain p.placed s.chain) a s p.each has) in
    let found : Among (λ (t : Stacked). t.chain ≡ s.chain) b = q.every s.chain chain in
    let of_s = All-contains (λ (s : Stacked). IsStackOf tech vias s.chain s.at) a s p.stacks has in
    let of_t = All-contains (λ (s : Stacked). IsStackOf tech vias s.chain s.at) b found.0 q.stacks found.1 in
    let at : found.0.at ≡ s.at = stack_same one tech vias s.chain found.0.at s.at (subst (λ (c : List ViaAt). IsStackOf tech vias c found.0.at) found.2 of_t) of_s in
    let same : found.0 ≡ s = λ i. record { chain = found.2 i; at = at i } in
    subst (Contains b) same found.1

stacked_same : OneResistance → (tech : Tech) (vias : List NamedVia) (spots : List Spot) (pieces : List Piece) (a b : List Stacked) → AreStacked tech vias spots pieces a
    → AreStacked tech vias spots pieces b → a ≡ b
stacked_same one tech vias spots pieces a b p q =
    same_list GoesBefore goes_one_way a b p.in_order q.in_order (stacked_from one tech vias spots pieces a b p q) (stacked_from one tech vias spots pieces b a q p)

pub one_stacks : OneResistance → (tech : Tech) (vias : List NamedVia) (spots : List Spot) (pieces : List Piece) (a b : List StackAt) → AreStacks tech vias spots pieces a
    → AreStacks tech vias spots pieces b → a ≡ b
one_stacks one tech vias spots pieces a b p q =
    p.are ∙ ap (map (λ (s : Stacked). s.at)) (stacked_same one tech vias spots pieces p.stacked q.stacked p.are_stacked q.are_stacked) ∙ sym q.are

-- ## ends

abbrev pub BadEnd : Tech → List NamedVia → List Spot → List Piece → WiredError → Type 0
BadEnd tech vias spots pieces e = (via : ℕ) × (x : ℤ) × (y : ℤ) × IsFirstOff tech vias spots pieces via x y × (e ≡ ViaOff via x y)

abbrev pub SomeStacks : Tech → List NamedVia → List Spot → List Piece → Type 0
SomeStacks tech vias spots pieces = (stacks : List StackAt) × AreStacks tech vias spots pieces stacks

not_off : (pieces : List Piece) (s : Stacked) (via : ℕ) → HasEnds pieces s.at → IsEndOff pieces s via → ⊥
not_off pieces s via ends (inl off) = off.0 ends.0
not_off pieces s via ends (inr off) = off.1 ends.1

end_same : (pieces : List Piece) (s : Stacked) (v w : ℕ) → IsEndOff pieces s v → IsEndOff pieces s w → v ≡ w
end_same pieces s v w (inl a) (inl b) = sym (a.1 no_via) ∙ b.1 no_via
end_same pieces s v w (inl a) (inr b) = absurd (a.0 b.0)
end_same pieces s v w (inr a) (inl b) = absurd (b.0 a.0)
end_same pieces s v w (inr a) (inr b) = sym (a.2 no_via) ∙ b.2 no_via

stands_at : {X : Type 0} (xs : List X) (k : ℕ) (x : X) → slice_get xs k ≡ Some x → Contains xs x
stands_at xs k x at = (k, slice_get_within xs k x at, get_or_from_slice_get xs k x x at)

image_of : {X Y : Type 0} (f : X → Y) (xs : List X) (x : X) → Contains xs x → Contains (map f xs) (f x)
image_of f xs x (k, within, is) = (k, omega (arith, length-map xs f), get_or-map f xs k x (f x) within ∙ ap f is)

ends_of : (pieces : List Piece) (all : List Stacked) (stacks : List StackAt) → stacks ≡ map (λ (s : Stacked). s.at) all → All (HasEnds pieces) stacks → (s : Stacked) → Contains all s
    → HasEnds pieces s.at
ends_of pieces all stacks are ends s has =
    All-contains (HasEnds pieces) (map (λ (s : Stacked). s.at) all) s.at (subst (All (HasEnds pieces)) are ends) (image_of (λ (s : Stacked). s.at) all s has)

pub ends_one : OneResistance → (tech : Tech) (vias : List NamedVia) (spots : List Spot) (pieces : List Piece) → One (SomeStacks tech vias spots pieces) (BadEnd tech vias spots pieces)
ends_one one tech vias spots pieces = record { apart = apart; one = only }
  where
    apart : (e : WiredError) → SomeStacks tech vias spots pieces → BadEnd tech vias spots pieces e → ⊥
    apart e (stacks, are) (via, x, y, first, is) =
        let same : first.stacked ≡ are.stacked = stacked_same one tech vias spots pieces first.stacked are.stacked first.are_stacked are.are_stacked in
        let has : Contains are.stacked first.one = subst (λ (l : List Stacked). Contains l first.one) same (stands_at first.stacked first.number first.one first.stands) in
        not_off pieces first.one via (ends_of pieces are.stacked stacks are.are are.ends first.one has) first.off

    same_off : (v w : ℕ) (x y a b : ℤ) (p : IsFirstOff tech vias spots pieces v x y) (q : IsFirstOff tech vias spots pieces w a b) → p.stacked ≡ q.stacked
        → (p.number < q.number) ⊎ (q.number ≤ p.number) → (q.number < p.number) ⊎ (p.number ≤ q.number) → ViaOff v x y ≡ ViaOff w a b
    same_off v w x y a b p q same (inl before) _ =
        absurd (not_off pieces p.one v (q.before p.number p.one before (subst (λ (l : List Stacked). slice_get l p.number ≡ Some p.one) same p.stands)) p.off)
    same_off v w x y a b p q same (inr _) (inl before) =
        absurd (not_off pieces q.one w (p.before q.number q.one before (subst (λ (l : List Stacked). slice_get l q.number ≡ Some q.one) (sym same) q.stands)) q.off)
    same_off v w x y a b p q same (inr low) (inr high) =
        let number : p.number ≡ q.number = omega arith in
        let there : slice_get q.stacked q.number ≡ Some p.one =
        subst (λ n. slice_get q.stacked n ≡ Some p.one) number (subst (λ (l : List Stacked). slice_get l p.number ≡ Some p.one) same p.stands) in
        let s : p.one ≡ q.one = some_same (slice_get q.stacked q.number) (slice_get q.stacked q.number) p.one q.one there q.stands refl in
        let via : v ≡ w = end_same pieces q.one v w (subst (λ (z : Stacked). IsEndOff pieces z v) s p.off) q.off in
        let at_x : x ≡ a = sym p.at_x ∙ ap (λ (z : Stacked). z.at.x) s ∙ q.at_x in
        let at_y : y ≡ b = sym p.at_y ∙ ap (λ (z : Stacked). z.at.y) s ∙ q.at_y in
        λ i. ViaOff (via i) (at_x i) (at_y i)

    only : (e f : WiredError) → BadEnd tech vias spots pieces e → BadEnd tech vias spots pieces f → e ≡ f
    only e f (v, x, y, p, is) (w, a, b, q, so) =
        is
        ∙ same_off v w x y a b p q (stacked_same one tech vias spots pieces p.stacked q.stacked p.are_stacked q.are_stacked) (cases_lt p.number q.number) (cases_lt q.number p.number)
        ∙ sym so
