-- The vias of arrays: each is one of the arrays, and each array has one of them.
use Rattle.std.proofs.Common.{◌≡◌, suc, ◌⊎◌, inl, inr, All, List, [], ◌∷◌, fold, refl, sym, ◌∙◌, arith}
use Rattle.std.specs.Prelude.{Contains}
use Rattle.std.specs.Map.{values_of}
use Rattle.std.specs.Ordering.{match_ordering, nat_cmp, ordering_then}
use Rattle.std.specs.declared.cmp.Ordering.{Ordering}
use Rattle.std.specs.declared.cmp.Ordering.TheVariants.{Less, Equal, Greater}
use Rattle.std.proofs.lemmas.List.Elements.{All-nil, All-cons, All-head, All-tail, All-contains}
use Rattle.std.proofs.lemmas.Map.Views.{All-values-insert_entry}
use Rattle.def_writer.specs.declared.via.Via.{Via}
use Rattle.def_writer.specs.Via.{via_of, via_order, with_array, by_via, vias_of}
use Rattle.via_arrays.specs.declared.parts.CutArray.{CutArray}
use Rattle.grid_pieces.specs.Laws.Orders.{then_equal, nat_equal}

-- ## each is one of the arrays

fold_keeps : (P : CutArray → Type 0) (arrays : List CutArray) (es : List (Via × CutArray)) → All P arrays → All P (values_of es) → All P (values_of (fold with_array es arrays))
fold_keeps P [] es all h = h
fold_keeps P (a ∷ arrays) es all h =
    fold_keeps P arrays (with_array es a) (All-tail P a arrays all) (All-values-insert_entry via_order (via_of a) a P es h (All-head P a arrays all))

-- What all arrays have, all vias have.
pub vias_keep : (P : CutArray → Type 0) (arrays : List CutArray) → All P arrays → All P (vias_of arrays)
vias_keep P arrays all = fold_keeps P arrays [] all (All-nil P)

-- ## each array has one

equal_vias : (v w : Via) → via_order v w ≡ Equal → v ≡ w
equal_vias v w e =
    let first = then_equal (ordering_then (nat_cmp v.rule w.rule) (nat_cmp v.columns w.columns)) (nat_cmp v.rows w.rows) e in
    let second = then_equal (nat_cmp v.rule w.rule) (nat_cmp v.columns w.columns) first.0 in
    let rule = nat_equal v.rule w.rule second.0 in
    let columns = nat_equal v.columns w.columns second.1 in
    let rows = nat_equal v.rows w.rows first.1 in
    λ i. record { rule = rule i; columns = columns i; rows = rows i }

abbrev AreKeyed : List (Via × CutArray) → Type 0
AreKeyed [] = Unit {0}
AreKeyed (e ∷ es) = (via_of e.1 ≡ e.0) × AreKeyed es

-- One of the arrays has this via.
abbrev Has : List (Via × CutArray) → Via → Type 0
Has [] via = ⊥
Has (e ∷ es) via = (via_of e.1 ≡ via) ⊎ Has es via

-- What one more array makes of arrays that begin with this one.
abbrev with_head : Ordering → CutArray → Via × CutArray → List (Via × CutArray) → List (Via × CutArray) → List (Via × CutArray)
with_head o a e es rest = match_ordering o ((via_of a, a) ∷ e ∷ es) ((e.0, a) ∷ es) (e ∷ rest)

keyed_head : (o : Ordering) (a : CutArray) (e : Via × CutArray) (es rest : List (Via × CutArray)) → via_order (via_of a) e.0 ≡ o → AreKeyed (e ∷ es) → AreKeyed rest
    → AreKeyed (with_head o a e es rest)
keyed_head Less a e es rest is h r = (refl, h)
keyed_head Equal a e es rest is h r = (equal_vias (via_of a) e.0 is, h.1)
keyed_head Greater a e es rest is h r = (h.0, r)

keyed_more : (a : CutArray) (es : List (Via × CutArray)) → AreKeyed es → AreKeyed (with_array es a)
keyed_more a [] h = (refl, tt)
keyed_more a (e ∷ es) h = keyed_head (via_order (via_of a) e.0) a e es (with_array es a) refl h (keyed_more a es h.1)

has_head : (o : Ordering) (a : CutArray) (e : Via × CutArray) (es rest : List (Via × CutArray)) → Has rest (via_of a) → Has (with_head o a e es rest) (via_of a)
has_head Less a e es rest r = inl refl
has_head Equal a e es rest r = inl refl
has_head Greater a e es rest r = inr r

has_itself : (a : CutArray) (es : List (Via × CutArray)) → Has (with_array es a) (via_of a)
has_itself a [] = inl refl
has_itself a (e ∷ es) = has_head (via_order (via_of a) e.0) a e es (with_array es a) (has_itself a es)

had_head : (o : Ordering) (a : CutArray) (e : Via × CutArray) (es rest : List (Via × CutArray)) (via : Via) → via_order (via_of a) e.0 ≡ o → AreKeyed (e ∷ es) → Has (e ∷ es) via
    → (Has es via → Has rest via) → Has (with_head o a e es rest) via
had_head Less a e es rest via is keyed h more = inr h
had_head Equal a e es rest via is keyed (inl here) more = inl (equal_vias (via_of a) e.0 is ∙ sym keyed.0 ∙ here)
had_head Equal a e es rest via is keyed (inr later) more = inr later
had_head Greater a e es rest via is keyed (inl here) more = inl here
had_head Greater a e es rest via is keyed (inr later) more = inr (more later)

has_still : (a : CutArray) (es : List (Via × CutArray)) (via : Via) → AreKeyed es → Has es via → Has (with_array es a) via
has_still a [] via keyed h = absurd h
has_still a (e ∷ es) via keyed h = had_head (via_order (via_of a) e.0) a e es (with_array es a) via refl keyed h (λ later. has_still a es via keyed.1 later)

all_still : (arrays : List CutArray) (es : List (Via × CutArray)) (via : Via) → AreKeyed es → Has es via → Has (fold with_array es arrays) via
all_still [] es via keyed h = h
all_still (a ∷ arrays) es via keyed h = all_still arrays (with_array es a) via (keyed_more a es keyed) (has_still a es via keyed h)

all_had : (arrays : List CutArray) (es : List (Via × CutArray)) → AreKeyed es → All (λ (a : CutArray). Has (fold with_array es arrays) (via_of a)) arrays
all_had [] es keyed = All-nil (λ (a : CutArray). Has es (via_of a))
all_had (a ∷ arrays) es keyed =
    All-cons (λ (b : CutArray). Has (fold with_array (with_array es a) arrays) (via_of b)) a arrays
    (all_still arrays (with_array es a) (via_of a) (keyed_more a es keyed) (has_itself a es)) (all_had arrays (with_array es a) (keyed_more a es keyed))

one_has : (es : List (Via × CutArray)) (via : Via) → Has es via → (b : CutArray) × Contains (values_of es) b × (via_of b ≡ via)
one_has [] via h = absurd h
one_has (e ∷ es) via (inl here) = (e.1, (0, omega arith, refl), here)
one_has (e ∷ es) via (inr later) = let (b, (k, within, at), is) = one_has es via later in (b, (suc k, omega (arith, within), at), is)

pub has_via : (arrays : List CutArray) (a : CutArray) → Contains arrays a → (b : CutArray) × Contains (vias_of arrays) b × (via_of b ≡ via_of a)
has_via arrays a there = one_has (by_via arrays) (via_of a) (All-contains (λ (b : CutArray). Has (by_via arrays) (via_of b)) arrays a (all_had arrays [] tt) there)
