-- The vias of a grid have names of their own, and each array has one of them.
use Rattle.std.proofs.Common.{◌≡◌, ◌≢◌, ℕ, suc, ◌+◌, ◌^◌, ◌<◌, ◌≤◌, List, [], ◌∷◌, ◌++◌, length, drop, map, refl, sym, ◌∙◌, ap, subst, append_assoc, arith, inl, inr, fold}
use Rattle.std.specs.Prelude.{All, AllPairs, Contains, ◌⊎◌, decimal}
use Rattle.std.specs.Cmp.{IsTotalOrder}
use Rattle.std.specs.Map.{values_of}
use Rattle.std.specs.Ordering.{match_ordering, nat_cmp, ordering_then, ordering_reverse, MatchOrdering}
use Rattle.std.specs.declared.cmp.Ordering.{Ordering}
use Rattle.std.specs.declared.cmp.Ordering.TheVariants.{Less, Equal, Greater}
use Rattle.std.specs.Str.Parse.{AllDigits, digits_value}
use Rattle.std.proofs.lemmas.Cmp.{ranked, nat_cmp_total, on_total, then_total}
use Rattle.std.proofs.lemmas.Fmt.{decimal_is_IsNumeral_wide}
use Rattle.std.proofs.lemmas.Str.Parse.{digit_from_value}
use Rattle.std.proofs.lemmas.List.Elements.{All-nil, All-cons, All-head, All-tail}
use Rattle.std.proofs.lemmas.List.Kept.{AllPairs-cons}
use Rattle.via_arrays.specs.declared.parts.CutArray.{CutArray}
use Rattle.def_writer.specs.declared.via.Via.{Via}
use Rattle.def_writer.specs.Via.{via_of, via_order, via_name, with_array, by_via, vias_of}
use Rattle.written_wiring.proofs.Names.{IsFew}

-- ## a name tells its via

-- No byte is `_` (95).
abbrev NoMark : List ℕ → Type 0
NoMark [] = Unit {0}
NoMark (c ∷ cs) = (c ≡ 95 → ⊥) × NoMark cs

digits_unmarked : (digits : List ℕ) → AllDigits 10 digits → NoMark digits
digits_unmarked [] h = tt
digits_unmarked (c ∷ cs) h =
    let range = digit_from_value c h.0 in
    let high : c ≤ 57 = range.1 in
    (λ e. omega arith, digits_unmarked cs h.1)

decimal_unmarked : (n : ℕ) → n < 10 ^ 64 → NoMark (decimal n)
decimal_unmarked n few = digits_unmarked (decimal n) (decimal_is_IsNumeral_wide n few).0.1

same_decimal : (m n : ℕ) → m < 10 ^ 64 → n < 10 ^ 64 → decimal m ≡ decimal n → m ≡ n
same_decimal m n few_m few_n e = sym (decimal_is_IsNumeral_wide m few_m).1 ∙ ap (digits_value 10) e ∙ (decimal_is_IsNumeral_wide n few_n).1

same_head : (a b : ℕ) (xs ys : List ℕ) → a ∷ xs ≡ b ∷ ys → a ≡ b
same_head a b xs ys e = cc

same_tail : (a b : ℕ) (xs ys : List ℕ) → a ∷ xs ≡ b ∷ ys → xs ≡ ys
same_tail a b xs ys e = cc

-- What stands before the first mark, and what stands after it.
split_mark : (xs ys us vs : List ℕ) → NoMark xs → NoMark ys → xs ++ 95 ∷ us ≡ ys ++ 95 ∷ vs → (xs ≡ ys) × (us ≡ vs)
split_mark [] [] us vs h k e = (refl, same_tail 95 95 us vs e)
split_mark [] (y ∷ ys) us vs h k e = absurd (k.0 (sym (same_head 95 y us (ys ++ 95 ∷ vs) e)))
split_mark (x ∷ xs) [] us vs h k e = absurd (h.0 (same_head x 95 (xs ++ 95 ∷ us) vs e))
split_mark (x ∷ xs) (y ∷ ys) us vs h k e =
    let more = split_mark xs ys us vs h.1 k.1 (same_tail x y (xs ++ 95 ∷ us) (ys ++ 95 ∷ vs) e) in
    (ap (λ z. z ∷ xs) (same_head x y (xs ++ 95 ∷ us) (ys ++ 95 ∷ vs) e) ∙ ap (λ z. y ∷ z) more.0, more.1)

-- The numbers of a via's name.
abbrev numbers_of : Via → List ℕ
numbers_of via = decimal (via.rule + 1) ++ (95 ∷ (decimal via.columns ++ (95 ∷ decimal via.rows)))

numbers_are : (via : Via) → drop 4 (via_name via) ≡ numbers_of via
numbers_are via =
    let a : List ℕ = decimal (via.rule + 1) in
    let b : List ℕ = decimal via.columns in
    let c : List ℕ = decimal via.rows in
    append_assoc ((a ++ 95 ∷ []) ++ b) (95 ∷ []) c ∙ append_assoc (a ++ 95 ∷ []) b (95 ∷ c) ∙ append_assoc a (95 ∷ []) (b ++ 95 ∷ c)

pub same_via : (v w : Via) → IsFew v → IsFew w → via_name v ≡ via_name w → v ≡ w
same_via v w few_v few_w e =
    let numbers : numbers_of v ≡ numbers_of w = sym (numbers_are v) ∙ ap (drop 4) e ∙ numbers_are w in
    let one = split_mark (decimal (v.rule + 1)) (decimal (w.rule + 1)) (decimal v.columns ++ 95 ∷ decimal v.rows) (decimal w.columns ++ 95 ∷ decimal w.rows)
    (decimal_unmarked (v.rule + 1) few_v.rule) (decimal_unmarked (w.rule + 1) few_w.rule) numbers in
    let two = split_mark (decimal v.columns) (decimal w.columns) (decimal v.rows) (decimal w.rows) (decimal_unmarked v.columns few_v.columns) (decimal_unmarked w.columns few_w.columns) one.1 in
    let next : v.rule + 1 ≡ w.rule + 1 = same_decimal (v.rule + 1) (w.rule + 1) few_v.rule few_w.rule one.0 in
    let rule : v.rule ≡ w.rule = omega arith in
    let columns : v.columns ≡ w.columns = same_decimal v.columns w.columns few_v.columns few_w.columns two.0 in
    let rows : v.rows ≡ w.rows = same_decimal v.rows w.rows few_v.rows few_w.rows two.1 in
    λ i. record { rule = rule i; columns = columns i; rows = rows i }

-- ## the order of vias

nat_equal : (m n : ℕ) → nat_cmp m n ≡ Equal → m ≡ n
nat_equal m n e = let F : Ordering → Type 0 = λ r. MatchOrdering r (m < n) (m ≡ n) (n < m) in subst F e (ranked m n (nat_cmp m n) refl)

then_equal : (o p : Ordering) → ordering_then o p ≡ Equal → (o ≡ Equal) × (p ≡ Equal)
then_equal Less p e = absurd (cc)
then_equal Equal p e = (refl, e)
then_equal Greater p e = absurd (cc)

equal_vias : (v w : Via) → via_order v w ≡ Equal → v ≡ w
equal_vias v w e =
    let first = then_equal (ordering_then (nat_cmp v.rule w.rule) (nat_cmp v.columns w.columns)) (nat_cmp v.rows w.rows) e in
    let second = then_equal (nat_cmp v.rule w.rule) (nat_cmp v.columns w.columns) first.0 in
    let rule = nat_equal v.rule w.rule second.0 in
    let columns = nat_equal v.columns w.columns second.1 in
    let rows = nat_equal v.rows w.rows first.1 in
    λ i. record { rule = rule i; columns = columns i; rows = rows i }

via_total : IsTotalOrder via_order
via_total = then_total (then_total (on_total (λ (v : Via). v.rule) nat_cmp_total) (on_total (λ (v : Via). v.columns) nat_cmp_total)) (on_total (λ (v : Via). v.rows) nat_cmp_total)

not_itself : (v : Via) → via_order v v ≡ Less → ⊥
not_itself v e =
    let same : Less ≡ Greater = sym e ∙ via_total.antisymm v v ∙ ap ordering_reverse e in cc

turned : (v w : Via) → via_order v w ≡ Greater → via_order w v ≡ Less
turned v w e = via_total.antisymm w v ∙ ap ordering_reverse e

-- ## the arrays by their vias

abbrev Entry : Type 0
Entry = Via × CutArray

abbrev Above : Via → List Entry → Type 0
Above k [] = Unit {0}
Above k (e ∷ es) = (via_order k e.0 ≡ Less) × Above k es

-- The vias rise, and each is that of its array.
abbrev AreInOrder : List Entry → Type 0
AreInOrder [] = Unit {0}
AreInOrder (e ∷ es) = Above e.0 es × AreInOrder es

abbrev AreKeyed : List Entry → Type 0
AreKeyed [] = Unit {0}
AreKeyed (e ∷ es) = (via_of e.1 ≡ e.0) × AreKeyed es

abbrev name_of : CutArray → List ℕ
name_of a = via_name (via_of a)

-- One of the arrays has the via of this name.
abbrev Has : List Entry → List ℕ → Type 0
Has [] name = ⊥
Has (e ∷ es) name = (name_of e.1 ≡ name) ⊎ Has es name

above_all : (k l : Via) → via_order k l ≡ Less → (es : List Entry) → Above l es → Above k es
above_all k l less [] h = tt
above_all k l less (e ∷ es) h = (via_total.trans k l e.0 less h.0, above_all k l less es h.1)

-- What one more array makes of arrays that begin with this one.
abbrev with_head : Ordering → CutArray → Entry → List Entry → List Entry → List Entry
with_head o a e es rest = match_ordering o ((via_of a, a) ∷ e ∷ es) ((e.0, a) ∷ es) (e ∷ rest)

above_head : (k : Via) (o : Ordering) (a : CutArray) (e : Entry) (es rest : List Entry) → via_order k (via_of a) ≡ Less → Above k (e ∷ es) → Above k rest → Above k (with_head o a e es rest)
above_head k Less a e es rest less h r = (less, h)
above_head k Equal a e es rest less h r = h
above_head k Greater a e es rest less h r = (h.0, r)

above_more : (k : Via) (a : CutArray) (es : List Entry) → via_order k (via_of a) ≡ Less → Above k es → Above k (with_array es a)
above_more k a [] less h = (less, tt)
above_more k a (e ∷ es) less h = above_head k (via_order (via_of a) e.0) a e es (with_array es a) less h (above_more k a es less h.1)

order_head : (o : Ordering) (a : CutArray) (e : Entry) (es rest : List Entry) → via_order (via_of a) e.0 ≡ o → AreInOrder (e ∷ es) → (via_order e.0 (via_of a) ≡ Less → Above e.0 rest) →
    AreInOrder rest → AreInOrder (with_head o a e es rest)
order_head Less a e es rest is h above r = ((is, above_all (via_of a) e.0 is es h.0), h)
order_head Equal a e es rest is h above r = h
order_head Greater a e es rest is h above r = (above (turned (via_of a) e.0 is), r)

order_more : (a : CutArray) (es : List Entry) → AreInOrder es → AreInOrder (with_array es a)
order_more a [] h = (tt, tt)
order_more a (e ∷ es) h =
    order_head (via_order (via_of a) e.0) a e es (with_array es a) refl h (λ less. above_more e.0 a es less h.0) (order_more a es h.1)

keyed_head : (o : Ordering) (a : CutArray) (e : Entry) (es rest : List Entry) → via_order (via_of a) e.0 ≡ o → AreKeyed (e ∷ es) → AreKeyed rest → AreKeyed (with_head o a e es rest)
keyed_head Less a e es rest is h r = (refl, h)
keyed_head Equal a e es rest is h r = (equal_vias (via_of a) e.0 is, h.1)
keyed_head Greater a e es rest is h r = (h.0, r)

keyed_more : (a : CutArray) (es : List Entry) → AreKeyed es → AreKeyed (with_array es a)
keyed_more a [] h = (refl, tt)
keyed_more a (e ∷ es) h = keyed_head (via_order (via_of a) e.0) a e es (with_array es a) refl h (keyed_more a es h.1)

has_head : (o : Ordering) (a : CutArray) (e : Entry) (es rest : List Entry) → Has rest (name_of a) → Has (with_head o a e es rest) (name_of a)
has_head Less a e es rest r = inl refl
has_head Equal a e es rest r = inl refl
has_head Greater a e es rest r = inr r

has_itself : (a : CutArray) (es : List Entry) → Has (with_array es a) (name_of a)
has_itself a [] = inl refl
has_itself a (e ∷ es) = has_head (via_order (via_of a) e.0) a e es (with_array es a) (has_itself a es)

had_head : (o : Ordering) (a : CutArray) (e : Entry) (es rest : List Entry) (name : List ℕ) → via_order (via_of a) e.0 ≡ o → AreKeyed (e ∷ es) → Has (e ∷ es) name → (Has es name → Has rest name) →
    Has (with_head o a e es rest) name
had_head Less a e es rest name is keyed h more = inr h
had_head Equal a e es rest name is keyed (inl here) more = inl (ap via_name (equal_vias (via_of a) e.0 is ∙ sym keyed.0) ∙ here)
had_head Equal a e es rest name is keyed (inr later) more = inr later
had_head Greater a e es rest name is keyed (inl here) more = inl here
had_head Greater a e es rest name is keyed (inr later) more = inr (more later)

has_still : (a : CutArray) (es : List Entry) (name : List ℕ) → AreKeyed es → Has es name → Has (with_array es a) name
has_still a [] name keyed h = absurd h
has_still a (e ∷ es) name keyed h = had_head (via_order (via_of a) e.0) a e es (with_array es a) name refl keyed h (λ later. has_still a es name keyed.1 later)

-- ## all arrays

all_in_order : (arrays : List CutArray) (es : List Entry) → AreInOrder es → AreInOrder (fold with_array es arrays)
all_in_order [] es h = h
all_in_order (a ∷ arrays) es h = all_in_order arrays (with_array es a) (order_more a es h)

all_keyed : (arrays : List CutArray) (es : List Entry) → AreKeyed es → AreKeyed (fold with_array es arrays)
all_keyed [] es h = h
all_keyed (a ∷ arrays) es h = all_keyed arrays (with_array es a) (keyed_more a es h)

all_still : (arrays : List CutArray) (es : List Entry) (name : List ℕ) → AreKeyed es → Has es name → Has (fold with_array es arrays) name
all_still [] es name keyed h = h
all_still (a ∷ arrays) es name keyed h = all_still arrays (with_array es a) name (keyed_more a es keyed) (has_still a es name keyed h)

all_had : (arrays : List CutArray) (es : List Entry) → AreKeyed es → All (λ (a : CutArray). Has (fold with_array es arrays) (name_of a)) arrays
all_had [] es keyed = All-nil (λ (a : CutArray). Has es (name_of a))
all_had (a ∷ arrays) es keyed =
    let now : List Entry = with_array es a in
    All-cons (λ (b : CutArray). Has (fold with_array now arrays) (name_of b)) a arrays
    (all_still arrays now (name_of a) (keyed_more a es keyed) (has_itself a es)) (all_had arrays now (keyed_more a es keyed))

-- ## names

contains_next : (x name : List ℕ) (xs : List (List ℕ)) → Contains xs name → Contains (x ∷ xs) name
contains_next x name xs h = let within : h.0 < length xs = h.1 in (suc h.0, omega arith, h.2)

contains_has : (es : List Entry) (name : List ℕ) → Has es name → Contains (map name_of (values_of es)) name
contains_has [] name h = absurd h
contains_has (e ∷ es) name (inl here) = (0, omega arith, here)
contains_has (e ∷ es) name (inr later) = contains_next (name_of e.1) name (map name_of (values_of es)) (contains_has es name later)

-- Each array has one of the vias' names.
pub all_named : (arrays : List CutArray) → All (λ (a : CutArray). Contains (map name_of (vias_of arrays)) (name_of a)) arrays
all_named arrays = λ k d within. contains_has (by_via arrays) _ (all_had arrays [] tt k d within)

names_above : (v : Via) (es : List Entry) → IsFew v → Above v es → AreKeyed es → All (λ (a : CutArray). IsFew (via_of a)) (values_of es) →
    All (λ name. via_name v ≢ name) (map name_of (values_of es))
names_above v [] few above keyed all = All-nil (λ name. via_name v ≢ name)
names_above v (e ∷ es) few above keyed all =
    All-cons (λ name. via_name v ≢ name) (name_of e.1) (map name_of (values_of es))
    (λ same. not_itself v (subst (λ (z : Via). via_order v z ≡ Less) (sym (same_via v (via_of e.1) few (All-head (λ (a : CutArray). IsFew (via_of a)) e.1 (values_of es) all) same ∙ keyed.0)) above.0))
    (names_above v es few above.1 keyed.1 (All-tail (λ (a : CutArray). IsFew (via_of a)) e.1 (values_of es) all))

names_apart : (es : List Entry) → AreInOrder es → AreKeyed es → All (λ (a : CutArray). IsFew (via_of a)) (values_of es) → AllPairs (λ a b. a ≢ b) (map name_of (values_of es))
names_apart [] order keyed all = λ i j d lt within. absurd (omega arith)
names_apart (e ∷ es) order keyed all =
    let few : IsFew (via_of e.1) = All-head (λ (a : CutArray). IsFew (via_of a)) e.1 (values_of es) all in
    let above : Above (via_of e.1) es = subst (λ (z : Via). Above z es) (sym keyed.0) order.0 in
    AllPairs-cons (λ a b. a ≢ b) (name_of e.1) (map name_of (values_of es))
    (names_above (via_of e.1) es few above keyed.1 (All-tail (λ (a : CutArray). IsFew (via_of a)) e.1 (values_of es) all))
    (names_apart es order.1 keyed.1 (All-tail (λ (a : CutArray). IsFew (via_of a)) e.1 (values_of es) all))

-- No two vias have one name.
pub vias_apart : (arrays : List CutArray) → All (λ (a : CutArray). IsFew (via_of a)) (vias_of arrays) → AllPairs (λ a b. a ≢ b) (map name_of (vias_of arrays))
vias_apart arrays all = names_apart (by_via arrays) (all_in_order arrays [] tt) (all_keyed arrays [] tt) all
