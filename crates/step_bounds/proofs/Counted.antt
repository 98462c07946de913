-- What the capacitors that count keep.
use Rattle.std.proofs.Common.{◌≡◌, ℕ, ◌+◌, ◌*◌, ◌^◌, ◌<◌, ℤ, pos, ◌+ℤ◌, ◌*ℤ◌, ◌≤ℤ◌, ◌<ℤ◌, arith, refl, sym, ap, ◌∙◌, List, [], ◌∷◌, ◌++◌, length, get_or, take, Option, Some, None, Bool, true, false, cond, ◌&&◌, ltb, is_none, append-nil}
use Rattle.std.proofs.lemmas.Int.{ints, clamps}
use Rattle.std.specs.Int.{int_max}
use Rattle.std.specs.List.{filter_map, cons_option}
use Rattle.std.specs.Option.{option_map}
use Rattle.std.specs.Prelude.{int_le}
use Rattle.std.proofs.lemmas.List.{take_more}
use Rattle.std.proofs.lemmas.List.Elements.{All-nil, All-cons, filter_map-append}
use Rattle.rounding.specs.Rounding.{floor_div}
use Rattle.rounding.specs.Laws.{floor_is, floor_unique, times_one}
use Rattle.grid_net.specs.Network.{Network, pad_at}
use Rattle.grid_net.specs.Search.{or_else}
use Rattle.capacitors.specs.declared.Cap.{Cap}
use Rattle.capacitors.specs.declared.End.{End}
use Rattle.capacitors.specs.declared.End.TheVariants.{Node, Ground, Nowhere}
use Rattle.step_bounds.specs.declared.companion.Companion.{Companion}
use Rattle.step_bounds.specs.Capacitors.{is_held, free_end, counts_at, companion_ohms, companion_of, companions}
use Rattle.step_bounds.specs.inside.Extension.{AreCompanions}
use borrow.Author.Tests.{ltb-true}

-- ---- where a capacitor counts
no_some : (i : ℕ) → None ≡ Some i → ⊥
no_some i e = let f : ◌≡◌ {A = Option ℕ} None (Some i) = e in cc

free_is_node : (net : Network) (e o : End) (i : ℕ) → free_end net e o ≡ Some i → i < net.nodes
free_is_node net (Node j) o i told = by_test (ltb j net.nodes) (is_none (pad_at net j)) (is_held net o) refl told
  where
    by_test : (a b c : Bool) → ltb j net.nodes ≡ a → cond ((a && b) && c) (Some j) None ≡ Some i → i < net.nodes
    by_test true true true e told = let same : j ≡ i = cc in let l = ltb-true j net.nodes e in omega (arith, l, same)
    by_test true true false e told = absurd (no_some i told)
    by_test true false c e told = absurd (no_some i told)
    by_test false b c e told = absurd (no_some i told)
free_is_node net Ground o i told = absurd (no_some i told)
free_is_node net Nowhere o i told = absurd (no_some i told)

either : (a b : Option ℕ) (n i : ℕ) → ((j : ℕ) → a ≡ Some j → j < n) → ((j : ℕ) → b ≡ Some j → j < n) → or_else a b ≡ Some i → i < n
either None b n i h k told = k i told
either (Some j) b n i h k told = h i told

counts_at_node : (net : Network) (cap : Cap) (i : ℕ) → counts_at net cap ≡ Some i → i < net.nodes
counts_at_node net cap i told = by_test (int_le (pos 1) cap.farads) told
  where
    by_test : (b : Bool) → cond b (or_else (free_end net cap.a cap.b) (free_end net cap.b cap.a)) None ≡ Some i → i < net.nodes
    by_test true told = either (free_end net cap.a cap.b) (free_end net cap.b cap.a) net.nodes i
        (λ j e. free_is_node net cap.a cap.b j e) (λ j e. free_is_node net cap.b cap.a j e) told
    by_test false told = absurd (no_some i told)

at_least_one : (z : ℤ) → pos 1 ≤ℤ int_max (pos 1) z
at_least_one z = omega (arith, ints, clamps)

-- Each of those that count stands at a node, with a resistance of at least 1.
pub all_fit : (net : Network) (caps : List Cap) (time : ℕ) → AreCompanions net (companions net caps time)
all_fit net [] time = All-nil (λ x. (x.node < net.nodes) × (pos 1 ≤ℤ x.ohms))
all_fit net (one ∷ caps) time = by_answer (counts_at net one) (λ i e. counts_at_node net one i e) (all_fit net caps time)
  where
    by_answer : (o : Option ℕ) → ((i : ℕ) → o ≡ Some i → i < net.nodes) → AreCompanions net (companions net caps time)
        → AreCompanions net (cons_option (option_map (λ i. record { node = i; ohms = companion_ohms time one.farads }) o) (companions net caps time))
    by_answer None h rest = rest
    by_answer (Some i) h rest =
        All-cons (λ x. (x.node < net.nodes) × (pos 1 ≤ℤ x.ohms)) (record { node = i; ohms = companion_ohms time one.farads })
        (companions net caps time) (h i refl, at_least_one (floor_div (pos (2 * (time * 10 ^ 15)) +ℤ one.farads) (pos 2 *ℤ one.farads))) rest

-- ---- the resistance
-- Where the capacitance is more than twice the time, the resistance is 1.
pub ohms_small : (twice : ℕ) (farads : ℤ) → pos twice <ℤ farads
    → pos 1 ≡ int_max (pos 1) (floor_div (pos twice +ℤ farads) (pos 2 *ℤ farads))
ohms_small twice farads l =
    let r = pos 2 *ℤ farads in
    let z = pos twice +ℤ farads in
    let positive : pos 1 ≤ℤ r = omega (arith, ints) in
    let zero : r *ℤ pos 0 ≡ pos 0 = omega (arith, ints) in
    let one = times_one r in
    let none : floor_div z r ≡ pos 0 = floor_unique z r (floor_div z r) (pos 0) positive (floor_is z r positive)
    (record { reached = omega (arith, ints, zero); next_is_above = (let next : pos 0 +ℤ pos 1 ≡ pos 1 = refl in omega (arith, ints, one)) }) in
    ap (int_max (pos 1)) (sym none)

-- ---- one more card
pub one_counts : (net : Network) (time : ℕ) (caps : List Cap) (cap : Cap) (found : List Companion) (x : Companion)
    → found ≡ filter_map (companion_of net time) caps → companion_of net time cap ≡ Some x
    → found ++ x ∷ [] ≡ filter_map (companion_of net time) (caps ++ cap ∷ [])
one_counts net time caps cap found x e told =
    ap (λ (ys : List Companion). ys ++ x ∷ []) e
    ∙ ap (λ (o : Option Companion). filter_map (companion_of net time) caps ++ cons_option o []) (sym told)
    ∙ sym (filter_map-append (companion_of net time) caps (cap ∷ []))

pub none_counts : (net : Network) (time : ℕ) (caps : List Cap) (cap : Cap) (found : List Companion)
    → found ≡ filter_map (companion_of net time) caps → companion_of net time cap ≡ None
    → found ≡ filter_map (companion_of net time) (caps ++ cap ∷ [])
none_counts net time caps cap found e told =
    e
    ∙ sym (append-nil (filter_map (companion_of net time) caps))
    ∙ ap (λ (o : Option Companion). filter_map (companion_of net time) caps ++ cons_option o []) (sym told)
    ∙ sym (filter_map-append (companion_of net time) caps (cap ∷ []))

-- The same, as a loop counts the cards.
pub counts_next : (net : Network) (time : ℕ) (caps : List Cap) (k : ℕ) (d : Cap) (found : List Companion) (x : Companion)
    → k < length caps → found ≡ filter_map (companion_of net time) (take k caps) → Some x ≡ companion_of net time (get_or caps k d)
    → found ++ x ∷ [] ≡ filter_map (companion_of net time) (take (k + 1) caps)
counts_next net time caps k d found x l e told =
    one_counts net time (take k caps) (get_or caps k d) found x e (sym told)
    ∙ ap (filter_map (companion_of net time)) (sym (take_more caps k d l))

pub passes_next : (net : Network) (time : ℕ) (caps : List Cap) (k : ℕ) (d : Cap) (found : List Companion)
    → k < length caps → found ≡ filter_map (companion_of net time) (take k caps) → companion_of net time (get_or caps k d) ≡ None
    → found ≡ filter_map (companion_of net time) (take (k + 1) caps)
passes_next net time caps k d found l e told =
    none_counts net time (take k caps) (get_or caps k d) found e told
    ∙ ap (filter_map (companion_of net time)) (sym (take_more caps k d l))

pub max_swaps : (x y : ℤ) → int_max x y ≡ int_max y x
max_swaps x y = omega (arith, ints, clamps)
