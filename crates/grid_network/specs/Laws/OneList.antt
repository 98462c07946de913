-- Nodes and segments in their orders are one list.
use Rattle.std.proofs.Common.{◌≡◌, ◌↔◌, inl, inr, ℕ, ◌<◌, Bool, true, false, true≢false, List, [], ◌∷◌, Contains, length, get_or, refl, sym, subst, ap, arith}
use Rattle.std.specs.Cmp.{IsEquivalence}
use Rattle.std.specs.List.{IsDistinct, list_any}
use Rattle.std.proofs.lemmas.Map.Keys.{IsDistinct-from_apart}
use Rattle.std.proofs.lemmas.Map.Made.{length-from_same_keys}
use Rattle.std.proofs.lemmas.Map.Views.{list_any-from_Contains, Contains-from_any}
use Rattle.lef_tech.specs.declared.tech.Tech.{Tech}
use Rattle.name_table.specs.ByteOrder.{IsBefore}
use Rattle.grid_network.specs.declared.branch.Branch.{Branch}
use Rattle.grid_network.specs.declared.branch.Branch.TheVariants.{Wire, Cuts}
use Rattle.grid_network.specs.declared.key.Key.{Key}
use Rattle.grid_network.specs.declared.segment.Segment.{Segment}
use Rattle.grid_network.specs.Drawing.{Drawing}
use Rattle.grid_network.specs.Listing.{EachOnce}
use Rattle.grid_network.specs.Nodes.{AreNodes, name_of, same_key}
use Rattle.grid_network.specs.Segments.{AreSegments, IsEarlier, LessThen, ComesBefore, resistor_of}
use Rattle.grid_network.specs.Laws.Keys.{one_key, same_itself}
use Rattle.grid_network.specs.Laws.Unique.{same_lists, pairs_of_map, both_ways}

-- ## the orders go one way

before_one_way : (a b : List ℕ) → IsBefore a b → IsBefore b a → ⊥
before_one_way [] [] h k = h
before_one_way [] (y ∷ ys) h k = k
before_one_way (x ∷ xs) [] h k = h
before_one_way (x ∷ xs) (y ∷ ys) (inl h) (inl k) = omega (arith, h, k)
before_one_way (x ∷ xs) (y ∷ ys) (inl h) (inr k) = let e = k.0 in omega (arith, h, e)
before_one_way (x ∷ xs) (y ∷ ys) (inr h) (inl k) = let e = h.0 in omega (arith, e, k)
before_one_way (x ∷ xs) (y ∷ ys) (inr h) (inr k) = before_one_way xs ys h.1 k.1

then_one_way : (m n : ℕ) (P Q : Type 0) → LessThen m n P → LessThen n m Q → (P → Q → ⊥) → ⊥
then_one_way m n P Q (inl h) (inl k) f = omega (arith, h, k)
then_one_way m n P Q (inl h) (inr k) f = let e = k.0 in omega (arith, h, e)
then_one_way m n P Q (inr h) (inl k) f = let e = h.0 in omega (arith, e, k)
then_one_way m n P Q (inr h) (inr k) f = f h.1 k.1

earlier_one_way : (b c : Branch) → IsEarlier b c → IsEarlier c b → ⊥
earlier_one_way (Wire k) (Wire l) h g = omega (arith, h, g)
earlier_one_way (Wire k) (Cuts l j) h g = g
earlier_one_way (Cuts k i) (Wire l) h g = h
earlier_one_way (Cuts k i) (Cuts l j) (inl h) (inl g) = omega (arith, h, g)
earlier_one_way (Cuts k i) (Cuts l j) (inl h) (inr g) = let e = g.0 in omega (arith, h, e)
earlier_one_way (Cuts k i) (Cuts l j) (inr h) (inl g) = let e = h.0 in omega (arith, e, g)
earlier_one_way (Cuts k i) (Cuts l j) (inr h) (inr g) = let p = h.1 in let q = g.1 in omega (arith, p, q)

comes_one_way : (keys : List Key) (s t : Segment) → ComesBefore keys s t → ComesBefore keys t s → ⊥
comes_one_way keys s t h g =
    let q = resistor_of keys s in
    let r = resistor_of keys t in
    then_one_way q.a r.a (LessThen q.b r.b (IsEarlier s.branch t.branch)) (LessThen r.b q.b (IsEarlier t.branch s.branch)) h g
    (λ a b. then_one_way q.b r.b (IsEarlier s.branch t.branch) (IsEarlier t.branch s.branch) a b (earlier_one_way s.branch t.branch))

-- ## the lists

pub keys_one : (d : Drawing) (layers : ℕ) (ks ms : List Key) → AreNodes d layers ks → AreNodes d layers ms → ks ≡ ms
keys_one d layers ks ms a b =
    same_lists (λ (x y : Key). IsBefore (name_of layers x) (name_of layers y)) (λ x y. before_one_way (name_of layers x) (name_of layers y)) ks ms
    (pairs_of_map (name_of layers) IsBefore ks a.in_order) (pairs_of_map (name_of layers) IsBefore ms b.in_order) (both_ways _ ks ms a.all b.all)

pub segments_one : (d : Drawing) (tech : Tech) (ks ms : List Key) (ss ts : List Segment) → ks ≡ ms → AreSegments d tech ks ss → AreSegments d tech ms ts → ss ≡ ts
segments_one d tech ks ms ss ts e a b =
    let a' = subst (λ (k : List Key). AreSegments d tech k ss) e a in
    same_lists (ComesBefore ms) (comes_one_way ms) ss ts a'.in_order b.in_order (both_ways _ ss ts a'.all b.all)

-- ## lists of the same things, each once, are equally long

bool_same : (a b : Bool) → (a ≡ true → b ≡ true) → (b ≡ true → a ≡ true) → a ≡ b
bool_same true true f g = refl
bool_same true false f g = absurd (true≢false (sym (f refl)))
bool_same false true f g = absurd (true≢false (sym (g refl)))
bool_same false false f g = refl

key_laws : IsEquivalence same_key
key_laws = record {
  refl = same_itself;
  symm = λ x y. bool_same (same_key x y) (same_key y x) (λ h. swapped x y h) (λ h. swapped y x h);
  congr = λ x y z h. ap (λ k. same_key k z) (one_key x y h);
}
  where
    swapped : (x y : Key) → same_key x y ≡ true → same_key y x ≡ true
    swapped x y h = subst (λ (k : Key). same_key k x ≡ true) (one_key x y h) (same_itself x)

apart : (keys : List Key) → EachOnce keys → IsDistinct same_key keys
apart keys once = IsDistinct-from_apart same_key keys (λ i j d below within. by i j d below within (same_key (get_or keys i d) (get_or keys j d)) refl)
  where
    by : (i j : ℕ) (d : Key) → i < j → j < length keys → (b : Bool) → same_key (get_or keys i d) (get_or keys j d) ≡ b → same_key (get_or keys i d) (get_or keys j d) ≡ false
    by i j d below within false e = e
    by i j d below within true e = absurd (once i j d below within (one_key (get_or keys i d) (get_or keys j d) e))

pub as_many : (ks ms : List Key) → EachOnce ks → EachOnce ms → ((n : Key) → Contains ks n ↔ Contains ms n) → length ks ≡ length ms
as_many ks ms once twice same =
    length-from_same_keys key_laws ks ms (apart ks once) (apart ms twice)
    (λ q. bool_same (list_any (same_key q) ks) (list_any (same_key q) ms)
    (λ h. list_any-from_Contains key_laws q ms ((same q).0 (Contains-from_any one_key q ks h)))
    (λ h. list_any-from_Contains key_laws q ks ((same q).1 (Contains-from_any one_key q ms h))))
