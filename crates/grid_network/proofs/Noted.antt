-- The layer lines, node by node.
use Rattle.std.proofs.Common.{◌≡◌, ◌≢◌, ◌⊎◌, inl, inr, zero, suc, ℕ, ◌+◌, ◌-◌, ◌*◌, ◌<◌, ◌≤◌, Some, List, [], ◌∷◌, ◌++◌, AllPairs, Contains, length, get_or, slice_get, refl, sym, subst, ap, ◌∙◌, arith}
use Rattle.std.specs.List.Sorted.{IsStrictlySortedBy}
use Rattle.std.specs.Option.{option_map}
use Rattle.std.specs.Ordering.{ordering_then, nat_cmp, int_cmp, MatchOrdering}
use Rattle.std.specs.declared.cmp.Ordering.{Ordering}
use Rattle.std.specs.declared.cmp.Ordering.TheVariants.{Less, Equal, Greater}
use Rattle.std.proofs.lemmas.Bool.{cases_lt}
use Rattle.std.proofs.lemmas.Cmp.{ranked}
use Rattle.std.proofs.lemmas.List.{get_or_default}
use Rattle.std.proofs.lemmas.List.Elements.{Contains-get_or, Contains-append_left, Contains-push, Contains-push_cases}
use Rattle.std.proofs.lemmas.List.Quantifiers.{all_pairs_push}
use Rattle.std.proofs.lemmas.Map.Keys.{Less-from_sorted}
use Rattle.lef_tech.specs.declared.tech.Tech.{Tech}
use Rattle.grid_network.specs.declared.key.Key.{Key}
use Rattle.grid_net.specs.declared.note.Note.{Note}
use Rattle.grid_network.specs.Listing.{ListsAll}
use Rattle.grid_network.specs.Drawing.{Drawing}
use Rattle.grid_network.specs.Nodes.{IsNode, layer_number}
use Rattle.grid_network.specs.Layers.{AreNotes, IsNoteOf}
use Rattle.grid_network.specs.inside.Steps.{key_cmp, place_of, BeginsLayer}

-- ---- nets and layers rise

then_less : (o p : Ordering) → ordering_then o p ≡ Less → (o ≡ Less) ⊎ ((o ≡ Equal) × (p ≡ Less))
then_less Less p e = inl refl
then_less Equal p e = inr (refl, e)
then_less Greater p e = absurd (cc)

nat_less : (m n : ℕ) → nat_cmp m n ≡ Less → m < n
nat_less m n e = let F : Ordering → Type 0 = λ r. MatchOrdering r (m < n) (m ≡ n) (n < m) in subst F e (ranked m n (nat_cmp m n) refl)

nat_same : (m n : ℕ) → nat_cmp m n ≡ Equal → m ≡ n
nat_same m n e = let F : Ordering → Type 0 = λ r. MatchOrdering r (m < n) (m ≡ n) (n < m) in subst F e (ranked m n (nat_cmp m n) refl)

-- of two points the first has the lesser net, or no higher a layer of the same
abbrev UpTo : Key → Key → Type 0
UpTo a b = (a.net < b.net) ⊎ ((a.net ≡ b.net) × (a.layer ≤ b.layer))

up_to : (a b : Key) → key_cmp a b ≡ Less → UpTo a b
up_to a b e = by (then_less (nat_cmp a.net b.net) (ordering_then (nat_cmp a.layer b.layer) (ordering_then (int_cmp a.x b.x) (int_cmp a.y b.y))) e)
  where
    layer : ((nat_cmp a.layer b.layer ≡ Less) ⊎ ((nat_cmp a.layer b.layer ≡ Equal) × (ordering_then (int_cmp a.x b.x) (int_cmp a.y b.y) ≡ Less))) → a.layer ≤ b.layer
    layer (inl h) = let l = nat_less a.layer b.layer h in omega (arith, l)
    layer (inr h) = let l = nat_same a.layer b.layer h.0 in omega (arith, l)

    by : ((nat_cmp a.net b.net ≡ Less) ⊎ ((nat_cmp a.net b.net ≡ Equal) × (ordering_then (nat_cmp a.layer b.layer) (ordering_then (int_cmp a.x b.x) (int_cmp a.y b.y)) ≡ Less))) → UpTo a b
    by (inl h) = inl (nat_less a.net b.net h)
    by (inr h) = inr (nat_same a.net b.net h.0, layer (then_less (nat_cmp a.layer b.layer) (ordering_then (int_cmp a.x b.x) (int_cmp a.y b.y)) h.1))

rise : (places : List Key) (k i : ℕ) → IsStrictlySortedBy key_cmp places → k < i → i < length places → UpTo (place_of places k) (place_of places i)
rise places k i up below within = up_to (place_of places k) (place_of places i) (Less-from_sorted key_cmp places k i _ up below within)

-- of two points the first has the lesser net, or a lower layer of the same
abbrev Before : Key → Key → Type 0
Before a b = (a.net < b.net) ⊎ ((a.net ≡ b.net) × (a.layer < b.layer))

-- what comes before the first node of a layer has a lesser net or layer
before_first : (places : List Key) (k i : ℕ) → IsStrictlySortedBy key_cmp places → k < i → i < length places → BeginsLayer places i → Before (place_of places k) (place_of places i)
before_first places k i up below within (inl e) = absurd (omega arith)
before_first places k i up below within (inr h) = far (cases_lt k (i - 1))
  where
    a : Key
    a = place_of places k

    b : Key
    b = place_of places (i - 1)

    c : Key
    c = place_of places i

    strict : UpTo b c → ((b.net ≢ c.net) ⊎ (b.layer ≢ c.layer)) → ((b.layer < c.layer) ⊎ (c.layer ≤ b.layer)) → Before b c
    strict (inl p) g l = inl p
    strict (inr p) (inl g) l = absurd (g p.0)
    strict (inr p) (inr g) (inl l) = inr (p.0, l)
    strict (inr p) (inr g) (inr l) = let e : b.layer ≡ c.layer = let q = p.1 in omega (arith, q, l) in absurd (g e)

    next : Before b c
    next = strict (rise places (i - 1) i up (omega arith) within) h (cases_lt b.layer c.layer)

    both : UpTo a b → Before b c → Before a c
    both (inl p) (inl q) = inl (omega (arith, p, q))
    both (inl p) (inr q) = inl (let e = q.0 in omega (arith, p, e))
    both (inr p) (inl q) = inl (let e = p.0 in omega (arith, q, e))
    both (inr p) (inr q) = inr (p.0 ∙ q.0, (let l = p.1 in let m = q.1 in omega (arith, l, m)))

    far : ((k < i - 1) ⊎ (i - 1 ≤ k)) → Before a c
    far (inl g) = both (rise places k (i - 1) up g (omega arith)) next
    far (inr g) = let same : i - 1 ≡ k = omega arith in subst (λ (n : ℕ). Before (place_of places n) c) same next

times_step : (m n l : ℕ) → (m < n → m * l + l ≤ n * l) → ((m < n) ⊎ (n ≤ m)) → m < suc n → m * l + l ≤ suc n * l
times_step m n l before (inl g) h = let r = before g in let e : suc n * l ≡ n * l + l = omega arith in omega (arith, r, e)
times_step m n l before (inr g) h = let same : m ≡ n = omega arith in let e : m * l ≡ n * l = ap (λ k. k * l) same in omega (arith, e)

pub times_more : (m n l : ℕ) → m < n → m * l + l ≤ n * l
times_more m zero l h = absurd (omega arith)
times_more m (suc n) l h = times_step m n l (times_more m n l) (cases_lt m n) h

numbers_rise : (layers : ℕ) (a b : Key) → a.layer < layers → Before a b → layer_number layers a.net a.layer < layer_number layers b.net b.layer
numbers_rise layers a b within (inl h) = let r = times_more a.net b.net layers h in omega (arith, r)
numbers_rise layers a b within (inr h) = let e : a.net * layers ≡ b.net * layers = ap (λ k. k * layers) h.0 in let l = h.1 in omega (arith, e, l)

-- ---- the lines of the first nodes

pub record SoFar (d : Drawing) (tech : Tech) (places : List Key) (i : ℕ) (notes : List Note) : Type 0 where
  pub rising : AllPairs (λ m n. m.number < n.number) notes
  pub out : (n : Note) → Contains notes n → (k : ℕ) × (k < i) × IsNoteOf d tech (place_of places k) n
  pub into : (k : ℕ) → k < i → (n : Note) × Contains notes n × IsNoteOf d tech (place_of places k) n

pub so_far_none : (d : Drawing) (tech : Tech) (places : List Key) (notes : List Note) → notes ≡ [] → SoFar d tech places 0 notes
so_far_none d tech places notes e = subst (SoFar d tech places 0) (sym e) (record {
  rising = λ i j x below within. absurd (omega arith);
  out = λ n h. absurd (nothing n h);
  into = λ k below. absurd (omega arith);
})
  where
    nothing : (n : Note) → Contains [] n → ⊥
    nothing n (k, within, g) = omega arith

pub so_far_new : (d : Drawing) (tech : Tech) (places : List Key) (i : ℕ) (notes new : List Note) (y : Note) → IsStrictlySortedBy key_cmp places → ((k : ℕ) → k < length places → (place_of places k).layer < length tech.routing)
    → i < length places → BeginsLayer places i → IsNoteOf d tech (place_of places i) y → new ≡ notes ++ y ∷ [] → SoFar d tech places i notes → SoFar d tech places (i + 1) new
so_far_new d tech places i notes new y up low within begins is e before = subst (SoFar d tech places (i + 1)) (sym e) (record {
  rising = all_pairs_push (λ (m n : Note). m.number < n.number) notes y before.rising (λ k x below. less (get_or notes k x) (before.out (get_or notes k x) (Contains-get_or notes k x below)));
  out = λ n h. from_new n (Contains-push_cases notes y n h);
  into = λ k below. to_new k (cases_lt k i) below;
})
  where
    less : (n : Note) → ((k : ℕ) × (k < i) × IsNoteOf d tech (place_of places k) n) → n.number < y.number
    less n (k, below, note) =
        let r = numbers_rise (length tech.routing) (place_of places k) (place_of places i) (low k (omega arith)) (before_first places k i up below within begins) in
        let p = note.number in let q = is.number in omega (arith, r, p, q)

    from_new : (n : Note) → (Contains notes n ⊎ (y ≡ n)) → (k : ℕ) × (k < i + 1) × IsNoteOf d tech (place_of places k) n
    from_new n (inl h) = let r = before.out n h in (r.0, (let l = r.1 in omega (arith, l)), r.2)
    from_new n (inr h) = (i, omega arith, subst (IsNoteOf d tech (place_of places i)) h is)

    to_new : (k : ℕ) → ((k < i) ⊎ (i ≤ k)) → k < i + 1 → (n : Note) × Contains (notes ++ y ∷ []) n × IsNoteOf d tech (place_of places k) n
    to_new k (inl h) below = let r = before.into k h in (r.0, Contains-append_left notes (y ∷ []) r.0 r.1, r.2)
    to_new k (inr h) below = let same : i ≡ k = omega arith in (y, Contains-push notes y, subst (λ (m : ℕ). IsNoteOf d tech (place_of places m) y) same is)

equal_from_not : (a b : ℕ) → (a ≢ b → ⊥) → a ≡ b
equal_from_not a b h = by (cases_lt a b) (cases_lt b a)
  where
    by : ((a < b) ⊎ (b ≤ a)) → ((b < a) ⊎ (a ≤ b)) → a ≡ b
    by (inl p) q = absurd (h (λ e. omega (arith, p, e)))
    by (inr p) (inl q) = absurd (h (λ e. omega (arith, q, e)))
    by (inr p) (inr q) = omega arith

pub so_far_same : (d : Drawing) (tech : Tech) (places : List Key) (i : ℕ) (notes : List Note) → IsNode d (place_of places i) → (BeginsLayer places i → ⊥) → SoFar d tech places i notes → SoFar d tech places (i + 1) notes
so_far_same d tech places i notes node begins before = record {
  rising = before.rising;
  out = λ n h. let r = before.out n h in (r.0, (let l = r.1 in omega (arith, l)), r.2);
  into = λ k below. to_new k (cases_lt k i) below;
}
  where
    a : Key
    a = place_of places (i - 1)

    b : Key
    b = place_of places i

    net : a.net ≡ b.net
    net = equal_from_not a.net b.net (λ h. begins (inr (inl h)))

    layer : a.layer ≡ b.layer
    layer = equal_from_not a.layer b.layer (λ h. begins (inr (inr h)))

    moved : (n : Note) → IsNoteOf d tech a n → IsNoteOf d tech b n
    moved n is = record {
      has_node = node;
      layer = sym (ap (λ (l : ℕ). option_map (λ r. r.name) (slice_get tech.routing l)) layer) ∙ is.layer;
      net = sym (ap (λ (l : ℕ). slice_get d.grid.nets l) net) ∙ is.net;
      number = is.number ∙ ap (λ (l : ℕ). layer_number (length tech.routing) l a.layer) net ∙ ap (λ (l : ℕ). layer_number (length tech.routing) b.net l) layer;
    }

    some : ((0 < i) ⊎ (i ≤ 0)) → 0 < i
    some (inl h) = h
    some (inr h) = absurd (begins (inl (omega (arith, h))))

    to_new : (k : ℕ) → ((k < i) ⊎ (i ≤ k)) → k < i + 1 → (n : Note) × Contains notes n × IsNoteOf d tech (place_of places k) n
    to_new k (inl h) below = before.into k h
    to_new k (inr h) below =
        let same : i ≡ k = omega arith in
        let p = some (cases_lt 0 i) in
        let r = before.into (i - 1) (omega (arith, p)) in
        (r.0, r.1, subst (λ (m : ℕ). IsNoteOf d tech (place_of places m) r.0) same (moved r.0 r.2))

some_same : {X : Type 0} (x y : X) → Some x ≡ Some y → x ≡ y
some_same x y e = cc

one_note : (d : Drawing) (tech : Tech) (key : Key) (m n : Note) → IsNoteOf d tech key m → IsNoteOf d tech key n → m ≡ n
one_note d tech key m n p q =
    let layer = some_same m.layer n.layer (sym p.layer ∙ q.layer) in
    let net = some_same m.net n.net (sym p.net ∙ q.net) in
    let number = p.number ∙ sym q.number in
    λ k. record { layer = layer k; net = net k; number = number k }

pub so_far_all : (d : Drawing) (tech : Tech) (places : List Key) (i : ℕ) (notes : List Note) → ListsAll (IsNode d) places → length places ≤ i → i ≤ length places → SoFar d tech places i notes → AreNotes d tech notes
so_far_all d tech places i notes nodes all within far = record {
  all = λ n. (λ h. let r = far.out n h in (place_of places r.0, r.2), λ h. back n h);
  in_order = far.rising;
}
  where
    there : (n : Note) (key : Key) → IsNoteOf d tech key n → Contains places key → Contains notes n
    there n key is (k, below, e) =
        let here : place_of places k ≡ key = get_or_default places k _ key below ∙ e in
        let r = far.into k (omega (arith, below, all)) in
        subst (Contains notes) (one_note d tech key r.0 n (subst (λ (q : Key). IsNoteOf d tech q r.0) here r.2) is) r.1

    back : (n : Note) → ((key : Key) × IsNoteOf d tech key n) → Contains notes n
    back n (key, is) = there n key is ((nodes key).1 is.has_node)
