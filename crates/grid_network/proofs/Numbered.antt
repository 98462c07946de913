-- The numbers of the nodes.
use Rattle.std.proofs.Common.{◌≡◌, ◌≢◌, ◌⊎◌, inl, inr, ℕ, ◌+◌, ◌<◌, ◌≤◌, Bool, true, false, cond, ltb, ℤ, Some, None, List, All, AllPairs, Contains, length, get_or, set, refl, sym, subst, ap, ◌∙◌, arith}
use Rattle.std.specs.Prelude.{◌<ℤ◌}
use Rattle.std.specs.Cmp.{IsTotalOrder}
use Rattle.std.specs.List.{position_or_len}
use Rattle.std.specs.List.Sorted.{IsSortedBy, IsStrictlySortedBy}
use Rattle.std.specs.Option.{unwrap_or}
use Rattle.std.specs.Ordering.{ordering_then, ordering_reverse, nat_cmp, int_cmp, is_lt, MatchOrdering}
use Rattle.std.specs.declared.cmp.Ordering.{Ordering}
use Rattle.std.specs.declared.cmp.Ordering.TheVariants.{Less, Equal, Greater}
use Rattle.std.proofs.lemmas.Bool.{cases_lt, lt-ltb, le-ltb}
use Rattle.std.proofs.lemmas.Cmp.{ranked, int_ranked, nat_cmp_total, int_cmp_total, on_total, then_total}
use Rattle.std.proofs.lemmas.List.{get_or-set_same, get_or-set_other}
use Rattle.std.proofs.lemmas.List.Sums.{position_or_len_is}
use Rattle.std.proofs.lemmas.Map.Keys.{Less-from_sorted}
use Rattle.grid_network.specs.declared.key.Key.{Key}
use Rattle.grid_network.specs.Nodes.{same_key, number_of}
use Rattle.grid_network.specs.Laws.Keys.{one_key, same_itself}
use Rattle.grid_network.specs.inside.Steps.{key_cmp}

-- ---- what the order says

pub nat_equal : (m n : ℕ) → nat_cmp m n ≡ Equal → m ≡ n
nat_equal m n e = let F : Ordering → Type 0 = λ r. MatchOrdering r (m < n) (m ≡ n) (n < m) in subst F e (ranked m n (nat_cmp m n) refl)

pub int_equal : (m n : ℤ) → int_cmp m n ≡ Equal → m ≡ n
int_equal m n e = let F : Ordering → Type 0 = λ r. MatchOrdering r (m <ℤ n) (m ≡ n) (n <ℤ m) in subst F e (int_ranked m n (int_cmp m n) refl)

then_equal : (o p : Ordering) → ordering_then o p ≡ Equal → (o ≡ Equal) × (p ≡ Equal)
then_equal Less p e = absurd (cc)
then_equal Equal p e = (refl, e)
then_equal Greater p e = absurd (cc)

pub equal_keys : (a b : Key) → key_cmp a b ≡ Equal → a ≡ b
equal_keys a b e =
    let first = then_equal (nat_cmp a.net b.net) (ordering_then (nat_cmp a.layer b.layer) (ordering_then (int_cmp a.x b.x) (int_cmp a.y b.y))) e in
    let second = then_equal (nat_cmp a.layer b.layer) (ordering_then (int_cmp a.x b.x) (int_cmp a.y b.y)) first.1 in
    let third = then_equal (int_cmp a.x b.x) (int_cmp a.y b.y) second.1 in
    let n = nat_equal a.net b.net first.0 in
    let l = nat_equal a.layer b.layer second.0 in
    let x = int_equal a.x b.x third.0 in
    let y = int_equal a.y b.y third.1 in
    λ k. record { net = n k; layer = l k; x = x k; y = y k }

pub key_order : IsTotalOrder key_cmp
key_order = then_total (on_total (λ k. k.net) nat_cmp_total) (then_total (on_total (λ k. k.layer) nat_cmp_total) (then_total (on_total (λ k. k.x) int_cmp_total) (on_total (λ k. k.y) int_cmp_total)))

-- ---- the number of a node

-- the node at a place has that place as its number
pub number_found : (keys : List Key) (key : Key) (n : ℕ) → n < length keys → get_or keys n key ≡ key
    → ((i j : ℕ) (d : Key) → i < j → j < length keys → get_or keys i d ≢ get_or keys j d) → n ≡ number_of keys key
number_found keys key n within here once =
    let first : position_or_len (same_key key) keys ≡ n = position_or_len_is (same_key key) keys n key (omega arith) (λ k below. before k below (same_key key (get_or keys k key)) refl) (λ h. at_n) in
    sym (ap (λ m. unwrap_or (cond (ltb m (length keys)) (Some m) None) 0) first ∙ ap (λ b. unwrap_or (cond b (Some n) None) 0) (lt-ltb n (length keys) within))
  where
    at_n : same_key key (get_or keys n key) ≡ true
    at_n = subst (λ (k : Key). same_key key k ≡ true) (sym here) (same_itself key)

    before : (k : ℕ) → k < n → (b : Bool) → same_key key (get_or keys k key) ≡ b → same_key key (get_or keys k key) ≡ false
    before k below false e = e
    before k below true e = absurd (once k n key below within (sym (one_key key (get_or keys k key) e) ∙ sym here))

-- a point that is no node has the number 0
pub number_missing : (keys : List Key) (key : Key) → (Contains keys key → ⊥) → 0 ≡ number_of keys key
number_missing keys key none =
    let first : position_or_len (same_key key) keys ≡ length keys = position_or_len_is (same_key key) keys (length keys) key (omega arith) (λ k below. before k below (same_key key (get_or keys k key)) refl) (λ h. absurd (omega arith)) in
    sym (ap (λ m. unwrap_or (cond (ltb m (length keys)) (Some m) None) 0) first ∙ ap (λ b. unwrap_or (cond b (Some (length keys)) None) 0) (le-ltb (length keys) (length keys) (omega arith)))
  where
    before : (k : ℕ) → k < length keys → (b : Bool) → same_key key (get_or keys k key) ≡ b → same_key key (get_or keys k key) ≡ false
    before k below false e = e
    before k below true e = absurd (none (k, below, sym (one_key key (get_or keys k key) e)))

-- points that rise strictly are sorted
pub sorted_keys : (places : List Key) → IsStrictlySortedBy key_cmp places → IsSortedBy (λ a b. is_lt (key_cmp a b)) places
sorted_keys places up k d low high =
    let a : Key = get_or places k d in
    let b : Key = get_or places (k + 1) d in
    let less : key_cmp a b ≡ Less = Less-from_sorted key_cmp places k (k + 1) d up (omega arith) high in
    ap is_lt (key_order.antisymm b a ∙ ap ordering_reverse less)
