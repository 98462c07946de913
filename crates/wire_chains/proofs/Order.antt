-- What the order of vias says of their places and layers.
use Rattle.std.proofs.Common.{◌≡◌, ◌⊎◌, inl, inr, ℕ, ◌+◌, ◌-◌, ◌<◌, ◌≤◌, ℤ, ◌<ℤ◌, ◌≤ℤ◌, true, false, Ordering, List, length, get_or, AllPairs, Contains, subst, refl, sym, ap, ◌∙◌, arith}
use Rattle.std.specs.declared.cmp.Ordering.TheVariants.{Less, Equal, Greater}
use Rattle.std.specs.Cmp.{IsTotalOrder}
use Rattle.std.specs.List.Sorted.{IsSortedBy, IsPermutation}
use Rattle.std.specs.Ordering.{nat_cmp, int_cmp, ordering_then, ordering_reverse, is_lt, is_gt, MatchOrdering}
use Rattle.std.proofs.lemmas.Bool.{cases_lt, false≢true}
use Rattle.std.proofs.lemmas.Int.{ints}
use Rattle.std.proofs.lemmas.Cmp.{by_ranked, ranked, int_ranked, nat_cmp_total, int_cmp_total, on_total, then_total, tied_itself}
use Rattle.std.proofs.lemmas.List.{get_or_default}
use Rattle.std.proofs.lemmas.List.Sorted.{sorted_far, ranks_by}
use Rattle.wire_chains.specs.declared.via.ViaAt.{ViaAt}
use Rattle.wire_chains.specs.Chain.{LiesOn, AreNumbered, via_order}
use Rattle.wire_chains.specs.inside.Run.{IsSorted, via_of}
use Rattle.list_laws.specs.Laws.Permuted.{apart_permuted}

pub via_total : IsTotalOrder via_order
via_total =
    then_total
    (then_total (then_total (then_total (on_total (λ (a : ViaAt). a.net) nat_cmp_total) (on_total (λ (a : ViaAt). a.x) int_cmp_total)) (on_total (λ (a : ViaAt). a.y) int_cmp_total))
    (on_total (λ (a : ViaAt). a.layer) nat_cmp_total))
    (on_total (λ (a : ViaAt). a.number) nat_cmp_total)

not_behind : (o : Ordering) → is_lt o ≡ false → is_gt (ordering_reverse o) ≡ false
not_behind Less low = absurd (false≢true (sym low))
not_behind Equal low = refl
not_behind Greater low = refl

-- where a list is sorted, no element is greater than a later one
pub in_order : (xs : List ViaAt) → IsSortedBy (λ x y. is_lt (via_order x y)) xs → (i j : ℕ) (d : ViaAt) → i ≤ j → j < length xs → is_gt (via_order (get_or xs i d) (get_or xs j d)) ≡ false
in_order xs sorted i j d le within =
    let far : is_lt (via_order (get_or xs j d) (get_or xs i d)) ≡ false = sorted_far (λ x y. is_lt (via_order x y)) (ranks_by via_total (λ (x : ViaAt). x)) xs sorted i j d le within in
    subst (λ o. is_gt o ≡ false) (sym (via_total.antisymm (get_or xs i d) (get_or xs j d))) (not_behind (via_order (get_or xs j d) (get_or xs i d)) far)

less_from : (o : Ordering) → is_gt o ≡ false → (o ≡ Equal → ⊥) → is_lt o ≡ true
less_from Less _ _ = refl
less_from Equal _ ne = absurd (ne refl)
less_from Greater low _ = absurd (false≢true (sym low))

then_equal : (a b : Ordering) → ordering_then a b ≡ Equal → (a ≡ Equal) × (b ≡ Equal)
then_equal Less b e = absurd (cc)
then_equal Equal b e = (refl, e)
then_equal Greater b e = absurd (cc)

then_gt : (a b : Ordering) → is_gt (ordering_then a b) ≡ false → (is_gt a ≡ false) × (a ≡ Equal → is_gt b ≡ false)
then_gt Less b h = (refl, λ e. absurd (cc))
then_gt Equal b h = (refl, λ e. h)
then_gt Greater b h = absurd (false≢true (sym h))

nat_equal : (x y : ℕ) → nat_cmp x y ≡ Equal → x ≡ y
nat_equal x y e = subst (λ o. MatchOrdering o (x < y) (x ≡ y) (y < x)) e (ranked x y (nat_cmp x y) refl)

nat_le : (a b : ℕ) → is_gt (nat_cmp a b) ≡ false → a ≤ b
nat_le a b h =
    by_ranked (a < b) (a ≡ b) (b < a) (nat_cmp a b) (ranked a b (nat_cmp a b) refl) (λ o p. omega arith) (λ o p. omega arith) (λ o p. absurd (false≢true (sym h ∙ ap is_gt o)))

int_le : (a b : ℤ) → is_gt (int_cmp a b) ≡ false → a ≤ℤ b
int_le a b h =
    by_ranked (a <ℤ b) (a ≡ b) (b <ℤ a) (int_cmp a b) (int_ranked a b (int_cmp a b) refl) (λ o p. omega (arith, ints)) (λ o p. omega (arith, ints))
    (λ o p. absurd (false≢true (sym h ∙ ap is_gt o)))

nat_same : (a b : ℕ) → a ≡ b → nat_cmp a b ≡ Equal
nat_same a b same = subst (λ n. nat_cmp a n ≡ Equal) same (tied_itself nat_cmp_total a)

int_same : (a b : ℤ) → a ≡ b → int_cmp a b ≡ Equal
int_same a b same = subst (λ n. int_cmp a n ≡ Equal) same (tied_itself int_cmp_total a)

both_equal : (a b : Ordering) → a ≡ Equal → b ≡ Equal → ordering_then a b ≡ Equal
both_equal a b a_is b_is = ap (λ o. ordering_then o b) a_is ∙ b_is

-- sorted vias with different numbers come one before another
pub strictly : (vias all : List ViaAt) → AreNumbered vias → IsPermutation vias all → AllPairs (λ (a b : ViaAt). is_gt (via_order a b) ≡ false) all → IsSorted all
strictly vias all numbered moved rising i j d less within =
    let differ = apart_permuted (λ (a b : ViaAt). a.number ≡ b.number → ⊥) (λ x y ne is. ne (sym is)) vias all moved numbered i j d less within in
    let a = get_or all i d in
    let b = get_or all j d in
    less_from (via_order a b) (rising i j d less within) (λ equal. differ (nat_equal a.number b.number (then_equal _ (nat_cmp a.number b.number) equal).1))

-- an earlier via is not greater
pub sorted_le : (all : List ViaAt) → IsSorted all → (i j : ℕ) → i ≤ j → j < length all → is_gt (via_order (via_of all i) (via_of all j)) ≡ false
sorted_le all sorted i j le within = by_place (cases_lt i j)
  where
    by_place : (i < j) ⊎ (j ≤ i) → is_gt (via_order (via_of all i) (via_of all j)) ≡ false
    by_place (inl less) = not_less (via_order (via_of all i) (via_of all j)) (sorted i j _ less within)
      where
        not_less : (o : Ordering) → is_lt o ≡ true → is_gt o ≡ false
        not_less Less is = refl
        not_less Equal is = refl
        not_less Greater is = absurd (false≢true is)
    by_place (inr more) =
        let same : i ≡ j = omega arith in
        subst (λ k. is_gt (via_order (via_of all i) (via_of all k)) ≡ false) same (ap is_gt (tied_itself via_total (via_of all i)))

-- ---- vias at one place of one net

-- of two in order the nets are in order; where they are equal, then x, y and layers in turn
nets : (a b : ViaAt) → is_gt (via_order a b) ≡ false → a.net ≤ b.net
nets a b h =
    let four = (then_gt _ (nat_cmp a.number b.number) h).0 in
    let three = (then_gt _ (nat_cmp a.layer b.layer) four).0 in
    let two = (then_gt _ (int_cmp a.y b.y) three).0 in
    nat_le a.net b.net (then_gt (nat_cmp a.net b.net) (int_cmp a.x b.x) two).0

rights : (a b : ViaAt) → is_gt (via_order a b) ≡ false → a.net ≡ b.net → a.x ≤ℤ b.x
rights a b h net =
    let four = (then_gt _ (nat_cmp a.number b.number) h).0 in
    let three = (then_gt _ (nat_cmp a.layer b.layer) four).0 in
    let two = (then_gt _ (int_cmp a.y b.y) three).0 in
    int_le a.x b.x ((then_gt (nat_cmp a.net b.net) (int_cmp a.x b.x) two).1 (nat_same a.net b.net net))

ups : (a b : ViaAt) → is_gt (via_order a b) ≡ false → a.net ≡ b.net → a.x ≡ b.x → a.y ≤ℤ b.y
ups a b h net x =
    let four = (then_gt _ (nat_cmp a.number b.number) h).0 in
    let three = (then_gt _ (nat_cmp a.layer b.layer) four).0 in
    int_le a.y b.y ((then_gt (ordering_then (nat_cmp a.net b.net) (int_cmp a.x b.x)) (int_cmp a.y b.y) three).1
    (both_equal (nat_cmp a.net b.net) (int_cmp a.x b.x) (nat_same a.net b.net net) (int_same a.x b.x x)))

pub layers : (a b : ViaAt) → is_gt (via_order a b) ≡ false → a.net ≡ b.net → a.x ≡ b.x → a.y ≡ b.y → a.layer ≤ b.layer
layers a b h net x y =
    let four = (then_gt _ (nat_cmp a.number b.number) h).0 in
    nat_le a.layer b.layer ((then_gt (ordering_then (ordering_then (nat_cmp a.net b.net) (int_cmp a.x b.x)) (int_cmp a.y b.y)) (nat_cmp a.layer b.layer) four).1
    (both_equal (ordering_then (nat_cmp a.net b.net) (int_cmp a.x b.x)) (int_cmp a.y b.y)
    (both_equal (nat_cmp a.net b.net) (int_cmp a.x b.x) (nat_same a.net b.net net) (int_same a.x b.x x)) (int_same a.y b.y y)))

-- what lies between two of one place lies there too, on a layer between
pub between : (a b c : ViaAt) (on : ℕ) → LiesOn a on b → is_gt (via_order a c) ≡ false → is_gt (via_order c b) ≡ false → LiesOn a c.layer c × (a.layer ≤ c.layer) × (c.layer ≤ on)
between a b c on lies ac cb =
    let net_low = nets a c ac in
    let net_high = nets c b cb in
    let b_net = lies.net in
    let net : c.net ≡ a.net = omega arith in
    let net_b : c.net ≡ b.net = net ∙ sym lies.net in
    let x_low = rights a c ac (sym net) in
    let x_high = rights c b cb net_b in
    let b_x = lies.x in
    let x : c.x ≡ a.x = omega (arith, ints) in
    let x_b : c.x ≡ b.x = x ∙ sym lies.x in
    let y_low = ups a c ac (sym net) (sym x) in
    let y_high = ups c b cb net_b x_b in
    let b_y = lies.y in
    let y : c.y ≡ a.y = omega (arith, ints) in
    let low = layers a c ac (sym net) (sym x) (sym y) in
    let high = layers c b cb net_b x_b (y ∙ sym lies.y) in
    (record { net = net; x = x; y = y; layer = refl }, low, omega (arith, high, lies.layer))
