-- Places in order, and each once.
use Rattle.std.proofs.Common.{◌≡◌, ◌↔◌, zero, suc, Bool, true, cond, ◌&&◌, ◌==◌, List, [], ◌∷◌, get_or, AllPairs, Contains, subst, refl, sym, ap, ◌∙◌, arith}
use Rattle.std.specs.Bool.{Decides}
use Rattle.std.specs.Cmp.{IsTotalOrder}
use Rattle.std.specs.List.{dedup, dedup_from, Any}
use Rattle.std.specs.List.Sorted.{IsPermutation, IsSorted, IsStrictlySortedBy}
use Rattle.std.specs.Ordering.{int_eq, is_lt, is_eq, eq_by_cmp}
use Rattle.std.specs.declared.cmp.Ordering.{Ordering}
use Rattle.std.specs.declared.cmp.Ordering.TheVariants.{Less, Equal, Greater}
use Rattle.std.proofs.lemmas.Bool.{false≢true}
use Rattle.std.proofs.lemmas.Bool.Decides.{same_from_decides, Decides-like, Decides-and, Decides-eqb, Decides-int_eq}
use Rattle.std.proofs.lemmas.Cmp.{nat_cmp_total, int_cmp_total, on_total, then_total, eq_by_cmp_equiv, tied_itself}
use Rattle.std.proofs.lemmas.List.Kept.{Any-dedup, Contains-from_dedup, IsStrictlySortedBy-dedup}
use Rattle.std.proofs.lemmas.List.Sorted.{Contains-permutation, IsPermutation-sym}
use Rattle.std.proofs.lemmas.Map.Keys.{Less-from_sorted}
use Rattle.geom_rect.specs.declared.rect.Rect.{Rect}
use Rattle.grid_pieces.specs.Touch.{rect_order}
use Rattle.grid_stacks.specs.declared.connect.Site.{Site}
use Rattle.grid_stacks.specs.Stacking.{AreDifferent, place_order, site_order}

place_total : IsTotalOrder place_order
place_total =
    then_total
    (then_total (then_total (then_total (on_total (λ (s : Site). s.net) nat_cmp_total) (on_total (λ (s : Site). s.x) int_cmp_total)) (on_total (λ (s : Site). s.y) int_cmp_total))
    (on_total (λ (s : Site). s.from) nat_cmp_total))
    (on_total (λ (s : Site). s.to) nat_cmp_total)

rect_total : IsTotalOrder rect_order
rect_total =
    then_total (then_total (then_total (on_total (λ (r : Rect). r.x1) int_cmp_total) (on_total (λ (r : Rect). r.y1) int_cmp_total)) (on_total (λ (r : Rect). r.x2) int_cmp_total))
    (on_total (λ (r : Rect). r.y2) int_cmp_total)

pub site_total : IsTotalOrder site_order
site_total = then_total place_total (on_total (λ (s : Site). s.crossing) rect_total)

-- the test of two rectangles, and of two places: that all they have is equal
abbrev pub rect_test : Rect → Rect → Bool
rect_test a b = int_eq a.x1 b.x1 && (int_eq a.y1 b.y1 && (int_eq a.x2 b.x2 && int_eq a.y2 b.y2))

abbrev pub site_test : Site → Site → Bool
site_test a b =
    (a.net == b.net)
    && (int_eq a.x b.x
    && (int_eq a.y b.y && ((a.from == b.from) && ((a.to == b.to) && (rect_test a.crossing b.crossing && ((a.max_columns == b.max_columns) && (a.max_rows == b.max_rows)))))))

abbrev SameRect : Rect → Rect → Type 0
SameRect a b = (a.x1 ≡ b.x1) × ((a.y1 ≡ b.y1) × ((a.x2 ≡ b.x2) × (a.y2 ≡ b.y2)))

rect_decides : (a b : Rect) → Decides (rect_test a b) (a ≡ b)
rect_decides a b =
    Decides-like (rect_test a b) there back (Decides-and _ _ (Decides-int_eq a.x1 b.x1) (Decides-and _ _ (Decides-int_eq a.y1 b.y1) (Decides-and _ _ (Decides-int_eq a.x2 b.x2) (Decides-int_eq a.y2 b.y2))))
  where
    there : SameRect a b → a ≡ b
    there w = λ i. record { x1 = w.0 i; y1 = w.1.0 i; x2 = w.1.1.0 i; y2 = w.1.1.1 i }

    back : a ≡ b → SameRect a b
    back e = (ap (λ (r : Rect). r.x1) e, (ap (λ (r : Rect). r.y1) e, (ap (λ (r : Rect). r.x2) e, ap (λ (r : Rect). r.y2) e)))

abbrev SameSite : Site → Site → Type 0
SameSite a b = (a.net ≡ b.net)
    × ((a.x ≡ b.x) × ((a.y ≡ b.y) × ((a.from ≡ b.from) × ((a.to ≡ b.to) × ((a.crossing ≡ b.crossing) × ((a.max_columns ≡ b.max_columns) × (a.max_rows ≡ b.max_rows)))))))

pub site_decides : (a b : Site) → Decides (site_test a b) (a ≡ b)
site_decides a b =
    let limits = Decides-and _ _ (Decides-eqb a.max_columns b.max_columns) (Decides-eqb a.max_rows b.max_rows) in
    let layers = Decides-and _ _ (Decides-eqb a.from b.from) (Decides-and _ _ (Decides-eqb a.to b.to) (Decides-and _ _ (rect_decides a.crossing b.crossing) limits)) in
    Decides-like (site_test a b) there back (Decides-and _ _ (Decides-eqb a.net b.net) (Decides-and _ _ (Decides-int_eq a.x b.x) (Decides-and _ _ (Decides-int_eq a.y b.y) layers)))
  where
    there : SameSite a b → a ≡ b
    there w = λ i. record {
      net = w.0 i;
      x = w.1.0 i;
      y = w.1.1.0 i;
      from = w.1.1.1.0 i;
      to = w.1.1.1.1.0 i;
      crossing = w.1.1.1.1.1.0 i;
      max_columns = w.1.1.1.1.1.1.0 i;
      max_rows = w.1.1.1.1.1.1.1 i;
    }

    back : a ≡ b → SameSite a b
    back e =
        let limits : (a.max_columns ≡ b.max_columns) × (a.max_rows ≡ b.max_rows) = (ap (λ (s : Site). s.max_columns) e, ap (λ (s : Site). s.max_rows) e) in (
          ap (λ (s : Site). s.net) e,
          (ap (λ (s : Site). s.x) e, (ap (λ (s : Site). s.y) e, (ap (λ (s : Site). s.from) e, (ap (λ (s : Site). s.to) e, (ap (λ (s : Site). s.crossing) e, limits))))),
        )

-- an entry stands in a longer list too
pub behind : {X : Type 0} (x y : X) (xs : List X) → Contains xs y → Contains (x ∷ xs) y
behind x y xs w = (suc w.0, omega (arith, w.1), w.2)

pub first : {X : Type 0} (x : X) (xs : List X) → Contains (x ∷ xs) x
first x xs = (0, omega arith, refl)

-- two tests that agree at the entries of a list leave the same of it
from_agree : {X : Type 0} (E F : X → X → Bool) (k : X) (xs : List X) → ((a b : X) → Contains (k ∷ xs) a → Contains (k ∷ xs) b → E a b ≡ F a b) → dedup_from E k xs ≡ dedup_from F k xs
from_agree E F k [] agree = refl
from_agree {X} E F k (x ∷ xs) agree =
    let test : E x k ≡ F x k = agree x k (behind k x (x ∷ xs) (first x xs)) (first k (x ∷ xs)) in
    let same : dedup_from E k xs ≡ dedup_from F k xs = from_agree E F k xs (λ a b a_in b_in. agree a b (wider a a_in) (wider b b_in)) in
    let next : dedup_from E x xs ≡ dedup_from F x xs = from_agree E F x xs (λ a b a_in b_in. agree a b (behind k a (x ∷ xs) a_in) (behind k b (x ∷ xs) b_in)) in
    λ i. cond (test i) (same i) (k ∷ next i)
  where
    wider : (a : X) → Contains (k ∷ xs) a → Contains (k ∷ x ∷ xs) a
    wider a (zero, within, is) = (0, omega arith, is)
    wider a (suc n, within, is) = (suc (suc n), omega (arith, within), is)

dedup_agree : {X : Type 0} (E F : X → X → Bool) (xs : List X) → ((a b : X) → Contains xs a → Contains xs b → E a b ≡ F a b) → dedup E xs ≡ dedup F xs
dedup_agree E F [] agree = refl
dedup_agree E F (x ∷ xs) agree = from_agree E F x xs agree

is_equal : (o : Ordering) → is_eq o ≡ true → o ≡ Equal
is_equal Less e = absurd (false≢true e)
is_equal Equal e = refl
is_equal Greater e = absurd (false≢true e)

-- a list is put in order, and of equal ones that follow each other one is kept; those that are alike in order are equal
module _ {X : Type 0} (R : X → X → Ordering) (total : IsTotalOrder R) (E : X → X → Bool) (decides : (a b : X) → Decides (E a b) (a ≡ b)) (old sorted : List X) (moved : IsPermutation old sorted) (alike : (a b : X) → Contains old a → Contains old b → R a b ≡ Equal → a ≡ b) where
  back : (x : X) → Contains sorted x → Contains old x
  back x = Contains-permutation sorted old x (IsPermutation-sym old sorted moved)

  tests : (a b : X) → Contains sorted a → Contains sorted b → E a b ≡ eq_by_cmp R a b
  tests a b a_in b_in =
      same_from_decides (E a b) (eq_by_cmp R a b) (decides a b)
      (λ e. alike a b (back a a_in) (back b b_in) (is_equal (R a b) e), λ e. subst (λ (x : X). eq_by_cmp R a x ≡ true) e (ap is_eq (tied_itself total a)))

  as_alike : dedup E sorted ≡ dedup (eq_by_cmp R) sorted
  as_alike = dedup_agree E (eq_by_cmp R) sorted tests

  pub once_same : (x : X) → Contains (dedup E sorted) x ↔ Contains old x
  once_same x = (λ w. back x (Contains-from_dedup E sorted x w), there)
    where
      there : Contains old x → Contains (dedup E sorted) x
      there w =
          let some : Any (λ y. eq_by_cmp R x y ≡ true) (dedup (eq_by_cmp R) sorted) = Any-dedup (eq_by_cmp_equiv total) sorted x (Contains-permutation old sorted x moved w) in
          let y = some.1 in
          let y_in : Contains (dedup (eq_by_cmp R) sorted) y = (some.0, some.2, some.3) in
          let is : x ≡ y = alike x y w (back y (Contains-from_dedup (eq_by_cmp R) sorted y y_in)) (is_equal (R x y) some.4) in
          subst (λ (ys : List X). Contains ys x) (sym as_alike) (subst (λ (z : X). Contains (dedup (eq_by_cmp R) sorted) z) (sym is) y_in)

  pub once_in_order : IsSorted R sorted → AllPairs (λ (a b : X). is_lt (R a b) ≡ true) (dedup E sorted)
  once_in_order rising i j d less within =
      let strict : IsStrictlySortedBy R (dedup (eq_by_cmp R) sorted) = IsStrictlySortedBy-dedup total (λ a b. refl) sorted rising in
      ap is_lt (Less-from_sorted R (dedup E sorted) i j d (subst (IsStrictlySortedBy R) (sym as_alike) strict) less within)

-- places in order, each before the next, are different
pub different : (sites : List Site) → AllPairs (λ (a b : Site). is_lt (site_order a b) ≡ true) sites → AreDifferent sites
different sites rising i j d less within same =
    false≢true
    (sym (ap is_lt (tied_itself site_total (get_or sites i d)))
    ∙ subst (λ (s : Site). is_lt (site_order (get_or sites i d) s) ≡ true) (sym same) (rising i j d less within))
