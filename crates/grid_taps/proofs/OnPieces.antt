-- The pads of one line on its pieces, while they are found one after another.
use Rattle.std.proofs.Common.{◌≡◌, ◌⊎◌, inl, inr, ℕ, ◌+◌, ◌<◌, List, [], ◌∷◌, ◌++◌, length, get_or, take, All, AllPairs, Contains, ◌≤◌, sym, ◌∙◌, subst, arith}
use Rattle.std.proofs.lemmas.List.{take_more, take_all, get_or_default, length-take, get_or-take}
use Rattle.std.proofs.lemmas.List.Quantifiers.{all_pairs_push}
use Rattle.std.proofs.lemmas.List.Elements.{All-push, Contains-push, Contains-push_cases, Contains-append_left}
use Rattle.grid_network.specs.declared.pad.PadOn.{PadOn}

-- The pads on the first of the pieces that are found; `P` says which pads these are.
pub record AreOnUpTo (P : PadOn → Type 0) (numbers : List ℕ) (on : List PadOn) : Type 0 where
  pub each : All P on
  pub every : (one : PadOn) → P one → Contains numbers one.piece → Contains on one
  pub rising : AllPairs (λ (a b : PadOn). a.piece < b.piece) on
  pub of_them : All (λ (one : PadOn). Contains numbers one.piece) on

pub no_pads : (P : PadOn → Type 0) (numbers : List ℕ) → AreOnUpTo P (take 0 numbers) []
no_pads P numbers = record {
  each = λ k d within. absurd (omega arith);
  every = λ one is there. absurd (omega (arith, there.1));
  rising = λ i j d less within. absurd (omega arith);
  of_them = λ k d within. absurd (omega arith);
}

-- the list so far, with a number more
numbers_more : (numbers : List ℕ) (i : ℕ) (d : ℕ) (n : ℕ) → i < length numbers → Contains (take (i + 1) numbers) n → Contains (take i numbers) n ⊎ (get_or numbers i d ≡ n)
numbers_more numbers i d n within there =
    Contains-push_cases (take i numbers) (get_or numbers i d) n (subst (λ (ns : List ℕ). Contains ns n) (take_more numbers i d within) there)

numbers_kept : (numbers : List ℕ) (i : ℕ) (d : ℕ) (n : ℕ) → i < length numbers → Contains (take i numbers) n → Contains (take (i + 1) numbers) n
numbers_kept numbers i d n within there =
    subst (λ (ns : List ℕ). Contains ns n) (sym (take_more numbers i d within)) (Contains-append_left (take i numbers) (get_or numbers i d ∷ []) n there)

-- numbers that rise are all below the next one
below_next : (numbers : List ℕ) (i : ℕ) (d : ℕ) (n : ℕ) → AllPairs (λ a b. a < b) numbers → i < length numbers → Contains (take i numbers) n → n < get_or numbers i d
below_next numbers i d n rising within (k, k_within, is) =
    let less : k < i = omega (arith, k_within, length-take i numbers) in
    let at : get_or numbers k n ≡ n = sym (get_or-take i numbers k n less) ∙ is in
    let same : get_or numbers i n ≡ get_or numbers i d = get_or_default numbers i n d within in
    let pair : get_or numbers k n < get_or numbers i n = rising k i n less within in
    omega (arith, at, same, pair)

-- one more piece, on which the pad stands
pub pads_more : (P : PadOn → Type 0) (numbers : List ℕ) (i : ℕ) (d : ℕ) (on : List PadOn) (one : PadOn)
    → AllPairs (λ a b. a < b) numbers → i < length numbers → one.piece ≡ get_or numbers i d → P one
    → ((other : PadOn) → P other → other.piece ≡ get_or numbers i d → other ≡ one)
    → AreOnUpTo P (take i numbers) on → AreOnUpTo P (take (i + 1) numbers) (on ++ one ∷ [])
pads_more P numbers i d on one rises within is stands only h = record {
  each = All-push P on one h.each stands;
  every = λ other other_is there. by_place other other_is (numbers_more numbers i d other.piece within there);
  rising = all_pairs_push (λ (a b : PadOn). a.piece < b.piece) on one h.rising
      (λ k e k_within. let less = below_next numbers i d (get_or on k e).piece rises within (h.of_them k e k_within) in omega (arith, less, is));
  of_them = All-push (λ (z : PadOn). Contains (take (i + 1) numbers) z.piece) on one
      (λ k e k_within. numbers_kept numbers i d (get_or on k e).piece within (h.of_them k e k_within))
      (subst (λ (ns : List ℕ). Contains ns one.piece) (sym (take_more numbers i d within))
      (subst (λ n. Contains (take i numbers ++ get_or numbers i d ∷ []) n) (sym is) (Contains-push (take i numbers) (get_or numbers i d))));
}
  where
    by_place : (other : PadOn) → P other → Contains (take i numbers) other.piece ⊎ (get_or numbers i d ≡ other.piece) → Contains (on ++ one ∷ []) other
    by_place other other_is (inl before) = Contains-append_left on (one ∷ []) other (h.every other other_is before)
    by_place other other_is (inr here) = subst (λ (z : PadOn). Contains (on ++ one ∷ []) z) (sym (only other other_is (sym here))) (Contains-push on one)

-- one more piece, on which it does not stand
pub pads_kept : (P : PadOn → Type 0) (numbers : List ℕ) (i : ℕ) (d : ℕ) (on : List PadOn) → i < length numbers
    → ((other : PadOn) → P other → other.piece ≡ get_or numbers i d → ⊥)
    → AreOnUpTo P (take i numbers) on → AreOnUpTo P (take (i + 1) numbers) on
pads_kept P numbers i d on within none h = record {
  each = h.each;
  every = λ other other_is there. by_place other other_is (numbers_more numbers i d other.piece within there);
  rising = h.rising;
  of_them = λ k e k_within. numbers_kept numbers i d (get_or on k e).piece within (h.of_them k e k_within);
}
  where
    by_place : (other : PadOn) → P other → Contains (take i numbers) other.piece ⊎ (get_or numbers i d ≡ other.piece) → Contains on other
    by_place other other_is (inl before) = h.every other other_is before
    by_place other other_is (inr here) = absurd (none other other_is (sym here))

-- all of them
pub every_one : (P : PadOn → Type 0) (numbers : List ℕ) (i : ℕ) (on : List PadOn) → length numbers ≤ i → ((one : PadOn) → P one → Contains numbers one.piece)
    → AreOnUpTo P (take i numbers) on → (one : PadOn) → P one → Contains on one
every_one P numbers i on le found h one one_is = h.every one one_is (subst (λ (ns : List ℕ). Contains ns one.piece) (sym (take_all i numbers le)) (found one one_is))
