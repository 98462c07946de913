-- As many settings as options, each option set: no option is set twice; and back.
use Rattle.std.proofs.Common.{◌≡◌, ℕ, suc, Bool, true, false, not, ◌&&◌, ◌≤◌, List, [], ◌∷◌, length, refl, sym, ◌∙◌, ap, arith}
use Rattle.std.specs.Prelude.{if◌then◌else◌}
use Rattle.std.specs.Str.{bytes_eq}
use Rattle.std.proofs.lemmas.Slice.Eq.{bytes_eq-Decides}
use Rattle.command_words.specs.inside.Parsed.{known, distinct}
use Rattle.command_words.proofs.Truth.{is_not, joined, two}

abbrev Text : Type 0
Text = List ℕ

abbrev pub covers : List Text → List Text → Bool
covers [] ks = true
covers (n ∷ ns) ks = known ks n && covers ns ks

abbrev pub less : Text → List Text → List Text
less n [] = []
less n (x ∷ xs) = if bytes_eq x n then xs else x ∷ less n xs

one_less : (n : Text) (ks : List Text) → known ks n ≡ true → length ks ≡ suc (length (less n ks))
one_less n [] h = cc
one_less n (x ∷ xs) h = go (bytes_eq x n) refl (λ k. one_less n xs k)
  where
    go : (t : Bool) → bytes_eq x n ≡ t → (known xs n ≡ true → length xs ≡ suc (length (less n xs))) → length (x ∷ xs) ≡ suc (length (less n (x ∷ xs)))
    go true e more = rw e refl
    go false e more = rw e (ap suc (more (rw e at h)))

still : (n m : Text) (ks : List Text) → bytes_eq n m ≡ false → known ks m ≡ true → known (less n ks) m ≡ true
still n m [] ne h = cc
still n m (x ∷ xs) ne h = go (bytes_eq x n) refl (bytes_eq x m) refl (λ k. still n m xs ne k)
  where
    go : (t : Bool) → bytes_eq x n ≡ t → (u : Bool) → bytes_eq x m ≡ u → (known xs m ≡ true → known (less n xs) m ≡ true) → known (less n (x ∷ xs)) m ≡ true
    go true e true f more =
        let is : x ≡ n = (bytes_eq-Decides x n).0 e in
        let bad : true ≡ false = sym f ∙ ap (λ z. bytes_eq z m) is ∙ ne in cc
    go true e false f more = rw e (rw f at h)
    go false e true f more = rw (e, f) refl
    go false e false f more = rw (e, f) (more (rw f at h))

pub differs : (ns : List Text) (n m : Text) → known ns n ≡ false → known ns m ≡ true → bytes_eq n m ≡ false
differs ns n m a b = go (bytes_eq n m) refl
  where
    go : (t : Bool) → bytes_eq n m ≡ t → bytes_eq n m ≡ false
    go true e = let bad : true ≡ false = sym b ∙ ap (λ z. known ns z) (sym ((bytes_eq-Decides n m).0 e)) ∙ a in cc
    go false e = e

head_differs : (x n : Text) (ns : List Text) → known (x ∷ ns) n ≡ false → (bytes_eq x n ≡ false) × (known ns n ≡ false)
head_differs x n ns h = go (bytes_eq x n) refl
  where
    go : (t : Bool) → bytes_eq x n ≡ t → (bytes_eq x n ≡ false) × (known ns n ≡ false)
    go true e = let bad : true ≡ false = rw e at h in cc
    go false e = (e, rw e at h)

turned : (a b : Text) → bytes_eq a b ≡ false → bytes_eq b a ≡ false
turned a b h = go (bytes_eq b a) refl
  where
    go : (t : Bool) → bytes_eq b a ≡ t → bytes_eq b a ≡ false
    go true e = let bad : true ≡ false = sym ((bytes_eq-Decides a b).1 (sym ((bytes_eq-Decides b a).0 e))) ∙ h in cc
    go false e = e

covers_less : (n : Text) (ns ks : List Text) → known ns n ≡ false → covers ns ks ≡ true → covers ns (less n ks) ≡ true
covers_less n [] ks away h = refl
covers_less n (x ∷ xs) ks away h =
    let b = two (known ks x) (covers xs ks) h in
    let d = head_differs x n xs away in
    joined _ _ (still n x ks (turned x n d.0) b.0) (covers_less n xs ks d.1 b.1)

-- the pigeonhole
pub at_least : (ns ks : List Text) → distinct ns ≡ true → covers ns ks ≡ true → length ns ≤ length ks
at_least [] ks d h = omega arith
at_least (n ∷ ns) ks d h =
    let b = two (not (known ns n)) (distinct ns) d in
    let c = two (known ks n) (covers ns ks) h in
    let more = at_least ns (less n ks) b.1 (covers_less n ns ks (is_not _ b.0) c.1) in
    let one = one_less n ks c.0 in
    omega arith

pub covers_by : (ns ks more : List Text) → ((m : Text) → known ks m ≡ true → known more m ≡ true) → covers ns ks ≡ true → covers ns more ≡ true
covers_by [] ks more grows h = refl
covers_by (x ∷ xs) ks more grows h =
    let b = two (known ks x) (covers xs ks) h in
    joined _ _ (grows x b.0) (covers_by xs ks more grows b.1)

known_same : (ks : List Text) (k m : Text) → known ks k ≡ true → known (k ∷ ks) m ≡ true → known ks m ≡ true
known_same ks k m a b = go (bytes_eq k m) refl
  where
    go : (t : Bool) → bytes_eq k m ≡ t → known ks m ≡ true
    go true e = ap (λ z. known ks z) (sym ((bytes_eq-Decides k m).0 e)) ∙ a
    go false e = rw e at b

-- settings that repeat an option are more than the options
pub repeats_are_more : (ns ks : List Text) (k : Text) → distinct ns ≡ true → covers ns (k ∷ ks) ≡ true → known ks k ≡ true → length ns ≤ length ks
repeats_are_more ns ks k d h again = at_least ns ks d (covers_by ns (k ∷ ks) ks (λ m c. known_same ks k m again c) h)
