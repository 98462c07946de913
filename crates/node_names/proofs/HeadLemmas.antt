-- What the heads of two names say of their order.
use Rattle.std.proofs.Common.{◌≡◌, inl, inr, ℕ, zero, suc, ◌+◌, ◌*◌, ◌<◌, ◌≤◌, ◌^◌, false, List, [], ◌∷◌, All, length, drop, get_or, refl, sym, ap, ◌∙◌, subst, arith}
use Rattle.std.specs.Char.{to_ascii_lowercase}
use Rattle.std.specs.Str.{bytes_eq}
use Rattle.std.specs.declared.cmp.Ordering.{Ordering}
use Rattle.std.specs.declared.cmp.Ordering.TheVariants.{Less, Equal, Greater}
use Rattle.std.specs.Ordering.{ordering_then, nat_cmp, MatchOrdering}
use Rattle.std.specs.Cmp.Lexicographic.{slice_cmp}
use Rattle.std.proofs.lemmas.Bool.{cases_Bool}
use Rattle.std.proofs.lemmas.Cmp.{ranked}
use Rattle.std.proofs.lemmas.Grind.{pow_more}
use Rattle.std.proofs.Math.Nat.{pow-le-pow_right}
use Rattle.std.proofs.lemmas.List.Elements.{All-nil, All-cons}
use Rattle.std.proofs.Math.Seq.{drop-nil}
use Rattle.std.proofs.lemmas.Slice.Eq.{bytes_eq-Decides}
use Rattle.node_names.specs.Folding.{folded}
use Rattle.node_names.specs.inside.Head.{head_from}

-- Each is a byte.
abbrev pub AreBytes : List ℕ → Type 0
AreBytes bytes = All (λ b. b < 256) bytes

-- What stands before decides.
pub before_decides : (more a b : ℕ) (xs ys : List ℕ) → AreBytes xs → a < b → head_from a more xs < head_from b more ys
unfolding head_from
before_decides zero a b xs ys bytes h = h
before_decides (suc more) a b [] [] bytes h = before_decides more (a * 256) (b * 256) [] [] bytes (omega arith)
before_decides (suc more) a b [] (y ∷ ys) bytes h = before_decides more (a * 256) (b * 256 + y) [] ys bytes (omega arith)
before_decides (suc more) a b (x ∷ xs) [] bytes h =
    let small : x < 256 = bytes 0 0 (omega arith) in
    before_decides more (a * 256 + x) (b * 256) xs [] (λ k d w. bytes (suc k) d (omega arith)) (omega arith)
before_decides (suc more) a b (x ∷ xs) (y ∷ ys) bytes h =
    let small : x < 256 = bytes 0 0 (omega arith) in
    before_decides more (a * 256 + x) (b * 256 + y) xs ys (λ k d w. bytes (suc k) d (omega arith)) (omega arith)

never_before_nothing : (xs : List ℕ) → slice_cmp nat_cmp xs [] ≡ Less → ⊥
never_before_nothing [] e = cc
never_before_nothing (x ∷ xs) e = cc

-- The name with the lower head stands first.
pub lower_first : (more a : ℕ) (xs ys : List ℕ) → AreBytes xs → AreBytes ys → head_from a more xs < head_from a more ys → slice_cmp nat_cmp xs ys ≡ Less
unfolding head_from
lower_first zero a xs ys first second h = absurd (omega arith)
lower_first (suc more) a [] [] first second h = absurd (omega arith)
lower_first (suc more) a [] (y ∷ ys) first second h = refl
lower_first (suc more) a (x ∷ xs) [] first second h = by x refl (λ k. lower_first more (a * 256) xs [] (λ i d w. first (suc i) d (omega arith)) second k)
  where
    by : (n : ℕ) → x ≡ n → (head_from (a * 256) more xs < head_from (a * 256) more [] → slice_cmp nat_cmp xs [] ≡ Less) → slice_cmp nat_cmp (x ∷ xs) [] ≡ Less
    by zero e rest =
        let none : a * 256 + x ≡ a * 256 = omega arith in
        absurd (never_before_nothing xs (rest (subst (λ n. head_from n more xs < head_from (a * 256) more []) none h)))
    by (suc n) e rest =
        let above : head_from (a * 256) more [] < head_from (a * 256 + x) more xs = before_decides more (a * 256) (a * 256 + x) [] xs second (omega arith) in
        absurd (omega (arith, above, h))
lower_first (suc more) a (x ∷ xs) (y ∷ ys) first second h =
    by (nat_cmp x y) (ranked x y (nat_cmp x y) refl) (λ n k. lower_first more n xs ys (λ i d w. first (suc i) d (omega arith)) (λ i d w. second (suc i) d (omega arith)) k)
  where
    by : (o : Ordering) → MatchOrdering o (x < y) (x ≡ y) (y < x) → ((n : ℕ) → head_from n more xs < head_from n more ys → slice_cmp nat_cmp xs ys ≡ Less) →
        ordering_then o (slice_cmp nat_cmp xs ys) ≡ Less
    by Less rank rest = refl
    by Equal rank rest = rest (a * 256 + y) (subst (λ n. head_from (a * 256 + n) more xs < head_from (a * 256 + y) more ys) rank h)
    by Greater rank rest =
        let above : head_from (a * 256 + y) more ys < head_from (a * 256 + x) more xs = before_decides more (a * 256 + y) (a * 256 + x) ys xs (λ i d w. second (suc i) d (omega arith)) (omega arith) in
        absurd (omega (arith, above, h))

-- The same from the other side.
pub turned : (xs ys : List ℕ) → slice_cmp nat_cmp xs ys ≡ Less → slice_cmp nat_cmp ys xs ≡ Greater
turned [] [] e = cc
turned [] (y ∷ ys) e = refl
turned (x ∷ xs) [] e = cc
turned (x ∷ xs) (y ∷ ys) e = by (nat_cmp x y) (nat_cmp y x) (ranked x y (nat_cmp x y) refl) (ranked y x (nat_cmp y x) refl) e (λ k. turned xs ys k)
  where
    never : ◌≡◌ {A = Ordering} Greater Less → ⊥
    never k = cc

    by : (o p : Ordering) → MatchOrdering o (x < y) (x ≡ y) (y < x) → MatchOrdering p (y < x) (y ≡ x) (x < y) → ordering_then o (slice_cmp nat_cmp xs ys) ≡ Less →
        (slice_cmp nat_cmp xs ys ≡ Less → slice_cmp nat_cmp ys xs ≡ Greater) → ordering_then p (slice_cmp nat_cmp ys xs) ≡ Greater
    by Less Less r s h rest = absurd (omega (arith, r, s))
    by Less Equal r s h rest = absurd (omega (arith, r, s))
    by Less Greater r s h rest = refl
    by Equal Less r s h rest = absurd (omega (arith, r, s))
    by Equal Equal r s h rest = rest h
    by Equal Greater r s h rest = absurd (omega (arith, r, s))
    by Greater p r s h rest = absurd (never h)

-- Short names of one length with one head are one.
pub head_is_all : (more a : ℕ) (xs ys : List ℕ) → AreBytes xs → AreBytes ys → length xs ≡ length ys → length xs ≤ more → head_from a more xs ≡ head_from a more ys → xs ≡ ys
unfolding head_from
head_is_all more a [] [] first second count few h = refl
head_is_all more a [] (y ∷ ys) first second count few h = absurd (omega arith)
head_is_all more a (x ∷ xs) [] first second count few h = absurd (omega arith)
head_is_all zero a (x ∷ xs) (y ∷ ys) first second count few h = absurd (omega arith)
head_is_all (suc more) a (x ∷ xs) (y ∷ ys) first second count few h =
    by (nat_cmp x y) (ranked x y (nat_cmp x y) refl)
    (λ n k. head_is_all more n xs ys (λ i d w. first (suc i) d (omega arith)) (λ i d w. second (suc i) d (omega arith)) (omega arith) (omega arith) k)
  where
    by : (o : Ordering) → MatchOrdering o (x < y) (x ≡ y) (y < x) → ((n : ℕ) → head_from n more xs ≡ head_from n more ys → xs ≡ ys) → x ∷ xs ≡ y ∷ ys
    by Less rank rest =
        let above : head_from (a * 256 + x) more xs < head_from (a * 256 + y) more ys = before_decides more (a * 256 + x) (a * 256 + y) xs ys (λ i d w. first (suc i) d (omega arith)) (omega arith) in
        absurd (omega (arith, above, h))
    by Equal rank rest =
        let same = rest (a * 256 + y) (subst (λ n. head_from (a * 256 + n) more xs ≡ head_from (a * 256 + y) more ys) rank h) in
        λ i. rank i ∷ same i
    by Greater rank rest =
        let above : head_from (a * 256 + y) more ys < head_from (a * 256 + x) more xs = before_decides more (a * 256 + y) (a * 256 + x) ys xs (λ i d w. second (suc i) d (omega arith)) (omega arith) in
        absurd (omega (arith, above, h))

-- Names with other heads, or of other lengths, are two.
pub other_names : {X : Type 0} (f : List ℕ → X) (xs ys : List ℕ) → (f xs ≡ f ys → ⊥) → bytes_eq xs ys ≡ false
other_names f xs ys apart = elim (cases_Bool (bytes_eq xs ys)) [
  | inl e ↦ absurd (apart (ap f ((bytes_eq-Decides xs ys).0 e)))
  | inr e ↦ e
]

-- One more byte of a head.
pub head_more : (before more : ℕ) (xs : List ℕ) (i : ℕ) → head_from before (suc more) (drop i xs) ≡ head_from (before * 256 + get_or xs i 0) more (drop (i + 1) xs)
unfolding head_from
head_more before more [] i =
    let same : before * 256 ≡ before * 256 + get_or {A = ℕ} [] i 0 = omega arith in
    ap (λ (z : List ℕ). head_from before (suc more) z) (drop-nil i) ∙ (λ j. head_from (same j) more (sym (drop-nil {A = ℕ} (i + 1)) j))
head_more before more (x ∷ xs) zero = refl
head_more before more (x ∷ xs) (suc i) =
    let next : suc (i + 1) ≡ suc i + 1 = omega arith in
    head_more before more xs i ∙ ap (λ k. head_from (before * 256 + get_or xs i 0) more (drop k (x ∷ xs))) next

-- A head of so many bytes is a number of so many bytes.
pub fits_more : (head byte i : ℕ) → head < 256 ^ i → byte < 256 → i < 16 → (head * 256 + byte < 256 ^ (i + 1)) × (head * 256 + byte < 2 ^ 128)
fits_more head byte i h small few =
    let more : 256 ^ (i + 1) ≡ 256 ^ i * 256 = pow_more 256 i in
    let within : head * 256 + byte < 256 ^ i * 256 = omega arith in
    let next : head * 256 + byte < 256 ^ (i + 1) = subst (λ n. head * 256 + byte < n) (sym more) within in
    let some : 0 < 256 = omega arith in
    let upto : i + 1 ≤ 16 = omega arith in
    let last : 256 ^ (i + 1) ≤ 256 ^ 16 = pow-le-pow_right some upto in
    let all : 256 ^ 16 ≡ 2 ^ 128 = refl in
    (next, omega (arith, next, last, all))

-- A name in lower case is made of bytes.
pub folded_bytes : (name : List ℕ) → ((i : ℕ) → get_or name i 0 < 256) → AreBytes (folded name)
folded_bytes [] h = All-nil (λ b. b < 256)
folded_bytes (x ∷ xs) h = All-cons (λ b. b < 256) (to_ascii_lowercase x) (folded xs) (small x (h 0)) (folded_bytes xs (λ i. h (suc i)))
  where
    small : (x : ℕ) → x < 256 → to_ascii_lowercase x < 256
    small x h = grind arith
