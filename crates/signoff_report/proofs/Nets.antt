-- Tests of all numbers below a number, and a net's verdict by them.
use Rattle.std.proofs.Common.{◌≡◌, ◌≢◌, ℕ, zero, suc, ◌+◌, ◌<◌, Bool, true, false, not, ◌&&◌, ◌||◌, if◌then◌else◌, ℤ, Option, Some, None, refl, sym, ◌∙◌, ap, arith, add-one, Decides, List, get_or, ◌==◌, eq-eqb}
use Rattle.std.proofs.lemmas.Bool.Decides.{Decides-below_or, Decides-below_and, nat_tests}
use Rattle.em_rules.specs.declared.words.Verdict.{Verdict}
use Rattle.em_rules.specs.declared.words.Verdict.TheVariants.{Safe, Unsafe, Undecided, NoLimit}
use Rattle.signoff_report.specs.Judged.{some_below, each_below, is_safe, is_unsafe}

pub some_more : (n : ℕ) (test : ℕ → Bool) → some_below (n + 1) test ≡ (test n || some_below n test)
some_more n test = rw add-one refl

pub each_more : (n : ℕ) (test : ℕ → Bool) → each_below (n + 1) test ≡ (test n && each_below n test)
each_more n test = rw add-one refl

pub none_more : (n : ℕ) (test : ℕ → Bool) → some_below n test ≡ false → test n ≡ false → some_below (n + 1) test ≡ false
none_more n test none here = some_more n test ∙ (λ i. here i || none i)

pub each_same : (n : ℕ) (test : ℕ → Bool) → test n ≡ true → each_below (n + 1) test ≡ each_below n test
each_same n test here = each_more n test ∙ ap (λ b. b && each_below n test) here

pub each_not : (n : ℕ) (test : ℕ → Bool) → test n ≡ false → each_below (n + 1) test ≡ false
each_not n test here = each_more n test ∙ ap (λ b. b && each_below n test) here

decides_test : (test : ℕ → Bool) (k : ℕ) → Decides (test k) (test k ≡ true)
decides_test test k = (λ e. e, λ e. e)

pub some_tells : (n : ℕ) (test : ℕ → Bool) → Decides (some_below n test) ((k : ℕ) × (k < n) × (test k ≡ true))
some_tells n test = Decides-below_or test (λ k. test k ≡ true) (λ m. some_below m test) (decides_test test) refl (λ _. refl) n

pub each_tells : (n : ℕ) (test : ℕ → Bool) → Decides (each_below n test) ((k : ℕ) → k < n → test k ≡ true)
each_tells n test = Decides-below_and test (λ k. test k ≡ true) (λ m. each_below m test) (decides_test test) refl (λ _. refl) n

-- The tests of a node by its net and its verdict.
pub silent : (a : Bool) (v w : Verdict) → v ≡ w → is_unsafe w ≡ false → (a && is_unsafe v) ≡ false
silent true v w e f = ap is_unsafe e ∙ f
silent false v w e f = refl

pub elsewhere : (a : Bool) (v : Verdict) → a ≡ false → (a && is_unsafe v) ≡ false
elsewhere a v e = ap (λ b. b && is_unsafe v) e

pub content : (a : Bool) (v w : Verdict) → v ≡ w → is_safe w ≡ true → (not a || is_safe v) ≡ true
content true v w e f = ap is_safe e ∙ f
content false v w e f = refl

pub not_concerned : (a : Bool) (v : Verdict) → a ≡ false → (not a || is_safe v) ≡ true
not_concerned a v e = ap (λ b. not b || is_safe v) e

pub concerned : (a : Bool) (v : Verdict) → a ≡ true → is_safe v ≡ false → (not a || is_safe v) ≡ false
concerned a v e f = λ i. not (e i) || f i

pub fails_here : (a : Bool) (v : Verdict) → a ≡ true → is_unsafe v ≡ true → (a && is_unsafe v) ≡ true
fails_here a v e f = λ i. e i && f i

pub unless_unsafe : (v : Verdict) → v ≢ Unsafe → is_unsafe v ≡ false
unless_unsafe Safe h = refl
unless_unsafe Unsafe h = absurd (h refl)
unless_unsafe Undecided h = refl
unless_unsafe NoLimit h = refl

pub unless_safe : (v : Verdict) → v ≢ Safe → is_safe v ≡ false
unless_safe Safe h = absurd (h refl)
unless_safe Unsafe h = refl
unless_safe Undecided h = refl
unless_safe NoLimit h = refl

-- The verdict of a net by its two tests.
pub is_unsafe_net : (n : ℕ) (unsafe_ safe : ℕ → Bool) (k : ℕ) → k < n → unsafe_ k ≡ true → Unsafe ≡ (if some_below n unsafe_ then Unsafe else (if each_below n safe then Safe else Undecided))
is_unsafe_net n unsafe_ safe k within here = sym (ap (λ b. if b then Unsafe else (if each_below n safe then Safe else Undecided)) ((some_tells n unsafe_).1 (k, within, here)))

differs : (n k : ℕ) → n ≢ k → (n == k) ≡ false
differs n k other = grind (arith, nat_tests)

-- Whether a node is of a net, by a list that is another name of the nodes' nets.
pub of_net : (xs ys : List ℕ) (i k : ℕ) → xs ≡ ys → get_or xs i 0 ≡ k → (get_or ys i 0 == k) ≡ true
of_net xs ys i k e h = eq-eqb (get_or ys i 0) k (sym (ap (λ (l : List ℕ). get_or l i 0) e) ∙ h)

pub not_of_net : (xs ys : List ℕ) (i k : ℕ) → xs ≡ ys → get_or xs i 0 ≢ k → (get_or ys i 0 == k) ≡ false
not_of_net xs ys i k e h = differs (get_or ys i 0) k (λ same. h (ap (λ (l : List ℕ). get_or l i 0) e ∙ same))
