-- One more step of a step certificate, and what is told where there is none.
use Rattle.std.proofs.Common.{◌≡◌, ℕ, zero, suc, ◌+◌, ◌<◌, ◌≤◌, inl, inr, ℤ, arith, refl, sym, ap, subst, ◌∙◌, List, [], ◌∷◌, ◌++◌, length, length-append, All, None}
use Rattle.std.proofs.lemmas.Bool.{cases_lt}
use Rattle.std.proofs.lemmas.List.{get_or_append_left}
use Rattle.std.proofs.lemmas.List.Elements.{All-push}
use Rattle.std.proofs.Math.Seq.{get_or-append_seam}
use Rattle.outside.specs.Counts.{Rose}
use Rattle.grid_net.specs.Network.{Network}
use Rattle.grid_net.specs.Certificate.{IsCertificate, IsTight}
use Rattle.step_bounds.specs.declared.companion.Companion.{Companion}
use Rattle.wave_file.specs.declared.record.Change.{Change}
use Rattle.step_bounds.specs.declared.error.StepError.{StepError}
use Rattle.step_bounds.specs.declared.lists.Lists.{Lists}
use Rattle.step_bounds.specs.declared.passed.Passed.{Passed}
use Rattle.step_bounds.specs.declared.passed.Passed.TheVariants.{Limit, Want as PassedWant}
use Rattle.step_bounds.specs.Changes.{step_loads}
use Rattle.step_bounds.specs.StepNetwork.{step_refusal}
use Rattle.step_bounds.specs.StepCertificate.{list_at, IsHighBound, IsLowBound, IsStepCertificate, KeepStepLimits}
use Rattle.step_bounds.specs.Refusal.{IsStepRefusal}
use Rattle.step_bounds.specs.inside.Step.{IsPassedAt, IsErrorAt}

-- ---- lists with one more
at_old : (xs : List (List ℤ)) (x : List ℤ) (k : ℕ) → k < length xs → list_at (xs ++ x ∷ []) k ≡ list_at xs k
at_old xs x k l = get_or_append_left xs (x ∷ []) [] k l

at_new : (xs : List (List ℤ)) (x : List ℤ) (k : ℕ) → length xs ≡ k → list_at (xs ++ x ∷ []) k ≡ x
at_new xs x k e = ap (λ (j : ℕ). list_at (xs ++ x ∷ []) j) (sym e) ∙ get_or-append_seam xs x [] []

-- What holds of each step and the one before it, with one more step.
grown : (B : ℕ → List ℤ → List ℤ → Type 0) (xs : List (List ℤ)) (x : List ℤ) (t : ℕ) → length xs ≡ t + 1
    → ((s : ℕ) → suc s < t + 1 → B s (list_at xs s) (list_at xs (suc s))) → B t (list_at xs t) x
    → (s : ℕ) → suc s < (t + 1) + 1 → B s (list_at (xs ++ x ∷ []) s) (list_at (xs ++ x ∷ []) (suc s))
grown B xs x t long each last s l = elim (cases_lt s t) [
  | inl lt ↦ (
      let P : List ℤ → Type 0 = λ y. B s y (list_at (xs ++ x ∷ []) (suc s)) in
      let Q : List ℤ → Type 0 = λ y. B s (list_at xs s) y in
      subst P (sym (at_old xs x s (omega (arith, long, lt)))) (subst Q (sym (at_old xs x (suc s) (omega (arith, long, lt)))) (each s (omega arith))))
  | inr ge ↦ (
      let same : s ≡ t = omega arith in
      let R : ℕ → Type 0 = λ j. B j (list_at (xs ++ x ∷ []) j) (list_at (xs ++ x ∷ []) (suc j)) in
      let P : List ℤ → Type 0 = λ y. B t y (list_at (xs ++ x ∷ []) (suc t)) in
      let Q : List ℤ → Type 0 = λ y. B t (list_at xs t) y in
      subst R (sym same) (subst P (sym (at_old xs x t (omega (arith, long)))) (subst Q (sym (at_new xs x (suc t) (omega (arith, long)))) last)))
]

module _ (net : Network) (xs : List Companion) (changes : List Change) (t : ℕ) (high low : List (List ℤ))
    (cert : IsStepCertificate net xs changes (t + 1) high low) (h l : List ℤ) where
  pub one_more_step : length h ≡ net.nodes → length l ≡ net.nodes
      → IsHighBound net xs (step_loads net changes (suc t)) (list_at high t) h
      → IsLowBound net xs (step_loads net changes (suc t)) (list_at low t) l
      → IsStepCertificate net xs changes ((t + 1) + 1) (high ++ h ∷ []) (low ++ l ∷ [])
  one_more_step h_size l_size h_bound l_bound =
      let first_high = at_old high h 0 (omega (arith, cert.high_count)) in
      let first_low = at_old low l 0 (omega (arith, cert.low_count)) in
      let C : List ℤ → Type 0 = λ y. IsCertificate net y (list_at (low ++ l ∷ []) 0) in
      let D : List ℤ → Type 0 = λ y. IsCertificate net (list_at high 0) y in
      let T : List ℤ → Type 0 = λ y. IsTight net y (list_at (low ++ l ∷ []) 0) in
      let U : List ℤ → Type 0 = λ y. IsTight net (list_at high 0) y in
      record {
        high_count = omega (arith, cert.high_count, length-append high (h ∷ []));
        low_count = omega (arith, cert.low_count, length-append low (l ∷ []));
        high_sizes = All-push (λ x. length x ≡ net.nodes) high h cert.high_sizes h_size;
        low_sizes = All-push (λ x. length x ≡ net.nodes) low l cert.low_sizes l_size;
        certificate = λ z. subst C (sym first_high) (subst D (sym first_low) (cert.certificate (omega arith)));
        tight = λ z. subst T (sym first_high) (subst U (sym first_low) (cert.tight (omega arith)));
        high_bounds = grown (λ s before now. IsHighBound net xs (step_loads net changes (suc s)) before now) high h t cert.high_count cert.high_bounds h_bound;
        low_bounds = grown (λ s before now. IsLowBound net xs (step_loads net changes (suc s)) before now) low l t cert.low_count cert.low_bounds l_bound;
      }

  pub one_more_kept : KeepStepLimits net xs changes t high low → step_refusal net xs changes (suc t) (list_at high t) ≡ None
      → step_refusal net xs changes (suc t) (list_at low t) ≡ None
      → KeepStepLimits net xs changes (t + 1) (high ++ h ∷ []) (low ++ l ∷ [])
  one_more_kept kept of_high of_low s m =
      let a = ap (step_refusal net xs changes (suc s)) (at_old high h s (omega (arith, cert.high_count))) in
      let b = ap (step_refusal net xs changes (suc s)) (at_old low l s (omega (arith, cert.low_count))) in
      elim (cases_lt s t) [
        | inl lt ↦ (a ∙ (kept s lt).0, b ∙ (kept s lt).1)
        | inr ge ↦ (
            let same : s ≡ t = omega arith in (
              a ∙ ap (λ (j : ℕ). step_refusal net xs changes (suc j) (list_at high j)) same ∙ of_high,
              b ∙ ap (λ (j : ℕ). step_refusal net xs changes (suc j) (list_at low j)) same ∙ of_low,
            ))
      ]

-- The first step.
pub first_step : (net : Network) (xs : List Companion) (changes : List Change) (h l : List ℤ) → IsCertificate net h l → IsTight net h l
    → length h ≡ net.nodes → length l ≡ net.nodes → IsStepCertificate net xs changes 1 (h ∷ []) (l ∷ [])
first_step net xs changes h l cert tight h_size l_size = record {
  high_count = refl;
  low_count = refl;
  high_sizes = one (λ x. length x ≡ net.nodes) h h_size;
  low_sizes = one (λ x. length x ≡ net.nodes) l l_size;
  certificate = λ z. cert;
  tight = λ z. tight;
  high_bounds = λ t m. absurd (omega arith);
  low_bounds = λ t m. absurd (omega arith);
}
  where
    one : (P : List ℤ → Type 0) (x : List ℤ) → P x → All P (x ∷ [])
    one P x p zero d m = p
    one P x p (suc k) d m = absurd (omega arith)

-- What is told where a step did not come to be.
pub refusal_at : (net : Network) (xs : List Companion) (changes : List Change) (last t : ℕ) (lists : Lists) (passed : Passed)
    (error : StepError) → t + 1 ≤ last → IsStepCertificate net xs changes (t + 1) lists.high.items lists.low.items
    → KeepStepLimits net xs changes t lists.high.items lists.low.items → IsPassedAt net xs (step_loads net changes (suc t)) t lists passed → IsErrorAt (t + 1) passed lists error
    → IsStepRefusal net xs changes last error
refusal_at net xs changes last t lists (Limit quantity at number) error in_time cert limits passed told =
    let before = told.0 in
    let next : t + 1 ≡ suc t = omega arith in
    let P : List (List ℤ) → Type 0 = λ hs. IsStepCertificate net xs changes (t + 1) hs before.low in
    let Q : List (List ℤ) → Type 0 = λ ls. IsStepCertificate net xs changes (t + 1) lists.high.items ls in
    let K : List (List ℤ) → Type 0 = λ hs. KeepStepLimits net xs changes t hs before.low in
    let L : List (List ℤ) → Type 0 = λ ls. KeepStepLimits net xs changes t lists.high.items ls in
    subst (IsStepRefusal net xs changes last) (sym told.1) (record {
      t = t;
      is_next = next;
      is_step = in_time;
      certificate = subst P (sym told.2) (subst Q (sym told.3) cert);
      earlier = subst K (sym told.2) (subst L (sym told.3) limits);
      refused = elim passed [
        | inl e ↦ inl (ap (λ (s : ℕ). step_refusal net xs changes s (list_at before.high t)) next
            ∙ ap (λ (hs : List (List ℤ)). step_refusal net xs changes (suc t) (list_at hs t)) told.2 ∙ e)
        | inr e ↦ inr (ap (λ (s : ℕ). step_refusal net xs changes s (list_at before.low t)) next
            ∙ ap (λ (ls : List (List ℤ)). step_refusal net xs changes (suc t) (list_at ls t)) told.3 ∙ e)
      ];
    })
refusal_at net xs changes last t lists PassedWant error in_time cert limits passed told =
    subst (IsStepRefusal net xs changes last) (sym told) tt

-- A count that rose after it had not fallen rose.
pub rose_after : (a b c : ℕ) → a ≤ b → Rose b c → Rose a c
rose_after a b c l rose = elim rose [ inl lt ↦ inl (omega arith) | inr last ↦ inr last ]

-- What holds of lists holds of those that they are.
pub of_steps : (P : List Companion → ℕ → List (List ℤ) → List (List ℤ) → Type 0) (xs ys : List Companion) (n m : ℕ)
    (hs gs ls ks : List (List ℤ)) → ys ≡ xs → m ≡ n → gs ≡ hs → ks ≡ ls → P xs n hs ls → P ys m gs ks
of_steps P xs ys n m hs gs ls ks e f g h this =
    subst (λ (z : List Companion). P z m gs ks) (sym e) (subst (λ (z : ℕ). P xs z gs ks) (sym f)
    (subst (λ (z : List (List ℤ)). P xs n z ks) (sym g) (subst (λ (z : List (List ℤ)). P xs n hs z) (sym h) this)))
