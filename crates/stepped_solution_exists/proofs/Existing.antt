-- A solution over the steps, one step after the other.
use Rattle.std.proofs.Common.{◌≡◌, ℕ, zero, suc, ◌<◌, ◌≤◌, ◌*◌, mul_assoc, ℤ, pos, ◌*ℤ◌, arith, sym, ap, subst, List, Bool, true, false, cond, ltb, inl, inr}
use Rattle.std.proofs.Math.Path.{fun_ext}
use Rattle.std.proofs.lemmas.Bool.{cases_eq}
use Rattle.std.proofs.lemmas.Bool.Decides.{nat_tests}
use Rattle.grid_net.specs.Network.{Network, IsNetwork}
use Rattle.grid_net.specs.Solution.{IsSolution}
use Rattle.wave_file.specs.declared.record.Change.{Change}
use Rattle.step_bounds.specs.declared.companion.Companion.{Companion}
use Rattle.step_bounds.specs.Changes.{load_at}
use Rattle.step_bounds.specs.SteppedSolution.{IsStepSolution, IsSteppedSolution}
use Rattle.step_bounds.specs.inside.Extension.{AreCompanions}
use Rattle.solution_exists.specs.Existence.{EachIsSupplied, AreDrawn, HasSolution}
use Rattle.solution_exists.specs.Branches.{Branch, AreBranches, HasBranchedSolution}
use Rattle.solution_exists.specs.Laws.{times_assoc, scaled_range}
use Rattle.stepped_solution_exists.specs.Existence.{AreDrawnOver, HasSteppedSolution}
use Rattle.stepped_solution_exists.proofs.Steps.{branches, resist, step_of, Scales, start_scaled, step_scaled}

-- What is told of one network.
abbrev pub Solvable : Type 0
Solvable = (net : Network) (d : ℕ) (drawn : ℕ → ℤ) → IsNetwork net → EachIsSupplied net → AreDrawn net d drawn → HasSolution net d drawn

abbrev pub SolvableWithBranches : Type 0
SolvableWithBranches = (net : Network) (branches : List Branch) (d : ℕ) (held drawn : ℕ → ℤ) → IsNetwork net → EachIsSupplied net
    → AreBranches net.nodes branches → HasBranchedSolution net branches d held drawn

-- ---- numbers up to a step, and other numbers after it
up_to : ℕ → (ℕ → ℕ → ℤ) → (ℕ → ℤ) → ℕ → ℕ → ℤ
up_to n f g t = cond (ltb n t) g (f t)

early : (n : ℕ) (f : ℕ → ℕ → ℤ) (g : ℕ → ℤ) (t : ℕ) → t ≤ n → f t ≡ up_to n f g t
unfolding up_to
early n f g t l = ap (λ (b : Bool). cond b g (f t)) (sym (no n t l))
  where
    no : (n t : ℕ) → t ≤ n → ltb n t ≡ false
    no n t l = grind (arith, nat_tests)

late : (n : ℕ) (f : ℕ → ℕ → ℤ) (g : ℕ → ℤ) (t : ℕ) → n < t → g ≡ up_to n f g t
unfolding up_to
late n f g t l = ap (λ (b : Bool). cond b g (f t)) (sym (yes n t l))
  where
    yes : (n t : ℕ) → n < t → ltb n t ≡ true
    yes n t l = grind (arith, nat_tests)

-- Numbers, each times one.
abbrev scaled : ℤ → (ℕ → ℤ) → ℕ → ℤ
scaled k x i = k *ℤ x i

together : (m n : ℕ) (x : ℕ → ℤ) → scaled (pos m) (scaled (pos n) x) ≡ scaled (pos (m * n)) x
together m n x = fun_ext (λ i. sym (times_assoc (pos m) (pos n) (x i)))

module _ (net : Network) (xs : List Companion) (changes : List Change) where
  resolved : (t q : ℕ) (b b' p p' c c' k k' l l' : ℕ → ℤ) → b ≡ b' → p ≡ p' → c ≡ c' → k ≡ k' → l ≡ l'
      → IsStepSolution net xs changes t q b p c k l → IsStepSolution net xs changes t q b' p' c' k' l'
  resolved t q b b' p p' c c' k k' l l' e f g h i sol =
      subst (λ (x : ℕ → ℤ). IsStepSolution net xs changes t q b' p' c' k' x) i
      (subst (λ (x : ℕ → ℤ). IsStepSolution net xs changes t q b' p' c' x l) h
      (subst (λ (x : ℕ → ℤ). IsStepSolution net xs changes t q b' p' x k l) g
      (subst (λ (x : ℕ → ℤ). IsStepSolution net xs changes t q b' x c k l) f
      (subst (λ (x : ℕ → ℤ). IsStepSolution net xs changes t q x p c k l) e sol))))

  started : (q : ℕ) (p p' c c' l l' : ℕ → ℤ) → p ≡ p' → c ≡ c' → l ≡ l' → IsSolution net q p c l → IsSolution net q p' c' l'
  started q p p' c c' l l' f g i sol =
      subst (λ (x : ℕ → ℤ). IsSolution net q p' c' x) i
      (subst (λ (x : ℕ → ℤ). IsSolution net q p' x l) g
      (subst (λ (x : ℕ → ℤ). IsSolution net q x c l) f sol))

  module _ (wf : IsNetwork net) (supplied : EachIsSupplied net) (fit : AreCompanions net xs) (solvable : Solvable) (with_branches : SolvableWithBranches)
      (scales : Scales) (d : ℕ) (drawn : ℕ → ℕ → ℤ) where
    -- One step more.
    one_more : (last : ℕ) → AreDrawnOver net changes (suc last) d drawn → HasSteppedSolution net xs changes last d drawn → HasSteppedSolution net xs changes (suc last) d drawn
    one_more last given had = record {
      factor = n * had.factor;
      potential = potential;
      current = current;
      charge = charge;
      is_solution = subst (λ (x : ℕ). IsSteppedSolution net xs changes (suc last) x potential current charge all_drawn) (sym (mul_assoc n had.factor d)) over_all;
    }
      where
        q : ℕ
        q = had.factor * d

        next : HasBranchedSolution net (branches xs) q (had.potential last) (λ i. pos had.factor *ℤ drawn (suc last) i)
        next = with_branches net (branches xs) q (had.potential last) (λ i. pos had.factor *ℤ drawn (suc last) i) wf supplied (resist net xs fit)

        n : ℕ
        n = next.factor

        old : (ℕ → ℕ → ℤ) → ℕ → ℕ → ℤ
        old f t i = pos n *ℤ f t i

        potential : ℕ → ℕ → ℤ
        potential = up_to last (old had.potential) next.potential

        current : ℕ → ℕ → ℤ
        current = up_to last (old had.current) next.current

        charge : ℕ → ℕ → ℤ
        charge = up_to last (old had.charge) next.branch_current

        all_drawn : ℕ → ℕ → ℤ
        all_drawn t i = pos (n * had.factor) *ℤ drawn t i

        new_step : IsStepSolution net xs changes (suc last) (n * q) (old had.potential last) next.potential next.current next.branch_current (λ i. pos n *ℤ (pos had.factor *ℤ drawn (suc last) i))
        new_step = step_of net xs changes (suc last) (n * q) (old had.potential last) next.potential next.current next.branch_current (λ i. pos n *ℤ (pos had.factor *ℤ drawn (suc last) i))
            next.balances (λ i m. (let r = load_at net changes (suc last) i in
            scaled_range n q r.low r.high (pos had.factor *ℤ drawn (suc last) i) (scaled_range had.factor d r.low r.high (drawn (suc last) i) (given.later last i (omega arith) m))))

        later : (t : ℕ) → t < suc last → IsStepSolution net xs changes (suc t) (n * q) (potential t) (potential (suc t)) (current (suc t)) (charge (suc t)) (all_drawn (suc t))
        later t l = elim (cases_eq t last) [
          | inl e ↦ subst (λ (u : ℕ). IsStepSolution net xs changes (suc u) (n * q) (potential u) (potential (suc u)) (current (suc u)) (charge (suc u)) (all_drawn (suc u))) (sym e)
              (resolved (suc last) (n * q) (old had.potential last) (potential last) next.potential (potential (suc last)) next.current (current (suc last)) next.branch_current (charge (suc last))
              (λ i. pos n *ℤ (pos had.factor *ℤ drawn (suc last) i)) (all_drawn (suc last))
              (early last (old had.potential) next.potential last (omega arith)) (late last (old had.potential) next.potential (suc last) (omega arith))
              (late last (old had.current) next.current (suc last) (omega arith)) (late last (old had.charge) next.branch_current (suc last) (omega arith))
              (together n had.factor (drawn (suc last))) new_step)
          | inr ne ↦ resolved (suc t) (n * q) (old had.potential t) (potential t) (old had.potential (suc t)) (potential (suc t)) (old had.current (suc t)) (current (suc t)) (old had.charge (suc t)) (charge (suc t))
              (λ i. pos n *ℤ (pos had.factor *ℤ drawn (suc t) i)) (all_drawn (suc t))
              (early last (old had.potential) next.potential t (omega arith)) (early last (old had.potential) next.potential (suc t) (omega arith))
              (early last (old had.current) next.current (suc t) (omega arith)) (early last (old had.charge) next.branch_current (suc t) (omega arith))
              (together n had.factor (drawn (suc t)))
              (step_scaled scales n next.positive net xs changes (suc t) q (had.potential t) (had.potential (suc t)) (had.current (suc t)) (had.charge (suc t)) (λ i. pos had.factor *ℤ drawn (suc t) i) (had.is_solution.later t (omega arith)))
        ]

        over_all : IsSteppedSolution net xs changes (suc last) (n * q) potential current charge all_drawn
        over_all = record {
          start = started (n * q) (old had.potential 0) (potential 0) (old had.current 0) (current 0) (λ i. pos n *ℤ (pos had.factor *ℤ drawn 0 i)) (all_drawn 0)
              (early last (old had.potential) next.potential 0 (omega arith)) (early last (old had.current) next.current 0 (omega arith)) (together n had.factor (drawn 0))
              (start_scaled scales n next.positive net q (had.potential 0) (had.current 0) (λ i. pos had.factor *ℤ drawn 0 i) had.is_solution.start);
          later = later;
        }

    pub stepped : (last : ℕ) → AreDrawnOver net changes last d drawn → HasSteppedSolution net xs changes last d drawn
    stepped zero given =
        let s = solvable net d (drawn 0) wf supplied given.start in
        record {
          factor = s.factor;
          potential = λ t. s.potential;
          current = λ t. s.current;
          charge = λ t i. pos 0;
          is_solution = record { start = s.is_solution; later = λ t l. absurd (omega arith) };
        }
    stepped (suc last) given =
        one_more last given (stepped last (record { start = given.start; later = λ t i l m. given.later t i (omega arith) m }))
