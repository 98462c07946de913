-- A step as a network with branches: each capacitor that counts holds the voltage that its node had before.
use Rattle.std.proofs.Common.{◌≡◌, ℕ, suc, ◌<◌, ◌≤◌, ◌*◌, ℤ, pos, ◌-ℤ◌, ◌*ℤ◌, ◌≤ℤ◌, arith, refl, sym, subst, List, [], ◌∷◌, length, map}
use Rattle.std.proofs.lemmas.Int.{ints}
use Rattle.std.proofs.lemmas.List.{get_or-map, length-map}
use Rattle.std.proofs.lemmas.List.Elements.{All-map}
use Rattle.grid_net.specs.Network.{Network, low_load, high_load}
use Rattle.grid_net.specs.Solution.{IsSolution}
use Rattle.wave_file.specs.declared.record.Change.{Change}
use Rattle.step_bounds.specs.declared.companion.Companion.{Companion}
use Rattle.step_bounds.specs.Changes.{load_at}
use Rattle.step_bounds.specs.SteppedSolution.{charging, IsStepSolution}
use Rattle.step_bounds.specs.inside.Extension.{AreCompanions}
use Rattle.solution_exists.specs.Branches.{Branch, AreBranches, Balances, over_branches}
use Rattle.solution_exists.specs.Laws.{scaled_range, at_least}

abbrev pub branch_of : Companion → Branch
branch_of x = record { node = x.node; ohms = x.ohms }

abbrev pub branches : List Companion → List Branch
branches xs = map branch_of xs

pub resist : (net : Network) (xs : List Companion) → AreCompanions net xs → AreBranches net.nodes (branches xs)
resist net xs fit = All-map (λ (x : Branch). (x.node < net.nodes) × (pos 1 ≤ℤ x.ohms)) branch_of xs fit

any : Companion
any = record { node = 0; ohms = pos 1 }

charging_is : (xs : List Companion) (k : ℕ → ℤ) (i : ℕ) → over_branches (branches xs) k i ≡ charging xs k i
charging_is [] k i = refl
charging_is (x ∷ xs) k i = let e = charging_is xs (λ j. k (suc j)) i in omega (arith, ints, e)

-- The range of what is drawn at a step.
abbrev pub DrawnAt : Network → List Change → ℕ → ℕ → (ℕ → ℤ) → Type 0
DrawnAt net changes t q l = (i : ℕ) → i < net.nodes
    → ((pos q *ℤ (load_at net changes t i).low) ≤ℤ l i) × (l i ≤ℤ (pos q *ℤ (load_at net changes t i).high))

module _ (net : Network) (xs : List Companion) (changes : List Change) where
  pub balances_of : (t q : ℕ) (before p c k l : ℕ → ℤ) → IsStepSolution net xs changes t q before p c k l
      → Balances net (branches xs) (pos q) before l p c k
  balances_of t q before p c k l sol = record {
    ohm = sol.ohm;
    branch = λ j d m.
        (let m' : j < length xs = omega (arith, m, length-map xs branch_of) in
        subst (λ (x : Branch). p x.node -ℤ before x.node ≡ x.ohms *ℤ k j) (sym (get_or-map branch_of xs j any d m')) (sol.euler j any m'));
    kirchhoff = λ i m free. omega (arith, ints, sol.kirchhoff i m free, charging_is xs k i);
    pads = sol.pads;
  }

  pub step_of : (t q : ℕ) (before p c k l : ℕ → ℤ) → Balances net (branches xs) (pos q) before l p c k → DrawnAt net changes t q l
      → IsStepSolution net xs changes t q before p c k l
  step_of t q before p c k l b given = record {
    ohm = b.ohm;
    euler = λ j d m.
        (let m' : j < length (branches xs) = omega (arith, m, length-map xs branch_of) in
        subst (λ (x : Branch). p x.node -ℤ before x.node ≡ x.ohms *ℤ k j) (get_or-map branch_of xs j d (branch_of d) m) (b.branch j (branch_of d) m'));
    drawn = given;
    kirchhoff = λ i m free. omega (arith, ints, b.kirchhoff i m free, charging_is xs k i);
    pads = b.pads;
  }

-- ---- a solution of step 0
abbrev none : ℕ → ℤ
none j = pos 0

pub balances_of_start : (net : Network) (q : ℕ) (p c l : ℕ → ℤ) → IsSolution net q p c l → Balances net [] (pos q) none l p c none
balances_of_start net q p c l sol = record {
  ohm = sol.ohm;
  branch = λ j d m. absurd (omega arith);
  kirchhoff = λ i m free. omega (arith, ints, sol.kirchhoff i m free);
  pads = sol.pads;
}

-- What is told of scaled equations.
abbrev pub Scales : Type 0
Scales = (net : Network) (branches : List Branch) (n s : ℤ) (h l p c k : ℕ → ℤ) → Balances net branches s h l p c k
    → Balances net branches (n *ℤ s) (λ i. n *ℤ h i) (λ i. n *ℤ l i) (λ i. n *ℤ p i) (λ j. n *ℤ c j) (λ j. n *ℤ k j)

module _ (scales : Scales) (n : ℕ) (positive : 1 ≤ n) (net : Network) where
  pub start_scaled : (q : ℕ) (p c l : ℕ → ℤ) → IsSolution net q p c l
      → IsSolution net (n * q) (λ i. pos n *ℤ p i) (λ j. pos n *ℤ c j) (λ i. pos n *ℤ l i)
  start_scaled q p c l sol =
      let b = scales net [] (pos n) (pos q) none l p c none (balances_of_start net q p c l sol) in
      record {
        denominator = at_least n q positive sol.denominator;
        ohm = b.ohm;
        drawn = λ i m. scaled_range n q (low_load net i) (high_load net i) (l i) (sol.drawn i m);
        kirchhoff = λ i m free. omega (arith, ints, b.kirchhoff i m free);
        pads = b.pads;
      }

  pub step_scaled : (xs : List Companion) (changes : List Change) (t q : ℕ) (before p c k l : ℕ → ℤ) → IsStepSolution net xs changes t q before p c k l
      → IsStepSolution net xs changes t (n * q) (λ i. pos n *ℤ before i) (λ i. pos n *ℤ p i) (λ j. pos n *ℤ c j) (λ j. pos n *ℤ k j) (λ i. pos n *ℤ l i)
  step_scaled xs changes t q before p c k l sol =
      step_of net xs changes t (n * q) (λ i. pos n *ℤ before i) (λ i. pos n *ℤ p i) (λ j. pos n *ℤ c j) (λ j. pos n *ℤ k j) (λ i. pos n *ℤ l i)
      (scales net (branches xs) (pos n) (pos q) before l p c k (balances_of net xs changes t q before p c k l sol))
      (λ i m. scaled_range n q (load_at net changes t i).low (load_at net changes t i).high (l i) (sol.drawn i m))
