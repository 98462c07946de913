-- Only one solution over the steps, one step after the other.
use Rattle.std.proofs.Common.{◌≡◌, ℕ, zero, suc, ◌<◌, ◌≤◌, ℤ, pos, ◌*ℤ◌, arith, List, length}
use Rattle.std.proofs.lemmas.List.{length-map}
use Rattle.std.proofs.lemmas.List.Elements.{All-map}
use Rattle.grid_net.specs.Network.{Network, IsNetwork}
use Rattle.grid_net.specs.Solution.{IsSolution}
use Rattle.wave_file.specs.declared.record.Change.{Change}
use Rattle.step_bounds.specs.declared.companion.Companion.{Companion}
use Rattle.step_bounds.specs.SteppedSolution.{IsSteppedSolution}
use Rattle.step_bounds.specs.inside.Extension.{AreCompanions}
use Rattle.solution_exists.specs.Existence.{EachIsSupplied, DrawAlike, AreSame}
use Rattle.solution_exists.specs.Branches.{Branch, AreBranches, Balances, HoldAlike}
use Rattle.stepped_solution_exists.specs.Existence.{DrawAlikeOver}
use Rattle.stepped_solution_exists.proofs.Steps.{branch_of, branches, resist, balances_of}

-- What is told of one network: that two solutions are the same in some respect.
abbrev pub Alone : (Network → ℕ → (ℕ → ℤ) → (ℕ → ℤ) → ℕ → (ℕ → ℤ) → (ℕ → ℤ) → Type 0) → Type 0
Alone Same = (net : Network) (q r : ℕ) (p c l p' c' l' : ℕ → ℤ) → IsNetwork net → EachIsSupplied net
    → IsSolution net q p c l → IsSolution net r p' c' l' → DrawAlike net q l r l' → Same net q p c r p' c'

abbrev pub AloneWithBranches : (Network → List Branch → ℕ → (ℕ → ℤ) → (ℕ → ℤ) → (ℕ → ℤ) → ℕ → (ℕ → ℤ) → (ℕ → ℤ) → (ℕ → ℤ) → Type 0) → Type 0
AloneWithBranches Same = (net : Network) (branches : List Branch) (q r : ℕ) (h l p c k h' l' p' c' k' : ℕ → ℤ)
    → IsNetwork net → EachIsSupplied net → AreBranches net.nodes branches → Balances net branches (pos q) h l p c k
    → Balances net branches (pos r) h' l' p' c' k' → HoldAlike branches q h r h' → DrawAlike net q l r l'
    → Same net branches q p c k r p' c' k'

module _ (net : Network) (xs : List Companion) (changes : List Change) (last q r : ℕ) (p c k l p' c' k' l' : ℕ → ℕ → ℤ) (wf : IsNetwork net)
    (supplied : EachIsSupplied net) (fit : AreCompanions net xs) (one : IsSteppedSolution net xs changes last q p c k l)
    (other : IsSteppedSolution net xs changes last r p' c' k' l') (alike : DrawAlikeOver net last q l r l')
    (plain : Alone (λ net q p c r p' c'. AreSame net.nodes q p r p'))
    (with_branches : AloneWithBranches (λ net branches q p c k r p' c' k'. AreSame net.nodes q p r p')) where
  held_alike : (t : ℕ) → AreSame net.nodes q (p t) r (p' t) → HoldAlike (branches xs) q (p t) r (p' t)
  held_alike t same = All-map (λ (x : Branch). pos r *ℤ p t x.node ≡ pos q *ℤ p' t x.node) branch_of xs (λ j d m. same _ (fit j d m).0)

  -- A step after step 0, as a network with branches.
  module _ (t : ℕ) (m : t < last) where
    pub balance : Balances net (branches xs) (pos q) (p t) (l (suc t)) (p (suc t)) (c (suc t)) (k (suc t))
    balance = balances_of net xs changes (suc t) q (p t) (p (suc t)) (c (suc t)) (k (suc t)) (l (suc t)) (one.later t m)

    pub balance' : Balances net (branches xs) (pos r) (p' t) (l' (suc t)) (p' (suc t)) (c' (suc t)) (k' (suc t))
    balance' = balances_of net xs changes (suc t) r (p' t) (p' (suc t)) (c' (suc t)) (k' (suc t)) (l' (suc t)) (other.later t m)

  pub same_voltages : (t : ℕ) → t ≤ last → AreSame net.nodes q (p t) r (p' t)
  same_voltages zero m = plain net q r (p 0) (c 0) (l 0) (p' 0) (c' 0) (l' 0) wf supplied one.start other.start (alike 0 m)
  same_voltages (suc t) m =
      with_branches net (branches xs) q r (p t) (l (suc t)) (p (suc t)) (c (suc t)) (k (suc t)) (p' t) (l' (suc t)) (p' (suc t)) (c' (suc t)) (k' (suc t))
      wf supplied (resist net xs fit) (balance t m) (balance' t m) (held_alike t (same_voltages t (omega arith))) (alike (suc t) m)

  pub same_currents : Alone (λ net q p c r p' c'. AreSame (length net.resistors) q c r c')
      → AloneWithBranches (λ net branches q p c k r p' c' k'. AreSame (length net.resistors) q c r c')
      → (t : ℕ) → t ≤ last → AreSame (length net.resistors) q (c t) r (c' t)
  same_currents first rest zero m = first net q r (p 0) (c 0) (l 0) (p' 0) (c' 0) (l' 0) wf supplied one.start other.start (alike 0 m)
  same_currents first rest (suc t) m =
      rest net (branches xs) q r (p t) (l (suc t)) (p (suc t)) (c (suc t)) (k (suc t)) (p' t) (l' (suc t)) (p' (suc t)) (c' (suc t)) (k' (suc t))
      wf supplied (resist net xs fit) (balance t m) (balance' t m) (held_alike t (same_voltages t (omega arith))) (alike (suc t) m)

  pub same_charges : AloneWithBranches (λ net branches q p c k r p' c' k'. AreSame (length branches) q k r k')
      → (t : ℕ) → 0 < t → t ≤ last → AreSame (length xs) q (k t) r (k' t)
  same_charges rest zero above m j b = absurd (omega arith)
  same_charges rest (suc t) above m j b =
      rest net (branches xs) q r (p t) (l (suc t)) (p (suc t)) (c (suc t)) (k (suc t)) (p' t) (l' (suc t)) (p' (suc t)) (c' (suc t)) (k' (suc t))
      wf supplied (resist net xs fit) (balance t m) (balance' t m) (held_alike t (same_voltages t (omega arith))) (alike (suc t) m)
      j (omega (arith, b, length-map xs branch_of))
