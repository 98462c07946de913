-- What Ohm's law, Kirchhoff's current law and the backward Euler rule say of a network over time steps.
use Rattle.std.specs.Prelude.{◌≡◌, ℕ, suc, ◌<◌, ◌≤◌, ◌==◌, if◌then◌else◌, ℤ, pos, ◌+ℤ◌, ◌-ℤ◌, ◌*ℤ◌, ◌≤ℤ◌, List, [], ◌∷◌, length, Some, None, slice_index_or}
use Rattle.grid_net.specs.declared.part.Resistor.{Resistor}
use Rattle.grid_net.specs.Network.{Network, pad_at, net_current, entry_of}
use Rattle.grid_net.specs.Solution.{IsSolution}
use Rattle.step_bounds.specs.declared.companion.Companion.{Companion}
use Rattle.wave_file.specs.declared.record.Change.{Change}
use Rattle.step_bounds.specs.Changes.{load_at}
use Rattle.step_bounds.specs.StepCertificate.{list_at}

-- The sum of the currents into the capacitors at a node, where k tells the current into each of them by its place.
abbrev pub charging : List Companion → (ℕ → ℤ) → ℕ → ℤ
charging [] k node = pos 0
charging (x ∷ xs) k node = (if x.node == node then k 0 else pos 0) +ℤ charging xs (λ j. k (suc j)) node

-- A solution of step t over a common denominator q, where the step before had the potentials `before`: p / q is the potential of
-- each node, c / q the current through each resistor, k / q the current into each capacitor that counts, and l / q the current that
-- is drawn at each node.
pub record IsStepSolution (net : Network) (companions : List Companion) (changes : List Change) (t q : ℕ)
    (before p c k l : ℕ → ℤ) : Type 0 where
  -- Ohm's law.
  pub ohm : (j : ℕ) (d : Resistor) → j < length net.resistors
      → let r = slice_index_or net.resistors j d in p r.a -ℤ p r.b ≡ r.ohms *ℤ c j
  -- The backward Euler rule: the voltage of a capacitor changes over the step by its resistance times its current.
  pub euler : (j : ℕ) (d : Companion) → j < length companions
      → let x = slice_index_or companions j d in p x.node -ℤ before x.node ≡ x.ohms *ℤ k j
  -- The current that is drawn at each node lies within the range of its load at the step.
  pub drawn : (i : ℕ) → i < net.nodes
      → ((pos q *ℤ (load_at net changes t i).low) ≤ℤ l i) × (l i ≤ℤ (pos q *ℤ (load_at net changes t i).high))
  -- Kirchhoff's current law, at each node that is no pad: what leaves over the resistors less what arrives, what goes into the
  -- capacitors, and what is drawn, add up to 0.
  pub kirchhoff : (i : ℕ) → i < net.nodes → pad_at net i ≡ None
      → ((net_current net.resistors c i +ℤ charging companions k i) +ℤ l i) ≡ pos 0
  -- A pad's node has the pad's voltage.
  pub pads : (i : ℕ) (v : ℤ) → i < net.nodes → pad_at net i ≡ Some v → p i ≡ pos q *ℤ v

-- A solution of all steps up to a last one, in whole numbers over one denominator: one of the network at step 0, and at each later
-- step one over the potentials of the step before.
pub record IsSteppedSolution (net : Network) (companions : List Companion) (changes : List Change) (last q : ℕ)
    (p c k l : ℕ → ℕ → ℤ) : Type 0 where
  pub start : IsSolution net q (p 0) (c 0) (l 0)
  pub later : (t : ℕ) → t < last
      → IsStepSolution net companions changes (suc t) q (p t) (p (suc t)) (c (suc t)) (k (suc t)) (l (suc t))

-- Every stepped solution lies between two lists of each step, at each step and node.
abbrev pub SteppedSolutionsLieBetween : Network → List Companion → List Change → ℕ → List (List ℤ) → List (List ℤ) → Type 0
SteppedSolutionsLieBetween net companions changes last high low =
    (q : ℕ) (p c k l : ℕ → ℕ → ℤ) → IsSteppedSolution net companions changes last q p c k l → (t i : ℕ) → t ≤ last
    → i < net.nodes
    → ((pos q *ℤ entry_of (list_at low t) i) ≤ℤ p t i) × (p t i ≤ℤ (pos q *ℤ entry_of (list_at high t) i))
