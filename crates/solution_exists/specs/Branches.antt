-- A network some of whose nodes are joined by resistances to held voltages, as a capacitor joins its node to the voltage that
-- the node had before a time step.
use Rattle.std.specs.Prelude.{◌≡◌, ℕ, suc, ◌<◌, ◌≤◌, ◌*◌, ◌==◌, if◌then◌else◌, ℤ, pos, ◌+ℤ◌, ◌-ℤ◌, ◌*ℤ◌, ◌≤ℤ◌, List, [], ◌∷◌, length, All, Some, None, slice_index_or}
use Rattle.grid_net.specs.declared.part.Resistor.{Resistor}
use Rattle.grid_net.specs.Network.{Network, pad_at, net_current}

-- A branch leads from a node over a resistance to the voltage that is held for the node.
pub record Branch : Type 0 where
  pub node : ℕ
  pub ohms : ℤ

-- Each stands at one of so many nodes, with a resistance of at least 1.
abbrev pub AreBranches : ℕ → List Branch → Type 0
AreBranches nodes branches = All (λ x. (x.node < nodes) × (pos 1 ≤ℤ x.ohms)) branches

-- The sum of the currents that leave a node over branches, where k tells the current into each of them by its place.
abbrev pub over_branches : List Branch → (ℕ → ℤ) → ℕ → ℤ
over_branches [] k node = pos 0
over_branches (x ∷ xs) k node = (if x.node == node then k 0 else pos 0) +ℤ over_branches xs (λ j. k (suc j)) node

-- The equations of the network with branches, in whole numbers over a common denominator q: held / q is the voltage that is
-- held for each node, drawn / q what is drawn out of it, p / q its potential, c / q the current through each resistor and k / q
-- that into each branch.
pub record Balances (net : Network) (branches : List Branch) (q : ℤ) (held drawn p c k : ℕ → ℤ) : Type 0 where
  -- Ohm's law, at resistors and at branches.
  pub ohm : (j : ℕ) (d : Resistor) → j < length net.resistors
      → let r = slice_index_or net.resistors j d in p r.a -ℤ p r.b ≡ r.ohms *ℤ c j
  pub branch : (j : ℕ) (d : Branch) → j < length branches
      → let x = slice_index_or branches j d in p x.node -ℤ held x.node ≡ x.ohms *ℤ k j
  -- Kirchhoff's current law, at each node that is no pad: what leaves over the resistors less what arrives, what leaves over
  -- the branches, and what is drawn, add up to 0.
  pub kirchhoff : (i : ℕ) → i < net.nodes → pad_at net i ≡ None
      → ((net_current net.resistors c i +ℤ over_branches branches k i) +ℤ drawn i) ≡ pos 0
  -- A pad's node has the pad's voltage.
  pub pads : (i : ℕ) (v : ℤ) → i < net.nodes → pad_at net i ≡ Some v → p i ≡ q *ℤ v

-- The equations are met with these very voltages held and these currents drawn, all over d: the common denominator of what
-- meets them is a multiple of d.
pub record HasBranchedSolution (net : Network) (branches : List Branch) (d : ℕ) (held drawn : ℕ → ℤ) : Type 0 where
  pub factor : ℕ
  pub positive : 1 ≤ factor
  pub potential : ℕ → ℤ
  pub current : ℕ → ℤ
  pub branch_current : ℕ → ℤ
  pub balances : Balances net branches (pos (factor * d)) (λ i. pos factor *ℤ held i) (λ i. pos factor *ℤ drawn i)
      potential current branch_current

-- The same voltage is held at each branch, h / q and g / r.
abbrev pub HoldAlike : List Branch → ℕ → (ℕ → ℤ) → ℕ → (ℕ → ℤ) → Type 0
HoldAlike branches q h r g = All (λ (x : Branch). pos r *ℤ h x.node ≡ pos q *ℤ g x.node) branches
