-- Two of what meets the equations are the same: their difference meets those where nothing is drawn and all that is held is at 0.
use Rattle.std.proofs.Common.{◌≡◌, ℕ, ◌<◌, ℤ, pos, neg_ℤ, ◌+ℤ◌, ◌*ℤ◌, arith, List, length, All, get_or, None}
use Rattle.std.proofs.lemmas.Int.{ints}
use Rattle.grid_net.specs.Network.{Network, IsNetwork, pad_at}
use Rattle.solution_exists.specs.Existence.{EachIsSupplied, AreSame, DrawAlike}
use Rattle.solution_exists.specs.Branches.{Branch, AreBranches, Balances, HoldAlike}
use Rattle.solution_exists.specs.Laws.{times_comm, neg_times}
use Rattle.solution_exists.proofs.Combined.{combined}
use Rattle.solution_exists.proofs.Nothing.{potential_nothing, current_nothing, branch_nothing}

module _ (net : Network) (branches : List Branch) (wf : IsNetwork net) (supplied : EachIsSupplied net)
    (fit : AreBranches net.nodes branches) (q r : ℕ) (h l p c k h' l' p' c' k' : ℕ → ℤ)
    (one : Balances net branches (pos q) h l p c k) (other : Balances net branches (pos r) h' l' p' c' k')
    (held : HoldAlike branches q h r h') (drawn : DrawAlike net q l r l') where
  abbrev less : (ℕ → ℤ) → (ℕ → ℤ) → ℕ → ℤ
  less x y i = pos r *ℤ x i +ℤ neg_ℤ (pos q) *ℤ y i

  apart : (x y : ℤ) → pos r *ℤ x ≡ pos q *ℤ y → pos r *ℤ x +ℤ neg_ℤ (pos q) *ℤ y ≡ pos 0
  apart x y e = let n = neg_times (pos q) y in omega (arith, ints, e, n)

  alike : (x y : ℤ) → pos r *ℤ x +ℤ neg_ℤ (pos q) *ℤ y ≡ pos 0 → pos r *ℤ x ≡ pos q *ℤ y
  alike x y e = let n = neg_times (pos q) y in omega (arith, ints, e, n)

  abbrev both : ℤ
  both = pos r *ℤ pos q +ℤ neg_ℤ (pos q) *ℤ pos r

  difference : Balances net branches both (less h h') (less l l') (less p p') (less c c') (less k k')
  difference =
      combined net branches (pos r) (neg_ℤ (pos q)) (pos q) (pos r) h l p c k h' l' p' c' k' one other

  none : both ≡ pos 0
  none = apart (pos q) (pos r) (times_comm (pos r) (pos q))

  none_held : All (λ (x : Branch). less h h' x.node ≡ pos 0) branches
  none_held j d m = let x = get_or branches j d in apart (h x.node) (h' x.node) (held j d m)

  none_drawn : (i : ℕ) → i < net.nodes → pad_at net i ≡ None → less l l' i ≡ pos 0
  none_drawn i m free = apart (l i) (l' i) (drawn i m free)

  pub same_voltages : AreSame net.nodes q p r p'
  same_voltages i m =
      alike (p i) (p' i) (potential_nothing net branches wf fit supplied both (less h h') (less l l') (less p p') (less c c')
      (less k k') difference none none_held none_drawn i m)

  pub same_currents : AreSame (length net.resistors) q c r c'
  same_currents j m =
      alike (c j) (c' j) (current_nothing net branches wf fit supplied both (less h h') (less l l') (less p p') (less c c')
      (less k k') difference none none_held none_drawn j m)

  pub same_branches : AreSame (length branches) q k r k'
  same_branches j m =
      alike (k j) (k' j) (branch_nothing net branches wf fit supplied both (less h h') (less l l') (less p p') (less c c')
      (less k k') difference none none_held none_drawn j m)
