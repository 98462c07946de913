-- A network is one without branches.
use Rattle.std.proofs.Common.{◌≡◌, ℕ, ◌<◌, ℤ, pos, ◌*ℤ◌, ◌≤ℤ◌, arith, List, [], length}
use Rattle.std.proofs.lemmas.Int.{ints}
use Rattle.std.proofs.lemmas.List.Elements.{All-nil}
use Rattle.grid_net.specs.Network.{Network, IsNetwork, low_load, high_load}
use Rattle.grid_net.specs.Solution.{IsSolution}
use Rattle.grid_net.specs.Laws.Loads.{load_in_order}
use Rattle.solution_exists.specs.Existence.{EachIsSupplied, AreDrawn, HasSolution, AreSame, DrawAlike}
use Rattle.solution_exists.specs.Branches.{Branch, AreBranches, Balances, HasBranchedSolution, HoldAlike}
use Rattle.solution_exists.specs.Laws.{at_least, scaled_range}
use Rattle.solution_exists.proofs.System.{met}
use Rattle.solution_exists.proofs.Unique.{same_voltages, same_currents}

abbrev pub nothing : ℕ → ℤ
nothing i = pos 0

no_branches : (n : ℕ) → AreBranches n []
no_branches n = All-nil (λ (x : Branch). (x.node < n) × (pos 1 ≤ℤ x.ohms))

pub branched : (net : Network) (branches : List Branch) (d : ℕ) (held drawn : ℕ → ℤ) → IsNetwork net → EachIsSupplied net
    → AreBranches net.nodes branches → HasBranchedSolution net branches d held drawn
branched net branches d held drawn wf supplied fit =
    let m = met net branches (pos d) held drawn wf fit supplied in
    record {
      factor = m.n;
      positive = m.positive;
      potential = m.p;
      current = m.c;
      branch_current = m.k;
      balances = m.balances;
    }

pub plain : (net : Network) (d : ℕ) (drawn : ℕ → ℤ) → IsNetwork net → EachIsSupplied net → AreDrawn net d drawn
    → HasSolution net d drawn
plain net d drawn wf supplied given =
    let b = branched net [] d nothing drawn wf supplied (no_branches net.nodes) in
    record {
      factor = b.factor;
      potential = b.potential;
      current = b.current;
      is_solution = record {
        denominator = at_least b.factor d b.positive given.denominator;
        ohm = b.balances.ohm;
        drawn = λ i m. scaled_range b.factor d (low_load net i) (high_load net i) (drawn i) (given.within i m);
        kirchhoff = λ i m free. (let e = b.balances.kirchhoff i m free in omega (arith, ints, e));
        pads = b.balances.pads;
      };
    }

pub lows_are_drawn : (net : Network) → IsNetwork net → AreDrawn net 1 (low_load net)
lows_are_drawn net wf = record {
  denominator = omega arith;
  within = λ i m. (let l = load_in_order net wf i in (omega (arith, ints), omega (arith, ints, l)));
}

pub balances_of : (net : Network) (q : ℕ) (p c l : ℕ → ℤ) → IsSolution net q p c l → Balances net [] (pos q) nothing l p c nothing
balances_of net q p c l sol = record {
  ohm = sol.ohm;
  branch = λ j d m. absurd (omega arith);
  kirchhoff = λ i m free. (let e = sol.kirchhoff i m free in omega (arith, ints, e));
  pads = sol.pads;
}

module _ (net : Network) (q r : ℕ) (p c l p' c' l' : ℕ → ℤ) (wf : IsNetwork net) (supplied : EachIsSupplied net)
    (one : IsSolution net q p c l) (other : IsSolution net r p' c' l') (drawn : DrawAlike net q l r l') where
  none_held : HoldAlike [] q nothing r nothing
  none_held = All-nil (λ (x : Branch). pos r *ℤ nothing x.node ≡ pos q *ℤ nothing x.node)

  pub plain_voltages : AreSame net.nodes q p r p'
  plain_voltages =
      same_voltages net [] wf supplied (no_branches net.nodes) q r nothing l p c nothing nothing l' p' c' nothing
      (balances_of net q p c l one) (balances_of net r p' c' l' other) none_held drawn

  pub plain_currents : AreSame (length net.resistors) q c r c'
  plain_currents =
      same_currents net [] wf supplied (no_branches net.nodes) q r nothing l p c nothing nothing l' p' c' nothing
      (balances_of net q p c l one) (balances_of net r p' c' l' other) none_held drawn
