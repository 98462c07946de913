-- The low ends of all loads can be drawn, at each step.
use Rattle.std.proofs.Common.{ℕ, suc, ◌≤ℤ◌, arith, List, [], ◌∷◌, All, Bool, true, false, cond, eqb, nat_le}
use Rattle.std.proofs.lemmas.Int.{ints}
use Rattle.std.proofs.lemmas.List.Elements.{All-head, All-tail, All-filter}
use Rattle.grid_net.specs.declared.part.LoadRange.{LoadRange}
use Rattle.grid_net.specs.Network.{Network, IsNetwork, load_range}
use Rattle.grid_net.specs.Laws.Loads.{load_in_order}
use Rattle.wave_file.specs.declared.record.Change.{Change}
use Rattle.step_bounds.specs.Changes.{range_after, changes_until, AreChanges}
use Rattle.stepped_solution_exists.specs.Existence.{AreDrawnOver, low_ends_over}

abbrev IsRange : LoadRange → Type 0
IsRange range = range.low ≤ℤ range.high

-- Changes give ranges.
range_stays : (cs : List Change) (node : ℕ) (range : LoadRange) → All (λ c. c.low ≤ℤ c.high) cs → IsRange range → IsRange (range_after cs node range)
range_stays [] node range all h = h
range_stays (c ∷ cs) node range all h =
    range_stays cs node (cond (eqb c.node node) (record { low = c.low; high = c.high }) range) (All-tail (λ c. c.low ≤ℤ c.high) c cs all) (by_test (eqb c.node node))
  where
    by_test : (b : Bool) → IsRange (cond b (record { low = c.low; high = c.high }) range)
    by_test true = All-head (λ c. c.low ≤ℤ c.high) c cs all
    by_test false = h

pub low_ends : (net : Network) (changes : List Change) (last : ℕ) → IsNetwork net → AreChanges net changes → AreDrawnOver net changes last 1 (low_ends_over net changes)
low_ends net changes last wf are = record {
  start = record { denominator = omega arith; within = λ i m. (let l = load_in_order net wf i in (omega (arith, ints), omega (arith, ints, l))) };
  later = λ t i l m.
      (let h = range_stays (changes_until changes (suc t)) i (load_range net i) (All-filter (λ (c : Change). nat_le c.step (suc t)) (λ c. c.low ≤ℤ c.high) changes are.ranges) (load_in_order net wf i) in
      (omega (arith, ints), omega (arith, ints, h)));
}
