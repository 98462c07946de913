-- What a wave file keeps is what is asked of the changes of a network.
use Rattle.std.proofs.Common.{◌≡◌, ◌⊎◌, inl, inr, ℕ, ◌<◌, ◌≤◌, pos, ◌≤ℤ◌, List, AllPairs, length, get_or, ap, subst, arith}
use Rattle.std.proofs.lemmas.Bool.{cases_order}
use Rattle.std.proofs.lemmas.List.{get_or-map, length-map}
use Rattle.std.proofs.lemmas.List.Elements.{All-weaker}
use Rattle.grid_net.specs.Network.{Network}
use Rattle.step_bounds.specs.Changes.{AreChanges}
use Rattle.wave_file.specs.declared.record.Change.{Change}
use Rattle.wave_file.specs.declared.record.Waves.{Waves}
use Rattle.wave_file.specs.Keeps.{ChangeKeeps, WavesKeep}

abbrev step_of : Change → ℕ
step_of c = c.step

rising : (cs : List Change) → AllPairs (λ (a b : Change). a.step ≤ b.step) cs → (i j : ℕ) (d : Change) → (i ≡ j) ⊎ ((i < j) ⊎ (j < i)) → i ≤ j → j < length cs → step_of (get_or cs i d) ≤ step_of (get_or cs j d)
rising cs pairs i j d (inl same) le below = let e = ap (λ k. step_of (get_or cs k d)) same in omega (arith, e)
rising cs pairs i j d (inr (inl less)) le below = pairs i j d less below
rising cs pairs i j d (inr (inr more)) le below = absurd (omega (arith, le, more))

pub changes_kept : (net : Network) (groups : ℕ) (waves : Waves) → groups ≡ net.nodes → WavesKeep groups waves → AreChanges net waves.changes
changes_kept net groups waves same keeps = record {
  nodes = All-weaker (ChangeKeeps groups) (λ c. c.node < net.nodes) (λ c k. subst (λ n. c.node < n) same k.node) waves.changes keeps.changes;
  ranges = All-weaker (ChangeKeeps groups) (λ c. c.low ≤ℤ c.high) (λ c k. k.rises) waves.changes keeps.changes;
  in_order = λ i j d le below.
      (let none : Change = record { step = 0; node = 0; low = pos 0; high = pos 0 } in
      let short : j < length waves.changes = subst (λ n. j < n) (length-map waves.changes step_of) below in
      let at_i = get_or-map step_of waves.changes i none d (omega (arith, le, short)) in
      let at_j = get_or-map step_of waves.changes j none d short in
      let rose = rising waves.changes keeps.steps i j none (cases_order i j) le short in
      omega (arith, at_i, at_j, rose));
  once = λ i j d less below e f. keeps.apart i j d less below (e, f);
}
