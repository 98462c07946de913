-- The ranges of the loads of a network.
use Rattle.std.proofs.Common.{ℕ, zero, suc, pos, ◌≤ℤ◌, arith, List, [], ◌∷◌, All, get_or}
use Rattle.std.proofs.lemmas.Int.{ints}
use Rattle.std.proofs.lemmas.List.Elements.{All-head, All-tail}
use Rattle.grid_net.specs.declared.part.LoadRange.{LoadRange}
use Rattle.grid_net.specs.Network.{Network, IsNetwork, low_load, high_load}

abbrev IsRange : LoadRange → Type 0
IsRange l = l.low ≤ℤ l.high

each_in_order : (xs : List LoadRange) → All IsRange xs → (i : ℕ) →
    IsRange (get_or xs i (record { low = pos 0; high = pos 0 }))
each_in_order [] all i = omega (arith, ints)
each_in_order (x ∷ xs) all zero = All-head IsRange x xs all
each_in_order (x ∷ xs) all (suc i) = each_in_order xs (All-tail IsRange x xs all) i

-- No node's low end is above its high end.
pub load_in_order : (net : Network) → IsNetwork net → (i : ℕ) → low_load net i ≤ℤ high_load net i
load_in_order net wf i = each_in_order net.loads wf.each_load i
