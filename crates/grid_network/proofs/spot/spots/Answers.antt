use Rattle.std.proofs.lemmas.List.Sorted.{Contains-permutation, IsPermutation-sym}
use Rattle.grid_network.proofs.spot.spots.Goals as goal

pub returns-clause-all : goal.returns-clause-all
returns-clause-all c x =
    let moved = c.sort_unstable.ensures.permutation in
    (λ h. (c.in_ok-spots.ensures x).0 (Contains-permutation _ _ x (IsPermutation-sym _ _ moved) h), λ h. Contains-permutation _ _ x moved ((c.in_ok-spots.ensures x).1 h))
