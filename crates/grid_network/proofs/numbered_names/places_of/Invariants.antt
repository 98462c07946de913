use Rattle.std.proofs.Common.{◌≡◌, map, take, length, All, Some, slice_get, get_or}
use Rattle.grid_network.proofs.numbered_names.places_of.Given as goal

abbrev pub invariant-loop-place : goal.invariant-loop-place
invariant-loop-place l =
    (length l.places.items ≡ length l.named)
    × All (λ number. slice_get (map (λ n. n.number) l.named) (get_or l.places.items number 0) ≡ Some number) (take l.place (map (λ n. n.number) l.named))
