use Rattle.std.proofs.Common.{◌≡◌, map, take, length, All, Some, slice_get, get_or}
use Rattle.node_names.specs.inside.Entries.{entries_of}
use Rattle.node_names.proofs.names.places_of.Given as goal

abbrev pub invariant-loop-place : goal.invariant-loop-place
invariant-loop-place l =
    (length l.places.items ≡ length l.sorted)
    × All (λ number. slice_get (map (λ e. e.0) (entries_of l.sorted)) (get_or l.places.items number 0) ≡ Some number) (take l.place (map (λ e. e.0) (entries_of l.sorted)))
