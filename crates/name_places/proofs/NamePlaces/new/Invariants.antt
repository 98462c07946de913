use Rattle.std.proofs.Common.{◌≡◌, ℕ, List, map, take}
use Rattle.name_places.specs.Places.{place_of}
use Rattle.name_places.specs.inside.Table.{place_in}
use Rattle.name_places.proofs.NamePlaces.new.Given as goal

abbrev pub invariant-loop-place : goal.invariant-loop-place
invariant-loop-place l = (name : List ℕ) → place_in l.places name ≡ place_of (map (λ n. n.now) (take l.place l.name-items)) name
