-- Names with their numbers, inside this crate.
use Rattle.std.specs.Prelude.{◌≡◌, ℕ, List, map, All, Some, slice_get, slice_index}
use Rattle.std.specs.List.{enumerate_from}
use Rattle.std.specs.declared.cmp.Ordering.{Ordering}
use Rattle.std.specs.Ordering.{ordering_then, nat_cmp}
use Rattle.std.specs.Cmp.Lexicographic.{slice_cmp}
use Rattle.name_table.specs.declared.key.Key.{Key}
use Rattle.name_table.specs.declared.table.NumberedName.{NumberedName}

-- Each name of a list with its place.
abbrev pub numbered : List Key → List NumberedName
numbered names = map (λ p. record { name = p.1; number = p.0 }) (enumerate_from 0 names)

-- The order by the name, and then by the number.
abbrev pub numbered_cmp : NumberedName → NumberedName → Ordering
numbered_cmp x y = ordering_then (slice_cmp nat_cmp x.name.name.now y.name.name.now) (nat_cmp x.number y.number)

-- Each of the numbers stands at the place that is given for it.
abbrev pub IsPlaced : List ℕ → List ℕ → Type 0
IsPlaced numbers places = All (λ number. slice_get numbers (slice_index places number) ≡ Some number) numbers
