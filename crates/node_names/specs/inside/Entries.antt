-- Keys with their numbers, inside this crate.
use Rattle.std.specs.Prelude.{◌≡◌, ℕ, List, map, All, Some, slice_get, slice_index}
use Rattle.std.specs.declared.cmp.Ordering.{Ordering}
use Rattle.std.specs.Ordering.{ordering_then, nat_cmp}
use Rattle.std.specs.Cmp.Lexicographic.{slice_cmp}
use Rattle.node_names.specs.declared.names.Numbered.{Numbered}
use Rattle.node_names.specs.inside.Keys.{name_in}

-- The number of an entry, with its name in lower case.
abbrev pub entry_of : Numbered → ℕ × List ℕ
entry_of n = (n.number, name_in n.key)

abbrev pub entries_of : List Numbered → List (ℕ × List ℕ)
entries_of numbered = map entry_of numbered

-- The order by the name, and then by the number.
abbrev pub entry_cmp : ℕ × List ℕ → ℕ × List ℕ → Ordering
entry_cmp x y = ordering_then (slice_cmp nat_cmp x.1 y.1) (nat_cmp x.0 y.0)

-- Each of the numbers stands at the place that is given for it.
abbrev pub IsPlaced : List ℕ → List ℕ → Type 0
IsPlaced numbers places = All (λ number. slice_get numbers (slice_index places number) ≡ Some number) numbers
