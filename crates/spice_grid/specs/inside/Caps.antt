-- What the code makes of the ends of capacitors, inside this crate: the numbers of a table of names, each with its place.
use Rattle.std.specs.Prelude.{ℕ, List, Option, None, Some, position, slice_index, if◌then◌else◌}
use Rattle.std.specs.Str.{bytes_eq}
use Rattle.capacitors.specs.declared.End.{End}
use Rattle.capacitors.specs.declared.End.TheVariants.{Node, Ground, Nowhere}
use Rattle.capacitors.specs.declared.Cap.{Cap}
use Rattle.node_names.specs.Folding.{folded}
use Rattle.spice_cards.specs.declared.record.Capacitor.{Capacitor}
use Rattle.spice_cards.specs.Card.{is_ground}

-- The end with this number in the table.
abbrev pub numbered_end : List ℕ → Option ℕ → End
numbered_end places (Some number) = Node (slice_index places number)
numbered_end places None = Nowhere

-- The end with this name.
abbrev pub named_end : List (List ℕ) → List ℕ → List ℕ → End
named_end names places name =
    if is_ground name then Ground else numbered_end places (position (bytes_eq (folded name)) names)

-- A capacitor as it was read, with its ends.
abbrev pub named_cap : List (List ℕ) → List ℕ → Capacitor → Cap
named_cap names places read =
    record { a = named_end names places read.a.now; b = named_end names places read.b.now; farads = read.farads }
