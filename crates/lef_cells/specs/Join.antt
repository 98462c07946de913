-- The cells of two libraries as one record.
use Rattle.std.specs.Prelude.{ℕ, not, List, ◌++◌, map, filter}
use Rattle.list_laws.specs.Among.{is_among}

-- The entries of which none of these has the name.
abbrev pub without : {E : Type 0} → (E → List ℕ) → List E → List E → List E
without name taken entries = filter (λ entry. not (is_among (map name taken) (name entry))) entries

-- All entries of the first list, and then those of the second whose names the first has not.
abbrev pub joined : {E : Type 0} → (E → List ℕ) → List E → List E → List E
joined name first second = first ++ without name first second
