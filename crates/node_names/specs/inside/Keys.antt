-- What the keys of a table stand for, inside this crate.
use Rattle.std.specs.Prelude.{ℕ, List, map}
use Rattle.node_names.specs.declared.key.Key.{Key}
use Rattle.node_names.specs.Folding.{folded}

-- The name of a key, in lower case.
abbrev pub name_in : Key → List ℕ
name_in key = folded key.name.now

-- The names of keys, in lower case.
abbrev pub names_in : List Key → List (List ℕ)
names_in keys = map name_in keys
