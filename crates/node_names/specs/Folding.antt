-- Names of nodes in lower case. SPICE takes no notice of case.
use Rattle.std.specs.Prelude.{ℕ, List, map}
use Rattle.std.specs.Char.{to_ascii_lowercase}

-- A name with each ASCII capital as its small letter, and each other byte as it is.
abbrev pub folded : List ℕ → List ℕ
folded name = map to_ascii_lowercase name
