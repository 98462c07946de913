-- The place of a name in a list of names.
use Rattle.std.specs.Prelude.{ℕ, List, Option}
use Rattle.std.specs.List.{position_from}
use Rattle.std.specs.Str.{bytes_eq}

-- The first place at which the name stands, from 0. None where it stands nowhere.
abbrev pub place_of : List (List ℕ) → List ℕ → Option ℕ
place_of names name = position_from (λ (other : List ℕ). bytes_eq other name) 0 names
