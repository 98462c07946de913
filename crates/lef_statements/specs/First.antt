-- The first of some units that is so.
use Rattle.std.specs.Prelude.{Bool, cond, List, [], ◌∷◌, Option, Some, None}

-- The first of the units that is so, if one is.
abbrev pub first_with : {U : Type 0} → (U → Bool) → List U → Option U
first_with test [] = None
first_with test (u ∷ us) = cond (test u) (Some u) (first_with test us)
