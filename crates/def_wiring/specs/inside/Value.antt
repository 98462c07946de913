-- What the words of a unit say: their sorts.
use Rattle.std.specs.Prelude.{◌≡◌, List, [], ◌∷◌, Option, Some, None, Result, Ok, Err}
use Rattle.def_wiring.specs.declared.sort.Sort.{Sort}
use Rattle.def_wiring.specs.Sort.{sort_of}
use Rattle.reading.specs.Word.{Token}

-- What the last of a unit's words so far says: the sort of the first, and of the second.
abbrev pub says : List Token → Sort → Type 0
says (first ∷ []) sort = sort ≡ sort_of first
says (first ∷ second ∷ []) sort = sort ≡ sort_of second
says part sort = Unit {0}
