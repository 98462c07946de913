-- How many statements whole units are.
use Rattle.std.specs.Prelude.{ℕ, ◌+◌, List, [], ◌∷◌}
use Rattle.reading.specs.Word.{Token}

-- One for a statement, and none for the end of the text.
abbrev pub count_in : List Token → ℕ
count_in (keyword ∷ name ∷ number ∷ semicolon ∷ []) = 1
count_in words = 0

-- How many of the units are statements.
abbrev pub count_of : List (List Token) → ℕ
count_of [] = 0
count_of (unit ∷ units) = count_in unit + count_of units
