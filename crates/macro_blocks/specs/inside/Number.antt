-- What a number begins with, for the contracts of the reader's own functions.
use Rattle.std.specs.Prelude.{ℕ, Bool, false, ◌||◌, ◌==◌, List, [], ◌∷◌}
use Rattle.std.specs.Char.{is_ascii_digit}

-- A digit or a minus (45) stands first.
abbrev pub begins_number : List ℕ → Bool
begins_number [] = false
begins_number (c ∷ cs) = is_ascii_digit c || (c == 45)
