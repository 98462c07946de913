-- Lines of a text. A line is the list of its words.
use Rattle.std.specs.Prelude.{ℕ, List, [], ◌∷◌, ◌++◌}
use Rattle.std.specs.List.{flat_map, join_with_byte}

-- The bytes of a line: its words with single blanks (32) between them, and the line feed (10).
abbrev pub line_of : List (List ℕ) → List ℕ
line_of words = join_with_byte 32 words ++ 10 ∷ []

-- The bytes of lines, one after the other.
abbrev pub text_of : List (List (List ℕ)) → List ℕ
text_of lines = flat_map line_of lines
