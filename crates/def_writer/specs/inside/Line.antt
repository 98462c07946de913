-- The words of a line, inside this crate.
use Rattle.std.specs.Prelude.{ℕ, List}
use Rattle.std.specs.List.{join_with_byte}

-- The words with single blanks between them.
abbrev pub spaced : List (List ℕ) → List ℕ
spaced words = join_with_byte 32 words
