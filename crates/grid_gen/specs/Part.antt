-- Parts of a text.
use Rattle.std.specs.Prelude.{ℕ, List, ◌++◌, decimal}

-- A text and a whole number after it.
abbrev pub part : List ℕ → ℕ → List ℕ
part text number = text ++ decimal number
