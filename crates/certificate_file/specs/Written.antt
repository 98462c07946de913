-- The text of a certificate. Names are lists of bytes, voltages are yoctovolts.
use Rattle.std.specs.Prelude.{◌≡◌, ◌≤◌, ℕ, ℤ, true, List, [], ◌∷◌, ◌++◌, length, codes, unsigned_abs, All}
use Rattle.fixed_decimal.specs.Printed.{printed}
use Rattle.text_lex.specs.Piece.{IsBare}
use Rattle.text_lex.specs.declared.word.Mode.TheVariants.{Lines}
use Rattle.certificate_file.specs.Voltage.{limit}

-- The line of a node: its name, its high and its low voltage, with single blanks.
abbrev pub row_text : List ℕ → ℤ → ℤ → List ℕ
row_text name high low = name ++ (codes " " ++ (printed high 0 ++ (codes " " ++ (printed low 0 ++ codes "\n"))))

-- The lines of the nodes.
abbrev pub rows_text : List (List ℕ) → List ℤ → List ℤ → List ℕ
rows_text (name ∷ names) (high ∷ highs) (low ∷ lows) = row_text name high low ++ rows_text names highs lows
rows_text _ _ _ = []

-- The first line, the lines of the nodes, and the line `end`.
abbrev pub certificate_text : List (List ℕ) → List ℤ → List ℤ → List ℕ
certificate_text names high low = codes "pdn certificate 1\n" ++ (rows_text names high low ++ codes "end\n")

-- What reads back once it is written: each name is one word of a line, and each list has for each name a voltage within
-- the limit.
pub record CanBeWritten (names : List (List ℕ)) (high low : List ℤ) : Type 0 where
  pub words : All (λ name. IsBare Lines true name []) names
  pub high_count : length high ≡ length names
  pub low_count : length low ≡ length names
  pub high_within : All (λ voltage. unsigned_abs voltage ≤ limit) high
  pub low_within : All (λ voltage. unsigned_abs voltage ≤ limit) low
