-- The lines of a certificate.
use Rattle.std.specs.Prelude.{ℕ, Bool, true, false, List, take, drop}
use Rattle.certificate_file.specs.declared.section.Section.{Section}
use Rattle.certificate_file.specs.declared.section.Section.TheVariants.{Head, Row, Close, Ended}
use Rattle.certificate_file.specs.declared.sort.Sort.{Sort}
use Rattle.certificate_file.specs.declared.sort.Sort.TheVariants.{Pdn, Certificate, Version, Last, Mark, LineEnd, TextEnd}
use Rattle.certificate_file.specs.Sort.{the}
use Rattle.reading.specs.Word.{Token}
use Rattle.reading.specs.Pattern.{Pattern, One, Then}

-- A name is any word, also `end` or `;`.
abbrev pub is_name : Sort → Bool
is_name LineEnd = false
is_name TextEnd = false
is_name _ = true

-- In the place of a number stands any word but `;`, `(` and `)`; whether it is a number is asked of the faults.
abbrev pub is_number : Sort → Bool
is_number Mark = false
is_number LineEnd = false
is_number TextEnd = false
is_number _ = true

-- The last line ends with its line feed or with the text.
abbrev pub is_end : Sort → Bool
is_end LineEnd = true
is_end TextEnd = true
is_end _ = false

-- `pdn certificate 1`.
abbrev pub head_line : Pattern Sort
head_line = Then (One (the Pdn)) (Then (One (the Certificate)) (Then (One (the Version)) (One (the LineEnd))))

-- `NAME HIGH LOW`.
abbrev pub row_line : Pattern Sort
row_line = Then (One is_name) (Then (One is_number) (Then (One is_number) (One (the LineEnd))))

-- `end`.
abbrev pub end_line : Pattern Sort
end_line = Then (One (the Last)) (One is_end)

-- An empty line, or the end of the text after the last line feed.
abbrev pub empty_line : Pattern Sort
empty_line = One is_end

-- What may stand in each section.
abbrev pub pattern : Section → Pattern Sort
pattern Head = head_line
pattern Row = row_line
pattern Close = end_line
pattern Ended = empty_line

-- The lines of the nodes among these lines: as many as there are nodes, after the first line.
abbrev pub rows : ℕ → List (List Token) → List (List Token)
rows nodes lines = take nodes (drop 1 lines)
