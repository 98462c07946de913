-- The lines of a wave file.
use Rattle.std.specs.Prelude.{ℕ, Bool, true, false, List, [], ◌∷◌, filter}
use Rattle.wave_file.specs.declared.section.Section.{Section}
use Rattle.wave_file.specs.declared.section.Section.TheVariants.{Lines}
use Rattle.wave_file.specs.declared.sort.Sort.{Sort}
use Rattle.wave_file.specs.declared.sort.Sort.TheVariants.{At, Mark, LineEnd, TextEnd}
use Rattle.wave_file.specs.Sort.{the}
use Rattle.reading.specs.Word.{Token}
use Rattle.reading.specs.Pattern.{Pattern, One, Then, Or}

-- A step or a name is any word, also `at` or `;`; whether it is one is asked of the faults.
abbrev pub is_word : Sort → Bool
is_word LineEnd = false
is_word TextEnd = false
is_word _ = true

-- In the place of a current stands any word but `;`, `(` and `)`; whether it is a number is asked of the faults.
abbrev pub is_number : Sort → Bool
is_number Mark = false
is_number LineEnd = false
is_number TextEnd = false
is_number _ = true

-- A line ends with its line feed or with the text.
abbrev pub is_end : Sort → Bool
is_end LineEnd = true
is_end TextEnd = true
is_end _ = false

abbrev pub word : Pattern Sort
word = One is_word

abbrev pub number : Pattern Sort
number = One is_number

abbrev pub end : Pattern Sort
end = One is_end

-- `at STEP NODE I`, `at STEP NODE LOW HIGH`.
abbrev pub change_line : Pattern Sort
change_line = Then (One (the At)) (Then word (Then word (Then number (Or end (Then number end)))))

-- An empty line, or the end of the text after the last line feed.
abbrev pub empty_line : Pattern Sort
empty_line = end

-- What may stand in the one section.
abbrev pub pattern : Section → Pattern Sort
pattern Lines = Or change_line empty_line

-- ## the lines among units

-- The unit is a line that changes a load.
abbrev pub is_line : List Token → Bool
is_line (first ∷ step ∷ name ∷ value ∷ stop ∷ []) = true
is_line (first ∷ step ∷ name ∷ low ∷ high ∷ stop ∷ []) = true
is_line _ = false

abbrev pub lines : List (List Token) → List (List Token)
lines units = filter is_line units

-- The word of the step on a line.
abbrev pub step_on : List Token → List ℕ
step_on (first ∷ step ∷ words) = step.text
step_on _ = []

-- The name on a line.
abbrev pub name_on : List Token → List ℕ
name_on (first ∷ step ∷ name ∷ words) = name.text
name_on _ = []
