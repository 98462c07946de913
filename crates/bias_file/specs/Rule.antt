-- The lines of a bias file.
use Rattle.std.specs.Prelude.{ℕ, Bool, true, false, ◌&&◌, List, [], ◌∷◌, filter}
use Rattle.bias_file.specs.declared.section.Section.{Section}
use Rattle.bias_file.specs.declared.section.Section.TheVariants.{LineStart, Remark, Nothing}
use Rattle.bias_file.specs.declared.sort.Sort.{Sort}
use Rattle.bias_file.specs.declared.sort.Sort.TheVariants.{Supply, DropLimit, Pad, Cell, Instance, Mark, Comment, LineEnd, TextEnd}
use Rattle.bias_file.specs.Sort.{the, sort_of}
use Rattle.reading.specs.Word.{Token}
use Rattle.reading.specs.Pattern.{Pattern, Never, One, Then, Or}

-- A name is any word, also a first word or `;`, but not the word that begins a comment.
abbrev pub is_name : Sort → Bool
is_name Comment = false
is_name LineEnd = false
is_name TextEnd = false
is_name _ = true

-- In the place of a number stands any word but `;`, `(`, `)`, the word that begins a comment, and the end of the line
-- or the text; whether it is a number is asked of the faults.
abbrev pub is_number : Sort → Bool
is_number Mark = false
is_number Comment = false
is_number LineEnd = false
is_number TextEnd = false
is_number _ = true

-- A line ends where a comment begins, with its line feed, or with the text.
abbrev pub is_end : Sort → Bool
is_end Comment = true
is_end LineEnd = true
is_end TextEnd = true
is_end _ = false

abbrev pub name : Pattern Sort
name = One is_name

abbrev pub number : Pattern Sort
number = One is_number

abbrev pub end : Pattern Sort
end = One is_end

-- `supply NET V`, `droplimit NET V`.
abbrev pub value_line : Sort → Pattern Sort
value_line word = Then (One (the word)) (Then name (Then number end))

-- `cell MACRO I`, `cell MACRO LOW HIGH`, and the same of `instance NAME`.
abbrev pub current_line : Sort → Pattern Sort
current_line word = Then (One (the word)) (Then name (Then number (Or end (Then number end))))

-- `pad NET LAYER x y`.
abbrev pub pad_line : Pattern Sort
pad_line = Then (One (the Pad)) (Then name (Then name (Then number (Then number end))))

-- An empty line, a line that is a comment alone, or the end of the text after the last line feed.
abbrev pub empty_line : Pattern Sort
empty_line = end

abbrev pub line : Pattern Sort
line = Or (value_line Supply) (Or (value_line DropLimit)
    (Or pad_line (Or (current_line Cell) (Or (current_line Instance) empty_line))))

-- After the word that begins a comment each word is passed over, and the end of the line ends it.
abbrev pub is_any : Sort → Bool
is_any _ = true

-- What may stand in each section: a line, one word of a comment, nothing after the end of the text.
abbrev pub pattern : Section → Pattern Sort
pattern LineStart = line
pattern Remark = One is_any
pattern Nothing = Never

-- ## the lines among units

-- A line with this first word has one number after its name.
abbrev pub has_value : Sort → Bool
has_value Supply = true
has_value DropLimit = true
has_value Cell = true
has_value Instance = true
has_value _ = false

-- A line with this first word may have two numbers after its name.
abbrev pub has_range : Sort → Bool
has_range Cell = true
has_range Instance = true
has_range _ = false

-- A line with this first word has two names and two numbers.
abbrev pub has_place : Sort → Bool
has_place Pad = true
has_place _ = false

-- The unit is a line with this first word.
abbrev pub is_line : Sort → List Token → Bool
is_line word (first ∷ name ∷ value ∷ stop ∷ []) = has_value word && the word (sort_of first)
is_line word (first ∷ name ∷ low ∷ high ∷ stop ∷ []) = has_range word && the word (sort_of first)
is_line word (first ∷ net ∷ layer ∷ x ∷ y ∷ stop ∷ []) = has_place word && the word (sort_of first)
is_line word _ = false

abbrev pub lines : Sort → List (List Token) → List (List Token)
lines word units = filter (is_line word) units

-- The name on a line.
abbrev pub name_on : List Token → List ℕ
name_on (first ∷ name ∷ words) = name.text
name_on _ = []
