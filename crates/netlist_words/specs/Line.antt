-- The lines of a text and their words. Of what separates words in SPICE programs blanks, tabs and carriage returns do.
use Rattle.std.specs.Prelude.{ℕ, ◌+◌, Bool, true, false, ◌==◌, List, [], ◌∷◌, length, filter, if◌then◌else◌}
use Rattle.outside.specs.declared.place.Place.{Place}
use Rattle.reading.specs.declared.word.Form.TheVariants.{Bare}
use Rattle.reading.specs.Word.{Token}
use Rattle.text_lex.specs.Bytes.{line_feed, is_white}
use Rattle.text_lex.specs.declared.word.Mode.TheVariants.{Lines}
use Rattle.netlist_words.specs.declared.line.Line.{Line as SourceLine}

-- A line: its number in the text, from 1, and its bytes without the line feed.
pub record Line : Type 0 where
  pub number : ℕ
  pub bytes : List ℕ

abbrev pub line_of : SourceLine → Line
line_of line = record { number = line.number; bytes = line.bytes.now }

-- The first of these lists with one more byte in front.
abbrev pub with_byte : ℕ → List (List ℕ) → List (List ℕ)
with_byte byte [] = []
with_byte byte (bytes ∷ others) = (byte ∷ bytes) ∷ others

-- What stands before, between and after the bytes that separate.
abbrev pub parts : (ℕ → Bool) → List ℕ → List (List ℕ)
parts separates [] = [] ∷ []
parts separates (byte ∷ bytes) =
    if separates byte then ([] ∷ parts separates bytes) else with_byte byte (parts separates bytes)

-- These lines, numbered from here on.
abbrev pub numbered : ℕ → List (List ℕ) → List Line
numbered number [] = []
numbered number (bytes ∷ others) = record { number = number; bytes = bytes } ∷ numbered (number + 1) others

-- The lines of a text stand between its line feeds. There is always a last one, which may be empty.
abbrev pub lines_of : List ℕ → List Line
lines_of text = numbered 1 (parts (λ byte. byte == line_feed) text)

-- There is a byte between two that separate.
abbrev pub is_some_word : List ℕ → Bool
is_some_word [] = false
is_some_word (byte ∷ bytes) = true

-- The words of a line stand between blanks, tabs and carriage returns.
abbrev pub words_of : List ℕ → List (List ℕ)
words_of bytes = filter is_some_word (parts (is_white Lines) bytes)

-- Words of one line, from this place on.
abbrev pub placed : Place → List (List ℕ) → List Token
placed place [] = []
placed place (text ∷ texts) =
    record { text = text; place = place; form = Bare }
    ∷ placed (record { line = place.line; word = place.word + 1 }) texts

-- The place of the first word of a line, or of its end where it has none.
abbrev pub line_start : Line → Place
line_start line = record { line = line.number; word = 1 }

-- The words on a line, each with its place.
abbrev pub words_on : Line → List Token
words_on line = placed (line_start line) (words_of line.bytes)

-- The place of the end of a line.
abbrev pub line_end : Line → Place
line_end line = record { line = line.number; word = 1 + length (words_of line.bytes) }

-- The place of the end of the last of these lines, or the one before them where there is none.
abbrev pub end_from : Place → List Line → Place
end_from place [] = place
end_from place (line ∷ lines) = end_from (line_end line) lines

-- The place of the end of a text of these lines.
abbrev pub end_of : List Line → Place
end_of lines = end_from (record { line = 1; word = 1 }) lines
