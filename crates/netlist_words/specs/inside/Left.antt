-- What is left of a text while it is read.
use Rattle.std.specs.Prelude.{◌≡◌, ℕ, ◌+◌, ◌<◌, ◌≤◌, ◌^◌, Bool, true, false, ◌==◌, not, List, [], ◌∷◌, ◌++◌, length, Option, None, Some, slice_index}
use Rattle.outside.specs.declared.place.Place.{Place}
use Rattle.reading.specs.declared.word.Word.{Word}
use Rattle.reading.specs.Word.{Token, token}
use Rattle.text_lex.specs.Bytes.{line_feed, is_white}
use Rattle.text_lex.specs.declared.word.Mode.TheVariants.{Lines as lines_mode}
use Rattle.netlist_words.specs.declared.line.Line.{Line as SourceLine}
use Rattle.netlist_words.specs.declared.line.Lines.{Lines}
use Rattle.netlist_words.specs.declared.word.LineWords.{LineWords}
use Rattle.netlist_words.specs.declared.class.Before.TheVariants.{Nothing}
use Rattle.netlist_words.specs.declared.netlist.Given.{Given}
use Rattle.netlist_words.specs.declared.netlist.Cards.{Cards}
use Rattle.netlist_words.specs.Line.{Line, line_of, parts, numbered, words_of, placed, line_end, end_from}
use Rattle.netlist_words.specs.Text.{Classed, card_end, with_form, counted, end_of_card, words_from}

-- The lines of these bytes, numbered from here on, where there are more lines.
abbrev pub lines_left : Bool → ℕ → List ℕ → List Line
lines_left false number rest = []
lines_left true number rest = numbered number (parts (λ byte. byte == line_feed) rest)

-- The lines that are left.
abbrev pub lines_in : Lines → List Line
lines_in lines = lines_left lines.more lines.number lines.rest.now

-- The numbers of lines can be counted.
abbrev pub CanCountLines : Lines → Type 0
CanCountLines lines = lines.number + length lines.rest.now < 2 ^ 64

-- The words of a line can be counted.
abbrev pub CanCountWords : LineWords → Type 0
CanCountWords words = words.place.word + length words.rest.now < 2 ^ 64

-- The words of a line that are left.
abbrev pub words_in : LineWords → List Token
words_in words = with_form words.form (placed words.place (words_of words.rest.now))

-- The place after the words that are left.
abbrev pub words_end : LineWords → Place
words_end words =
    record { line = words.place.line; word = words.place.word + length (words_of words.rest.now) }

-- So many bytes in front are white, or are not, and no more.
pub record IsRun (white : Bool) (text : List ℕ) (len : ℕ) : Type 0 where
  pub within : len ≤ length text
  pub inside : (k : ℕ) → k < len → is_white lines_mode (slice_index text k) ≡ white
  pub ends : len < length text → is_white lines_mode (slice_index text len) ≡ not white

-- The bytes begin with the first of these words. Where there are none, no word is left.
abbrev pub BeginsAt : List Token → List ℕ → Type 0
BeginsAt words [] = words ≡ []
BeginsAt words (byte ∷ bytes) =
    (first : Token) × (others : List Token) × (more : List ℕ) × (words ≡ first ∷ others) × (first.text ≡ byte ∷ more)

-- The next line is taken, or there is none.
abbrev pub TakesLine : List Line → Option SourceLine → List Line → Type 0
TakesLine old None new = (old ≡ []) × (new ≡ [])
TakesLine old (Some line) new = old ≡ line_of line ∷ new

-- The next word is taken, or there is none.
abbrev pub TakesWord : List Token → Option Word → List Token → Type 0
TakesWord old None new = (old ≡ []) × (new ≡ [])
TakesWord old (Some word) new = old ≡ token word ∷ new

-- The end of a card that is given first, if there is one.
abbrev pub pending_in : Option Place → List Token
pending_in None = []
pending_in (Some place) = card_end place ∷ []

-- What the lines that are left give, where the end of a card is owed or not.
abbrev pub after : Bool → List Classed → Place → List Token
after false others end = words_from others end
after true others end = end_of_card others end ++ words_from others end

-- Words, and the end of a card after them, where the line ends with itself.
abbrev pub with_end : Bool → List Token → Place → List Token
with_end false words place = words
with_end true words place = words ++ card_end place ∷ []

-- What is left of a line.
abbrev pub left_of_line : Given → List Token
left_of_line given = pending_in given.pending ++ with_end given.ends (words_in given.words) (words_end given.words)

-- What is left of a line, and then of these lines.
abbrev pub left_with : Given → List Line → Place → List Token
left_with given lines end = left_of_line given ++ after given.owed (counted given.before lines) end

-- The place of the end of a card, where it is owed.
abbrev pub owed_place : Bool → Place → Option Place
owed_place false place = None
owed_place true place = Some place

-- What is left, where the end of the text has been given or not.
abbrev pub left_by : Bool → Given → List Line → Place → List Token
left_by false given lines end = left_with given lines end
left_by true given lines end = []

abbrev pub left_in : Cards → List Token
left_in cards =
    left_by cards.ended cards.given (lines_in cards.lines)
    (end_from (line_end (line_of cards.last)) (lines_in cards.lines))

-- Nothing is left of a line, and no card stands before.
pub record IsBlank (given : Given) : Type 0 where
  pub pending : given.pending ≡ None
  pub words : words_in given.words ≡ []
  pub before : given.before ≡ Nothing
  pub ends : given.ends ≡ false
  pub owed : given.owed ≡ false
  pub counts : CanCountWords given.words

-- All can be counted.
abbrev pub CanCount : Cards → Type 0
CanCount cards = CanCountWords cards.given.words × CanCountLines cards.lines
