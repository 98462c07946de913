-- The title: the first line of a text, as in SPICE, but for one that has the form of a card, which SPICE would lose.
use Rattle.std.specs.Prelude.{ℕ, Bool, false, ◌==◌, ◌&&◌, not, List, [], ◌∷◌, if◌then◌else◌}
use Rattle.reading.specs.Word.{Token}
use Rattle.netlist_words.specs.Letter.{letter_of, is_mark, is_dc, may_have_dc, may_be_value}
use Rattle.netlist_words.specs.Line.{Line, words_on}

-- Whether the bytes begin with this one.
abbrev pub begins_with : ℕ → List ℕ → Bool
begins_with byte [] = false
begins_with byte (first ∷ bytes) = first == byte

-- The first word begins with a `.` (46): a dot line.
abbrev pub is_dot : List Token → Bool
is_dot [] = false
is_dot (first ∷ words) = begins_with 46 first.text

-- The words have the form of a card: `Rname a b VALUE`, `Vname a b VALUE`, `Iname a b VALUE`, `Cname a b VALUE`, and with
-- `DC` before the value of the second and the third. A mistyped number is a value too, so that a card with a mistyped
-- number is no title.
abbrev pub has_card_form : List Token → Bool
has_card_form (card ∷ a ∷ b ∷ value ∷ []) = may_be_value (letter_of card.text) value.text
has_card_form (card ∷ a ∷ b ∷ dc ∷ value ∷ []) = may_have_dc (letter_of card.text) && is_dc dc.text && not
    (is_mark value.text)
has_card_form _ = false

-- A first line that is no comment (`*` is 42), no dot line, and has not the form of a card is the title.
abbrev pub is_title : Line → Bool
is_title line = not (begins_with 42 line.bytes) && not (is_dot (words_on line)) && not (has_card_form (words_on line))

-- The lines after the title, or all where the first is none.
abbrev pub without_title : List Line → List Line
without_title [] = []
without_title (line ∷ lines) = if is_title line then lines else line ∷ lines
