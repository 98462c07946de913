-- The letters of cards, as SPICE has them, and the words that never stand for a value, as this project has them.
use Rattle.std.specs.Prelude.{ℕ, Bool, true, false, ◌==◌, ◌||◌, ◌&&◌, not, List, [], ◌∷◌, codes, if◌then◌else◌}
use Rattle.std.specs.Str.{bytes_eq}
use Rattle.netlist_words.specs.declared.letter.Letter.{Letter}
use Rattle.netlist_words.specs.declared.letter.Letter.TheVariants.{Resistor, Source, Load, Capacitor, Other}

-- The byte is this letter, as a capital or a small one (32 more).
abbrev pub is_letter : ℕ → ℕ → ℕ → Bool
is_letter capital small byte = byte == capital || byte == small

-- What a card is by its first letter: `R` (82), `V` (86), `I` (73) or `C` (67), in either case.
abbrev pub letter_of_byte : ℕ → Letter
letter_of_byte byte =
    if is_letter 82 114 byte then Resistor
    else if is_letter 86 118 byte then Source
    else if is_letter 73 105 byte then Load
    else if is_letter 67 99 byte then Capacitor
    else Other

abbrev pub letter_of : List ℕ → Letter
letter_of [] = Other
letter_of (byte ∷ bytes) = letter_of_byte byte

-- `;`, `(` and `)`, which never stand for a value.
abbrev pub is_mark : List ℕ → Bool
is_mark text = bytes_eq text (codes ";") || bytes_eq text (codes "(") || bytes_eq text (codes ")")

-- `DC`, which may stand before the value of a source or a load.
abbrev pub is_dc : List ℕ → Bool
is_dc text = bytes_eq text (codes "DC")

-- Whether a card with this letter may have `DC`.
abbrev pub may_have_dc : Letter → Bool
may_have_dc Resistor = false
may_have_dc Source = true
may_have_dc Load = true
may_have_dc Capacitor = false
may_have_dc Other = false

-- Whether a card with this letter may have this word as its value; whether it is a number is another question.
abbrev pub may_be_value : Letter → List ℕ → Bool
may_be_value Resistor text = not (is_mark text)
may_be_value Source text = not (is_mark text) && not (is_dc text)
may_be_value Load text = not (is_mark text) && not (is_dc text)
may_be_value Capacitor text = not (is_mark text)
may_be_value Other text = false
