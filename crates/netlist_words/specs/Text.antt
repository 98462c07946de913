-- The words of a netlist: those of its cards, of the lines that go on with them and of the ranges of loads, with the
-- end of each card.
use Rattle.std.specs.Prelude.{ℕ, List, [], ◌∷◌, ◌++◌, None, codes, drop, if◌then◌else◌}
use Rattle.std.specs.Str.{bytes_eq}
use Rattle.outside.specs.declared.place.Place.{Place}
use Rattle.reading.specs.declared.word.Form.{Form}
use Rattle.reading.specs.declared.word.Form.TheVariants.{Break}
use Rattle.reading.specs.Reading.{Text}
use Rattle.reading.specs.Word.{Token, end_at}
use Rattle.netlist_words.specs.declared.class.Class.{Class}
use Rattle.netlist_words.specs.declared.class.Class.TheVariants.{Passed, Begins, GoesOn, Strays, Ranges}
use Rattle.netlist_words.specs.declared.class.Before.{Before}
use Rattle.netlist_words.specs.declared.class.Before.TheVariants.{Nothing}
use Rattle.netlist_words.specs.Line.{Line, lines_of, words_on, line_start, line_end, end_of}
use Rattle.netlist_words.specs.Title.{without_title}
use Rattle.netlist_words.specs.Class.{class_of, open_after}

-- A line with its class.
pub record Classed : Type 0 where
  pub class : Class
  pub line : Line

-- The lines with one more in front, if that is not passed over.
abbrev pub counted_with : Class → Line → List Classed → List Classed
counted_with Passed line others = others
counted_with Begins line others = record { class = Begins; line = line } ∷ others
counted_with GoesOn line others = record { class = GoesOn; line = line } ∷ others
counted_with Strays line others = record { class = Strays; line = line } ∷ others
counted_with Ranges line others = record { class = Ranges; line = line } ∷ others

-- The lines that are not passed over, each with its class.
abbrev pub counted : Before → List Line → List Classed
counted before [] = []
counted before (line ∷ lines) =
    counted_with (class_of before line) line (counted (open_after before (class_of before line) (words_on line)) lines)

-- The end of a card. It stands where the next line that counts has its first word, or at the end of the text.
abbrev pub card_end : Place → Token
card_end place = record { text = []; place = place; form = Break }

-- The words without the `+` in front, which is a word of its own or glued to one.
abbrev pub without_plus : List Token → List Token
without_plus [] = []
without_plus (first ∷ words) =
    if bytes_eq first.text (codes "+") then words
    else record { text = drop 1 first.text; place = first.place; form = first.form } ∷ words

-- The words, the first of which has this form.
abbrev pub with_form : Form → List Token → List Token
with_form form [] = []
with_form form (first ∷ words) = record { text = first.text; place = first.place; form = form } ∷ words

-- What a line gives. The first word of a range line ends what stands before it on the card, and so does that of a `+`
-- line that goes on with no card. A range line ends with itself, since no line goes on with it.
abbrev pub given : Class → Line → List Token
given Passed line = []
given Begins line = words_on line
given GoesOn line = without_plus (words_on line)
given Strays line = with_form Break (words_on line)
given Ranges line = with_form Break (words_on line) ++ card_end (line_end line) ∷ []

-- The end of the card before a line, unless the line goes on with it.
abbrev pub end_before : Class → Line → List Token
end_before Passed line = []
end_before Begins line = card_end (line_start line) ∷ []
end_before GoesOn line = []
end_before Strays line = card_end (line_start line) ∷ []
end_before Ranges line = []

-- The end of the card before these lines.
abbrev pub end_of_card : List Classed → Place → List Token
end_of_card [] end = card_end end ∷ []
end_of_card (next ∷ others) end = end_before next.class next.line

-- The end of the card after a line of this class, where these lines follow.
abbrev pub closing : Class → List Classed → Place → List Token
closing Passed others end = end_of_card others end
closing Begins others end = end_of_card others end
closing GoesOn others end = end_of_card others end
closing Strays others end = end_of_card others end
closing Ranges others end = []

-- The words that these lines give, with the ends of their cards, and the end of the text.
abbrev pub words_from : List Classed → Place → List Token
words_from [] end = end_at end ∷ []
words_from (one ∷ others) end = given one.class one.line ++ closing one.class others end ++ words_from others end

-- The words of a netlist. None of them is refused for itself.
abbrev pub netlist_text : List ℕ → Text Token
netlist_text text = record {
  words = words_from (counted Nothing (without_title (lines_of text))) (end_of (lines_of text));
  refused = None;
}
