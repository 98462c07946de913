-- What each line is, by its first byte, its words and what stands before it: comments, cards, the lines that go on with
-- a card, and the ranges of loads.
use Rattle.std.specs.Prelude.{Bool, true, false, ◌&&◌, List, [], ◌∷◌, codes, if◌then◌else◌}
use Rattle.std.specs.Str.{bytes_eq}
use Rattle.reading.specs.Word.{Token}
use Rattle.netlist_words.specs.declared.class.Class.{Class}
use Rattle.netlist_words.specs.declared.class.Class.TheVariants.{Passed, Begins, GoesOn, Strays, Ranges}
use Rattle.netlist_words.specs.declared.class.Before.{Before}
use Rattle.netlist_words.specs.declared.class.Before.TheVariants.{Nothing, Card, Load, LoadAside}
use Rattle.netlist_words.specs.declared.letter.Letter.{Letter}
use Rattle.netlist_words.specs.declared.letter.Letter.TheVariants as letters
use Rattle.netlist_words.specs.Letter.{letter_of}
use Rattle.netlist_words.specs.Line.{Line, words_on}
use Rattle.netlist_words.specs.Title.{begins_with}

-- A card stands before, which a `+` line would go on with.
abbrev pub has_card : Before → Bool
has_card Nothing = false
has_card Card = true
has_card Load = true
has_card LoadAside = true

-- The line just before is one of a load's card.
abbrev pub may_range : Before → Bool
may_range Nothing = false
may_range Card = false
may_range Load = true
may_range LoadAside = false

-- The first word is `*range`.
abbrev pub names_range : List Token → Bool
names_range [] = false
names_range (first ∷ words) = bytes_eq first.text (codes "*range")

-- There are no words.
abbrev pub has_none : List Token → Bool
has_none [] = true
has_none (first ∷ words) = false

-- What a line is after what stands before it. A line that begins with `+` (43) goes on with the card before it,
-- comments and empty lines aside. `*range` is a range line right after a line of a load's card. A line that begins with
-- `*` (42) is a comment. A line without words is passed over. Every other line begins a card; dot lines count as cards.
abbrev pub class_of : Before → Line → Class
class_of before line =
    if begins_with 43 line.bytes then (if has_card before then GoesOn else Strays)
    else if may_range before && names_range (words_on line) then Ranges
    else if begins_with 42 line.bytes then Passed
    else if has_none (words_on line) then Passed
    else Begins

-- What stands before the next line after one that is passed over.
abbrev pub aside : Before → Before
aside Nothing = Nothing
aside Card = Card
aside Load = LoadAside
aside LoadAside = LoadAside

-- What stands before the next line after one that goes on with the card.
abbrev pub again : Before → Before
again Nothing = Nothing
again Card = Card
again Load = Load
again LoadAside = Load

-- What stands before the next line after one that begins a card with this letter.
abbrev pub opened_by : Letter → Before
opened_by letters.Resistor = Card
opened_by letters.Source = Card
opened_by letters.Load = Load
opened_by letters.Capacitor = Card
opened_by letters.Other = Card

-- The same where one begins a card with these words.
abbrev pub opened : List Token → Before
opened [] = Nothing
opened (first ∷ words) = opened_by (letter_of first.text)

-- What stands before the next line after one of this class. Nothing goes on with a range line.
abbrev pub open_after : Before → Class → List Token → Before
open_after before Passed words = aside before
open_after before Begins words = opened words
open_after before GoesOn words = again before
open_after before Strays words = Nothing
open_after before Ranges words = Nothing
