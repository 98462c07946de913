-- What one more line of a netlist gives.
use Rattle.std.proofs.Common.{◌≡◌, ℕ, Bool, true, false, if◌then◌else◌, List, [], ◌∷◌, ◌++◌, Option, None, Some, refl, sym, ◌∙◌, ap, append_assoc, arith, ◌&&◌, ◌==◌, ◌<◌, length, codes}
use Rattle.outside.specs.declared.place.Place.{Place}
use Rattle.reading.specs.declared.word.Form.TheVariants.{Bare}
use Rattle.reading.specs.declared.word.Word.{Word}
use Rattle.reading.specs.Word.{Token, token, end_at}
use Rattle.reading.specs.Source.{Ended}
use Rattle.netlist_words.specs.declared.class.Class.{Class}
use Rattle.netlist_words.specs.declared.class.Class.TheVariants.{Passed, Begins, GoesOn, Strays, Ranges}
use Rattle.netlist_words.specs.declared.class.Before.{Before}
use Rattle.netlist_words.specs.declared.class.Before.TheVariants.{Nothing}
use Rattle.std.specs.Str.{bytes_eq}
use Rattle.netlist_words.specs.Line.{Line, words_of, words_on, line_start}
use Rattle.netlist_words.specs.Class.{class_of, open_after, aside, opened_by, opened, has_card, may_range, names_range, has_none}
use Rattle.netlist_words.specs.Letter.{letter_of}
use Rattle.netlist_words.specs.Title.{begins_with, has_card_form}
use Rattle.netlist_words.specs.Text.{Classed, card_end, with_form, counted, counted_with, given, end_before, end_of_card, closing, words_from}
use Rattle.netlist_words.specs.inside.Left.{pending_in, owed_place, after, with_end, BeginsAt, TakesWord}
use Rattle.netlist_words.proofs.Words.{bare_same}

abbrev pub classed : Class → Line → Classed
classed class line = record { class = class; line = line }

-- The end of a card before a line, where it is owed.
abbrev pub owed_before : Bool → List Token → List Token
owed_before owed ends = if owed then ends else []

regroup : (e g c w : List Token) → e ++ (g ++ c ++ w) ≡ (e ++ g) ++ (c ++ w)
regroup e g c w = ap (λ z. e ++ z) (append_assoc g c w) ∙ sym (append_assoc e g (c ++ w))

after_line : (owed : Bool) (class : Class) (line : Line) (others : List Classed) (end : Place) →
    after owed (classed class line ∷ others) end ≡ (owed_before owed (end_before class line) ++ given class line) ++ (closing class others end ++ words_from others end)
after_line false class line others end = regroup [] (given class line) (closing class others end) (words_from others end)
after_line true class line others end = regroup (end_before class line) (given class line) (closing class others end) (words_from others end)

pub owed_none : (owed : Bool) → pending_in None ≡ owed_before owed []
owed_none false = refl
owed_none true = refl

pub owed_some : (owed : Bool) (place : Place) → pending_in (owed_place owed place) ≡ owed_before owed (card_end place ∷ [])
owed_some false place = refl
owed_some true place = refl

-- One more line that counts.
pub entered : (owed owes : Bool) (before : Before) (line : Line) (class : Class) (next : Before) (pending : Option Place) (ws : List Token) →
    class_of before line ≡ class → ((others : List Classed) → counted_with class line others ≡ classed class line ∷ others) →
    ((others : List Classed) (end : Place) → closing class others end ++ words_from others end ≡ after owes others end) → next ≡ open_after before class (words_on line) → pending_in pending ≡ owed_before owed (end_before class line) → ws ≡ given class line →
    (lines : List Line) (end : Place) → after owed (counted before (line ∷ lines)) end ≡ (pending_in pending ++ ws) ++ after owes (counted next lines) end
entered owed owes before line class next pending ws is counts closes same ends gives lines end =
    let others = counted (open_after before class (words_on line)) lines in
    ap (λ z. after owed (counted_with z line (counted (open_after before z (words_on line)) lines)) end) is
    ∙ ap (λ z. after owed z end) (counts others)
    ∙ after_line owed class line others end
    ∙ ap (λ z. (owed_before owed (end_before class line) ++ given class line) ++ z) (closes others end)
    ∙ ap (λ z. (z ++ given class line) ++ after owes others end) (sym ends)
    ∙ ap (λ z. (pending_in pending ++ z) ++ after owes others end) (sym gives)
    ∙ ap (λ z. (pending_in pending ++ ws) ++ after owes (counted z lines) end) (sym same)

-- ## classes

abbrev class_by : Bool → Bool → Bool → Bool → Bool → Class
class_by plus card range star none =
    if plus then (if card then GoesOn else Strays) else if range then Ranges else if star then Passed else if none then Passed else Begins

goes_by : (plus card range star none : Bool) → class_by plus card range star none ≡ GoesOn → plus ≡ true
goes_by true card range star none h = refl
goes_by false card true star none h = cc
goes_by false card false true none h = cc
goes_by false card false false true h = cc
goes_by false card false false false h = cc

-- A line that goes on with a card begins with `+`.
pub goes_plus : (before : Before) (line : Line) → class_of before line ≡ GoesOn → begins_with 43 line.bytes ≡ true
goes_plus before line h =
    goes_by (begins_with 43 line.bytes) (has_card before) (may_range before && names_range (words_on line)) (begins_with 42 line.bytes) (has_none (words_on line)) h

-- The class that was found.
pub class_is : (before : Before) (line : Line) (found class : Class) (front : List ℕ) → BeginsAt (words_on line) front →
    (BeginsAt (words_on line) front → found ≡ class_of before line) → found ≡ class → class_of before line ≡ class
class_is before line found class front begins tells is = sym (tells begins) ∙ is

-- A line that is passed over.
pub passed : (owed : Bool) (before : Before) (line : Line) (next : Before) → class_of before line ≡ Passed → next ≡ aside before →
    (lines : List Line) (end : Place) → after owed (counted before (line ∷ lines)) end ≡ after owed (counted next lines) end
passed owed before line next is same lines end =
    ap (λ z. after owed (counted_with z line (counted (open_after before z (words_on line)) lines)) end) is
    ∙ ap (λ z. after owed (counted z lines) end) (sym same)

-- What is left where a word was taken from a line, before what other lines give.
pub line_takes : (old new rest : List Token) (word : Word) → TakesWord old (Some word) new → old ++ rest ≡ token word ∷ (new ++ rest)
line_takes old new rest word takes = ap (λ z. z ++ rest) takes

-- The words of a text end with its end.
pub words_ended : (others : List Classed) (end : Place) → Ended (words_from others end)
words_ended [] end = ([], end_at end, refl, refl)
words_ended (one ∷ others) end =
    let more = words_ended others end in
    let front = given one.class one.line ++ closing one.class others end in
    (front ++ more.0, more.1, ap (λ z. front ++ z) more.2 ∙ sym (append_assoc front more.0 (more.1 ∷ [])), more.3)

-- Six words are no card.
pub no_form : (line : Line) (old one two three four five six : List Token) (a b c d e f : Token) → old ≡ with_form Bare (words_on line) →
    old ≡ a ∷ one → one ≡ b ∷ two → two ≡ c ∷ three → three ≡ d ∷ four → four ≡ e ∷ five → five ≡ f ∷ six → false ≡ has_card_form (words_on line)
no_form line old one two three four five six a b c d e f same h i j k l m =
    let words : old ≡ a ∷ b ∷ c ∷ d ∷ e ∷ f ∷ six = cc in
    ap has_card_form (sym words ∙ same ∙ bare_same (line_start line) (words_of line.bytes))

-- The end of a line that ends with itself.
pub own_end : (pending : Option Place) (ends : Bool) (old new : List Token) (place p q : Place) (end : Token) →
    pending ≡ None → ends ≡ true → old ≡ [] → new ≡ [] → place ≡ p → end ≡ card_end p →
    pending_in pending ++ with_end ends old place ≡ end ∷ (pending_in pending ++ with_end false new q)
own_end pending ends old new place p q end none is spent left same e =
    ap (λ z. pending_in z ++ with_end ends old place) none
    ∙ ap (λ z. with_end z old place) is
    ∙ ap (λ z. z ++ card_end place ∷ []) spent
    ∙ ap (λ z. card_end z ∷ []) same
    ∙ ap (λ z. z ∷ []) (sym e)
    ∙ ap (λ z. end ∷ z) (sym (ap (λ z. pending_in z ++ new) none ∙ left))

-- ## the first word of a line

not_star : (byte : ℕ) (more : List ℕ) → (byte == 42) ≡ false → bytes_eq (byte ∷ more) (codes "*range") ≡ false
not_star byte more h = ap (λ z. z && bytes_eq more (codes "range")) h

-- A word that does not begin with `*` is not `*range`.
pub no_range : (words : List Token) (front : List ℕ) → begins_with 42 front ≡ false → BeginsAt words front → false ≡ names_range words
no_range words [] h e = ap names_range (sym e)
no_range words (byte ∷ front) h b =
    sym (ap names_range b.3 ∙ ap (λ z. bytes_eq z (codes "*range")) b.4 ∙ not_star byte b.2 h)
