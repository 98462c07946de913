-- The words of a netlist are words of its lines.
use Rattle.std.proofs.Common.{◌≡◌, ℕ, zero, suc, ◌+◌, ◌<◌, ◌==◌, ◌&&◌, not, Bool, true, false, if◌then◌else◌, List, [], ◌∷◌, ◌++◌, length, codes, drop, refl, sym, ◌∙◌, ap, subst, arith, inl, inr}
use Rattle.std.specs.Prelude.{IsTrue, All, slice_index, slice_index_or, filter}
use Rattle.std.specs.List.{AllByRecursion, list_all}
use Rattle.std.specs.Str.{bytes_eq}
use Rattle.outside.specs.declared.place.Place.{Place}
use Rattle.text_lex.specs.declared.word.Mode.TheVariants.{Lines}
use Rattle.text_lex.specs.Bytes.{is_plain, is_white}
use Rattle.reading.specs.declared.word.Form.TheVariants.{Bare, Break}
use Rattle.reading.specs.Word.{Token, end_at}
use Rattle.netlist_words.specs.declared.class.Class.{Class}
use Rattle.netlist_words.specs.declared.class.Class.TheVariants.{Passed, Begins, GoesOn, Strays, Ranges}
use Rattle.netlist_words.specs.declared.class.Before.{Before}
use Rattle.netlist_words.specs.declared.class.Before.TheVariants.{Nothing}
use Rattle.netlist_words.specs.Class.{class_of, open_after, has_card, may_range, names_range, has_none}
use Rattle.netlist_words.specs.Line.{Line, with_byte, parts, numbered, lines_of, is_some_word, words_of, placed, words_on, line_start, line_end, end_of}
use Rattle.netlist_words.specs.Title.{begins_with, is_title, without_title}
use Rattle.netlist_words.specs.Text.{Classed, counted_with, counted, card_end, without_plus, with_form, given, end_before, end_of_card, closing, words_from, netlist_text}
use Rattle.netlist_words.specs.CardWord.{IsCardWord}
use Rattle.netlist_words.proofs.Parts.{parts_some}

-- ## bytes

and_true : (a b : Bool) → a ≡ true → b ≡ true → (a && b) ≡ true
and_true true b h k = k
and_true false b h k = absurd (let t : false ≡ true = h in cc)

and_both : (a b : Bool) → (a && b) ≡ true → (a ≡ true) × (b ≡ true)
and_both true b h = (refl, h)
and_both false b h = absurd (let t : false ≡ true = h in cc)

no_false : false ≡ true → ⊥
no_false h = cc

-- Bytes without line feeds.
abbrev is_inside : ℕ → Bool
is_inside byte = not (byte == 10)

plain_by : (white feed : Bool) → white ≡ false → not feed ≡ true → (not white && not feed && true) ≡ true
plain_by true feed e f = absurd (let t : true ≡ false = e in cc)
plain_by false true e f = absurd (no_false f)
plain_by false false e f = refl

plain_byte : (byte : ℕ) → is_inside byte ≡ true → is_white Lines byte ≡ false → is_plain Lines byte ≡ true
plain_byte byte inside white = plain_by (is_white Lines byte) (byte == 10) white inside

-- The bytes are one word.
record IsWord (text : List ℕ) : Type 0 where
  some : 0 < length text
  plain : IsTrue (list_all (is_plain Lines) text)

-- ## parts

abbrev Each : (ℕ → Bool) → List ℕ → Type 0
Each test part = list_all test part ≡ true

-- Each byte that separates nothing passes the test.
abbrev Kept : (ℕ → Bool) → (ℕ → Bool) → List ℕ → Type 0
Kept separates test bytes = AllByRecursion (λ byte. separates byte ≡ false → test byte ≡ true) bytes

parts_by : (separates test : ℕ → Bool) (byte : ℕ) (others : List (List ℕ)) (is : Bool) → separates byte ≡ is → (separates byte ≡ false → test byte ≡ true) →
    AllByRecursion (Each test) others → AllByRecursion (Each test) (if is then ([] ∷ others) else with_byte byte others)
parts_by separates test byte others true e h all = (refl, all)
parts_by separates test byte [] false e h all = tt
parts_by separates test byte (part ∷ others) false e h all = (and_true (test byte) (list_all test part) (h e) all.0, all.1)

parts_pass : (separates test : ℕ → Bool) (bytes : List ℕ) → Kept separates test bytes → AllByRecursion (Each test) (parts separates bytes)
parts_pass separates test [] h = (refl, tt)
parts_pass separates test (byte ∷ bytes) h =
    parts_by separates test byte (parts separates bytes) (separates byte) refl h.0 (parts_pass separates test bytes h.1)

feeds_kept : (bytes : List ℕ) → Kept (λ byte. byte == 10) is_inside bytes
feeds_kept [] = tt
feeds_kept (byte ∷ bytes) = (λ e. ap not e, feeds_kept bytes)

whites_kept : (bytes : List ℕ) → Each is_inside bytes → Kept (is_white Lines) (is_plain Lines) bytes
whites_kept [] h = tt
whites_kept (byte ∷ bytes) h =
    let t = and_both (is_inside byte) (list_all is_inside bytes) h in
    (λ e. plain_byte byte t.0 e, whites_kept bytes t.1)

words_by : (texts : List (List ℕ)) → AllByRecursion (Each (is_plain Lines)) texts → AllByRecursion IsWord (filter is_some_word texts)
words_by [] h = tt
words_by ([] ∷ texts) h = words_by texts h.1
words_by ((byte ∷ bytes) ∷ texts) h = (record { some = omega arith; plain = h.0 }, words_by texts h.1)

words_are : (bytes : List ℕ) → Each is_inside bytes → AllByRecursion IsWord (words_of bytes)
words_are bytes h = words_by (parts (is_white Lines) bytes) (parts_pass (is_white Lines) (is_plain Lines) bytes (whites_kept bytes h))

-- ## lines

-- No line feed stands in a line.
abbrev IsLine : Line → Type 0
IsLine line = Each is_inside line.bytes

numbered_are : (first : ℕ) (texts : List (List ℕ)) → AllByRecursion (Each is_inside) texts → AllByRecursion IsLine (numbered first texts)
numbered_are first [] h = tt
numbered_are first (text ∷ texts) h = (h.0, numbered_are (first + 1) texts h.1)

lines_are : (text : List ℕ) → AllByRecursion IsLine (lines_of text)
lines_are text = numbered_are 1 (parts (λ byte. byte == 10) text) (parts_pass (λ byte. byte == 10) is_inside text (feeds_kept text))

title_by : (is : Bool) (line : Line) (lines : List Line) → AllByRecursion IsLine (line ∷ lines) → AllByRecursion IsLine (if is then lines else (line ∷ lines))
title_by true line lines h = h.1
title_by false line lines h = h

title_gone : (lines : List Line) → AllByRecursion IsLine lines → AllByRecursion IsLine (without_title lines)
title_gone [] h = tt
title_gone (line ∷ lines) h = title_by (is_title line) line lines h

-- ## words

-- The word ends something, or is one word of a line.
abbrev Fits : Token → Type 0
Fits word = IsCardWord word

break_fits : (text : List ℕ) (place : Place) → Fits (record { text = text; place = place; form = Break })
break_fits text place = inr (inl refl)

end_fits : (place : Place) → Fits (end_at place)
end_fits place = inr (inr refl)

begins_by : (p q r : Bool) → (not (p && false) && not (q && false) && not (r && false)) ≡ true
begins_by true true true = refl
begins_by true true false = refl
begins_by true false true = refl
begins_by true false false = refl
begins_by false true true = refl
begins_by false true false = refl
begins_by false false true = refl
begins_by false false false = refl

bare_fits : (text : List ℕ) (place : Place) → IsWord text → Fits (record { text = text; place = place; form = Bare })
bare_fits text place word = inl (
  refl,
  record {
    some = word.some;
    begins = begins_by (slice_index text 0 == 35) (slice_index text 0 == 34) (slice_index text 0 == 123);
    plain = word.plain;
    ends = refl;
  },
)

placed_fit : (place : Place) (texts : List (List ℕ)) → AllByRecursion IsWord texts → AllByRecursion Fits (placed place texts)
placed_fit place [] h = tt
placed_fit place (text ∷ texts) h = (bare_fits text place h.0, placed_fit (record { line = place.line; word = place.word + 1 }) texts h.1)

line_fits : (line : Line) → IsLine line → AllByRecursion Fits (words_on line)
line_fits line h = placed_fit (line_start line) (words_of line.bytes) (words_are line.bytes h)

form_fits : (words : List Token) → AllByRecursion Fits words → AllByRecursion Fits (with_form Break words)
form_fits [] h = tt
form_fits (first ∷ words) h = (break_fits first.text first.place, h.1)

append_fit : (xs ys : List Token) → AllByRecursion Fits xs → AllByRecursion Fits ys → AllByRecursion Fits (xs ++ ys)
append_fit [] ys h k = k
append_fit (x ∷ xs) ys h k = (h.0, append_fit xs ys h.1 k)

-- ## lines that go on with a card

plus_gone : (text rest : List ℕ) → text ≡ 43 ∷ rest → IsWord text → bytes_eq text (codes "+") ≡ false → IsWord (drop 1 text)
plus_gone [] rest e h k = absurd (let n : 0 ≡ suc (length rest) = ap length e in omega arith)
plus_gone (byte ∷ []) rest e h k =
    let same : byte ≡ 43 = ap (λ z. slice_index z 0) e in
    let t : true ≡ false = sym (ap (λ z. bytes_eq (z ∷ []) (codes "+")) same) ∙ k in absurd (let u : true ≡ false = t in cc)
plus_gone (byte ∷ next ∷ bytes) rest e h k =
    record { some = omega arith; plain = (and_both (is_plain Lines byte) (list_all (is_plain Lines) (next ∷ bytes)) h.plain).1 }

-- The first of these texts begins with a plus.
abbrev BeginsWithPlus : List (List ℕ) → Type 0
BeginsWithPlus [] = ⊥
BeginsWithPlus (text ∷ texts) = (rest : List ℕ) × (text ≡ 43 ∷ rest)

-- Words that begin with a byte that separates nothing have a first one that begins with it.
plus_by : (others : List (List ℕ)) → 0 < length others → BeginsWithPlus (filter is_some_word (with_byte 43 others))
plus_by [] h = absurd (let t : 0 < 0 = h in omega arith)
plus_by (text ∷ texts) h = (text, refl)

plus_first : (bytes : List ℕ) → begins_with 43 bytes ≡ true → BeginsWithPlus (words_of bytes)
plus_first [] h = absurd (no_false h)
plus_first (byte ∷ bytes) h =
    let same : byte ≡ 43 = grind (arith, h) in
    subst (λ z. BeginsWithPlus (words_of (z ∷ bytes))) (sym same) (plus_by (parts (is_white Lines) bytes) (parts_some (is_white Lines) bytes))

rest_by : (is : Bool) (place : Place) (text rest : List ℕ) (words : List Token) → bytes_eq text (codes "+") ≡ is → text ≡ 43 ∷ rest → IsWord text →
    AllByRecursion Fits words → AllByRecursion Fits (if is then words else (record { text = drop 1 text; place = place; form = Bare } ∷ words))
rest_by true place text rest words e same word h = h
rest_by false place text rest words e same word h = (bare_fits (drop 1 text) place (plus_gone text rest same word e), h)

goes_on_by : (place : Place) (texts : List (List ℕ)) → AllByRecursion IsWord texts → BeginsWithPlus texts → AllByRecursion Fits (without_plus (placed place texts))
goes_on_by place [] h k = tt
goes_on_by place (text ∷ texts) h k =
    rest_by (bytes_eq text (codes "+")) place text k.0 (placed (record { line = place.line; word = place.word + 1 }) texts) refl k.1 h.0
    (placed_fit (record { line = place.line; word = place.word + 1 }) texts h.1)

goes_on_fit : (line : Line) → IsLine line → begins_with 43 line.bytes ≡ true → AllByRecursion Fits (without_plus (words_on line))
goes_on_fit line h k = goes_on_by (line_start line) (words_of line.bytes) (words_are line.bytes h) (plus_first line.bytes k)

class_by : (a b c d e : Bool) → (if a then (if b then GoesOn else Strays) else if c then Ranges else if d then Passed else if e then Passed else Begins) ≡ GoesOn → a ≡ true
class_by true b c d e h = refl
class_by false b true d e h = absurd (let t : Ranges ≡ GoesOn = h in cc)
class_by false b false true e h = absurd (let t : Passed ≡ GoesOn = h in cc)
class_by false b false false true h = absurd (let t : Passed ≡ GoesOn = h in cc)
class_by false b false false false h = absurd (let t : Begins ≡ GoesOn = h in cc)

goes_on_begins : (before : Before) (line : Line) → class_of before line ≡ GoesOn → begins_with 43 line.bytes ≡ true
goes_on_begins before line h =
    class_by (begins_with 43 line.bytes) (has_card before) (may_range before && names_range (words_on line)) (begins_with 42 line.bytes) (has_none (words_on line)) h

-- A line that goes on with a card begins with a plus.
abbrev IsClassed : Classed → Type 0
IsClassed one = IsLine one.line × (one.class ≡ GoesOn → begins_with 43 one.line.bytes ≡ true)

counted_by : (class : Class) (line : Line) (others : List Classed) → IsLine line → (class ≡ GoesOn → begins_with 43 line.bytes ≡ true) →
    AllByRecursion IsClassed others → AllByRecursion IsClassed (counted_with class line others)
counted_by Passed line others h k all = all
counted_by Begins line others h k all = ((h, k), all)
counted_by GoesOn line others h k all = ((h, k), all)
counted_by Strays line others h k all = ((h, k), all)
counted_by Ranges line others h k all = ((h, k), all)

counted_are : (before : Before) (lines : List Line) → AllByRecursion IsLine lines → AllByRecursion IsClassed (counted before lines)
counted_are before [] h = tt
counted_are before (line ∷ lines) h =
    counted_by (class_of before line) line (counted (open_after before (class_of before line) (words_on line)) lines) h.0 (goes_on_begins before line)
    (counted_are (open_after before (class_of before line) (words_on line)) lines h.1)

-- ## the words of a netlist

given_fit : (class : Class) (line : Line) → IsLine line → (class ≡ GoesOn → begins_with 43 line.bytes ≡ true) → AllByRecursion Fits (given class line)
given_fit Passed line h k = tt
given_fit Begins line h k = line_fits line h
given_fit GoesOn line h k = goes_on_fit line h (k refl)
given_fit Strays line h k = form_fits (words_on line) (line_fits line h)
given_fit Ranges line h k =
    append_fit (with_form Break (words_on line)) (card_end (line_end line) ∷ []) (form_fits (words_on line) (line_fits line h)) (break_fits [] (line_end line), tt)

before_fits : (class : Class) (line : Line) → AllByRecursion Fits (end_before class line)
before_fits Passed line = tt
before_fits Begins line = (break_fits [] (line_start line), tt)
before_fits GoesOn line = tt
before_fits Strays line = (break_fits [] (line_start line), tt)
before_fits Ranges line = tt

card_fits : (others : List Classed) (place : Place) → AllByRecursion Fits (end_of_card others place)
card_fits [] place = (break_fits [] place, tt)
card_fits (next ∷ others) place = before_fits next.class next.line

closing_fits : (class : Class) (others : List Classed) (place : Place) → AllByRecursion Fits (closing class others place)
closing_fits Passed others place = card_fits others place
closing_fits Begins others place = card_fits others place
closing_fits GoesOn others place = card_fits others place
closing_fits Strays others place = card_fits others place
closing_fits Ranges others place = tt

all_fit : (lines : List Classed) (place : Place) → AllByRecursion IsClassed lines → AllByRecursion Fits (words_from lines place)
all_fit [] place h = (end_fits place, tt)
all_fit (one ∷ others) place h =
    append_fit (given one.class one.line ++ closing one.class others place) (words_from others place)
    (append_fit (given one.class one.line) (closing one.class others place) (given_fit one.class one.line h.0.0 h.0.1) (closing_fits one.class others place))
    (all_fit others place h.1)

text_fits : (text : List ℕ) → AllByRecursion Fits (netlist_text text).words
text_fits text =
    all_fit (counted Nothing (without_title (lines_of text))) (end_of (lines_of text))
    (counted_are Nothing (without_title (lines_of text)) (title_gone (lines_of text) (lines_are text)))

-- Each of all.
each_at : (words : List Token) → AllByRecursion Fits words → (k : ℕ) (d : Token) → k < length words → IsCardWord (slice_index_or words k d)
each_at [] h k d lt = absurd (let t : k < 0 = lt in omega arith)
each_at (word ∷ words) h zero d lt = h.0
each_at (word ∷ words) h (suc k) d lt = each_at words h.1 k d (omega arith)

pub words_fit : (text : List ℕ) → All IsCardWord (netlist_text text).words
words_fit text = each_at (netlist_text text).words (text_fits text)
