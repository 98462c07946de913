-- How many words a netlist has.
use Rattle.std.proofs.Common.{◌≡◌, ℕ, suc, ◌+◌, ◌≤◌, ◌==◌, Bool, true, false, if◌then◌else◌, List, [], ◌∷◌, ◌++◌, length, filter, drop, codes, refl, ap, arith, length-append}
use Rattle.std.specs.Str.{bytes_eq}
use Rattle.outside.specs.declared.place.Place.{Place}
use Rattle.reading.specs.declared.word.Form.{Form}
use Rattle.reading.specs.declared.word.Form.TheVariants.{Break}
use Rattle.reading.specs.Word.{Token}
use Rattle.text_lex.specs.Bytes.{is_white}
use Rattle.text_lex.specs.declared.word.Mode.TheVariants.{Lines}
use Rattle.netlist_words.specs.declared.class.Class.{Class}
use Rattle.netlist_words.specs.declared.class.Class.TheVariants.{Passed, Begins, GoesOn, Strays, Ranges}
use Rattle.netlist_words.specs.declared.class.Before.{Before}
use Rattle.netlist_words.specs.declared.class.Before.TheVariants.{Nothing}
use Rattle.netlist_words.specs.Class.{class_of, open_after}
use Rattle.netlist_words.specs.Line.{Line, with_byte, parts, numbered, lines_of, is_some_word, words_of, placed, words_on, line_start, line_end, end_of}
use Rattle.netlist_words.specs.Title.{is_title, without_title}
use Rattle.netlist_words.specs.Text.{Classed, card_end, counted, counted_with, without_plus, with_form, given, end_before, end_of_card, closing, words_from, netlist_text}

-- ## words of a line

words_begun : (byte : ℕ) (texts : List (List ℕ)) → length (filter is_some_word (with_byte byte texts)) ≤ 1 + length (filter is_some_word texts)
words_begun byte [] = omega arith
words_begun byte ([] ∷ texts) = omega arith
words_begun byte ((x ∷ xs) ∷ texts) = omega arith

words_by : (is : Bool) (byte : ℕ) (texts : List (List ℕ)) (n : ℕ) → length (filter is_some_word texts) ≤ n → length (filter is_some_word (if is then ([] ∷ texts) else with_byte byte texts)) ≤ 1 + n
words_by true byte texts n h = omega arith
words_by false byte texts n h = let more = words_begun byte texts in omega arith

words_few : (bytes : List ℕ) → length (words_of bytes) ≤ length bytes
words_few [] = omega arith
words_few (byte ∷ bytes) = let h = words_by (is_white Lines byte) byte (parts (is_white Lines) bytes) (length bytes) (words_few bytes) in omega arith

placed_same : (place : Place) (texts : List (List ℕ)) → length (placed place texts) ≡ length texts
placed_same place [] = refl
placed_same place (text ∷ texts) = ap suc (placed_same (record { line = place.line; word = place.word + 1 }) texts)

line_few : (line : Line) → length (words_on line) ≤ length line.bytes
line_few line = let same = placed_same (line_start line) (words_of line.bytes) in let few = words_few line.bytes in omega arith

plus_by : (is : Bool) (first : Token) (words : List Token) → length (if is then words else (first ∷ words)) ≤ suc (length words)
plus_by true first words = omega arith
plus_by false first words = omega arith

-- ## bytes of lines

-- How many bytes there are, and a line feed for each line.
abbrev bytes_of : List (List ℕ) → ℕ
bytes_of [] = 0
bytes_of (bytes ∷ others) = length bytes + 1 + bytes_of others

abbrev bytes_in : List Line → ℕ
bytes_in [] = 0
bytes_in (line ∷ lines) = length line.bytes + 1 + bytes_in lines

bytes_begun : (byte : ℕ) (texts : List (List ℕ)) (n : ℕ) → bytes_of texts ≡ n + 1 → bytes_of (with_byte byte texts) ≡ n + 1 + 1
bytes_begun byte [] n h = absurd (let t : 0 ≡ n + 1 = h in omega arith)
bytes_begun byte (text ∷ texts) n h = let t : length text + 1 + bytes_of texts ≡ n + 1 = h in omega arith

bytes_by : (is : Bool) (byte : ℕ) (texts : List (List ℕ)) (n : ℕ) → bytes_of texts ≡ n + 1 → bytes_of (if is then ([] ∷ texts) else with_byte byte texts) ≡ n + 1 + 1
bytes_by true byte texts n h = omega arith
bytes_by false byte texts n h = bytes_begun byte texts n h

parts_bytes : (separates : ℕ → Bool) (bytes : List ℕ) → bytes_of (parts separates bytes) ≡ length bytes + 1
parts_bytes separates [] = refl
parts_bytes separates (byte ∷ bytes) = let h = bytes_by (separates byte) byte (parts separates bytes) (length bytes) (parts_bytes separates bytes) in omega arith

numbered_bytes : (number : ℕ) (texts : List (List ℕ)) → bytes_in (numbered number texts) ≡ bytes_of texts
numbered_bytes number [] = refl
numbered_bytes number (text ∷ texts) = let h = numbered_bytes (number + 1) texts in omega arith

lines_bytes : (text : List ℕ) → bytes_in (lines_of text) ≡ length text + 1
lines_bytes text =
    let all = parts (λ byte. byte == 10) text in
    let one = numbered_bytes 1 all in
    let two = parts_bytes (λ byte. byte == 10) text in
    omega arith

title_by : (is : Bool) (line : Line) (lines : List Line) → bytes_in (if is then lines else (line ∷ lines)) ≤ bytes_in (line ∷ lines)
title_by true line lines = omega arith
title_by false line lines = omega arith

title_bytes : (lines : List Line) → bytes_in (without_title lines) ≤ bytes_in lines
title_bytes [] = omega arith
title_bytes (line ∷ lines) = title_by (is_title line) line lines

-- ## lines that count

abbrev counted_bytes : List Classed → ℕ
counted_bytes [] = 0
counted_bytes (one ∷ others) = length one.line.bytes + 1 + counted_bytes others

counted_by : (class : Class) (line : Line) (others : List Classed) (n : ℕ) → counted_bytes others ≤ n → counted_bytes (counted_with class line others) ≤ length line.bytes + 1 + n
counted_by Passed line others n h = omega arith
counted_by Begins line others n h = omega arith
counted_by GoesOn line others n h = omega arith
counted_by Strays line others n h = omega arith
counted_by Ranges line others n h = omega arith

counted_few : (before : Before) (lines : List Line) → counted_bytes (counted before lines) ≤ bytes_in lines
counted_few before [] = omega arith
counted_few before (line ∷ lines) =
    let class = class_of before line in
    let next = open_after before class (words_on line) in
    counted_by class line (counted next lines) (bytes_in lines) (counted_few next lines)

formed_same : (form : Form) (words : List Token) → length (with_form form words) ≡ length words
formed_same form [] = refl
formed_same form (first ∷ words) = refl

plus_few : (words : List Token) → length (without_plus words) ≤ length words
plus_few [] = omega arith
plus_few (first ∷ words) = plus_by (bytes_eq first.text (codes "+")) (record { text = drop 1 first.text; place = first.place; form = first.form }) words

before_few : (class : Class) (line : Line) → length (end_before class line) ≤ 1
before_few Passed line = omega arith
before_few Begins line = omega arith
before_few GoesOn line = omega arith
before_few Strays line = omega arith
before_few Ranges line = omega arith

end_few : (others : List Classed) (end : Place) → length (end_of_card others end) ≤ 1
end_few [] end = omega arith
end_few (next ∷ others) end = before_few next.class next.line

-- A line gives no more words than it has bytes, and one more, its own end or that of the card before the next line.
given_few : (class : Class) (line : Line) (others : List Classed) (end : Place) → length (given class line) + length (closing class others end) ≤ length line.bytes + 1
given_few Passed line others end = let one = end_few others end in omega arith
given_few Begins line others end = let one = end_few others end in let few = line_few line in omega arith
given_few GoesOn line others end = let one = end_few others end in let few = line_few line in let plus = plus_few (words_on line) in omega arith
given_few Strays line others end = let one = end_few others end in let few = line_few line in let same = formed_same Break (words_on line) in omega arith
given_few Ranges line others end =
    let few = line_few line in
    let same = formed_same Break (words_on line) in
    let both = length-append (with_form Break (words_on line)) (card_end (line_end line) ∷ []) in
    omega arith

words_from_few : (lines : List Classed) (end : Place) → length (words_from lines end) ≤ counted_bytes lines + 1
words_from_few [] end = omega arith
words_from_few (one ∷ others) end =
    let few = given_few one.class one.line others end in
    let more = words_from_few others end in
    let words : length (words_from (one ∷ others) end) ≡ length ((given one.class one.line ++ closing one.class others end) ++ words_from others end) = refl in
    let all = length-append (given one.class one.line ++ closing one.class others end) (words_from others end) in
    let front = length-append (given one.class one.line) (closing one.class others end) in
    omega arith

-- A netlist has at most two words more than bytes.
pub netlist_few : (text : List ℕ) → length (netlist_text text).words ≤ length text + 2
netlist_few text =
    let lines = without_title (lines_of text) in
    let words = words_from_few (counted Nothing lines) (end_of (lines_of text)) in
    let counts = counted_few Nothing lines in
    let title = title_bytes (lines_of text) in
    let all = lines_bytes text in
    omega arith
