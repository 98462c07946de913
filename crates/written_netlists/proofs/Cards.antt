-- The cards of a written netlist, line by line, and the units that are read of them.
use Rattle.std.proofs.Common.{◌≡◌, ℕ, ◌+◌, ◌==◌, ◌&&◌, Bool, true, false, List, [], ◌∷◌, ◌++◌, length, codes, refl, sym, ◌∙◌, ap, append_assoc}
use Rattle.std.specs.Prelude.{if◌then◌else◌, flat_map}
use Rattle.std.specs.List.{join_with_byte, AllByRecursion}
use Rattle.std.specs.Str.{bytes_eq}
use Rattle.outside.specs.declared.place.Place.{Place}
use Rattle.reading.specs.declared.word.Form.TheVariants.{Bare, Break}
use Rattle.reading.specs.Pattern.{joined}
use Rattle.reading.specs.Word.{Token, end_at}
use Rattle.netlist_words.specs.Class.{class_of, open_after, opened, has_card, may_range, names_range, has_none}
use Rattle.netlist_words.specs.Line.{Line, numbered, words_of, placed, words_on}
use Rattle.netlist_words.specs.Text.{Classed, counted_with, counted, card_end, with_form, end_of_card, words_from}
use Rattle.written_netlists.proofs.Lines.{IsText, words_back}

-- A card that is written: the text after its letter, its nodes, its value, and perhaps the ends of its range.
pub data CardText : Type 0 where
  Ohms : List ℕ → List ℕ → List ℕ → List ℕ → CardText
  Volts : List ℕ → List ℕ → List ℕ → CardText
  Amps : List ℕ → List ℕ → List ℕ → CardText
  AmpsIn : List ℕ → List ℕ → List ℕ → List ℕ → List ℕ → CardText

abbrev pub zero_text : List ℕ
zero_text = codes "0"

-- The words of its line, and those of the line of its range.
abbrev pub ohms_words : List ℕ → List ℕ → List ℕ → List ℕ → List (List ℕ)
ohms_words tail a b value = (82 ∷ tail) ∷ a ∷ b ∷ value ∷ []

abbrev pub volts_words : List ℕ → List ℕ → List ℕ → List (List ℕ)
volts_words tail a value = (86 ∷ tail) ∷ a ∷ zero_text ∷ value ∷ []

abbrev pub amps_words : List ℕ → List ℕ → List ℕ → List (List ℕ)
amps_words tail a value = (73 ∷ tail) ∷ a ∷ zero_text ∷ value ∷ []

abbrev pub range_words : List ℕ → List ℕ → List (List ℕ)
range_words low high = codes "*range" ∷ low ∷ high ∷ []

abbrev pub line : List (List ℕ) → List ℕ
line words = join_with_byte 32 words

abbrev pub card_lines : CardText → List (List ℕ)
card_lines (Ohms tail a b value) = line (ohms_words tail a b value) ∷ []
card_lines (Volts tail a value) = line (volts_words tail a value) ∷ []
card_lines (Amps tail a value) = line (amps_words tail a value) ∷ []
card_lines (AmpsIn tail a value low high) = line (amps_words tail a value) ∷ line (range_words low high) ∷ []

-- Each of its words is one word of a line.
abbrev pub AreTexts : CardText → Type 0
AreTexts (Ohms tail a b value) = AllByRecursion IsText (ohms_words tail a b value)
AreTexts (Volts tail a value) = AllByRecursion IsText (volts_words tail a value)
AreTexts (Amps tail a value) = AllByRecursion IsText (amps_words tail a value)
AreTexts (AmpsIn tail a value low high) =
    AllByRecursion IsText (amps_words tail a value) × AllByRecursion IsText (range_words low high)

-- ## units

abbrev pub line_at : ℕ → Place
line_at n = record { line = n; word = 1 }

-- The unit of a card on the line of this number.
abbrev pub unit : ℕ → CardText → List Token
unit n (Ohms tail a b value) = placed (line_at n) (ohms_words tail a b value) ++ card_end (line_at (n + 1)) ∷ []
unit n (Volts tail a value) = placed (line_at n) (volts_words tail a value) ++ card_end (line_at (n + 1)) ∷ []
unit n (Amps tail a value) = placed (line_at n) (amps_words tail a value) ++ card_end (line_at (n + 1)) ∷ []
unit n (AmpsIn tail a value low high) =
    placed (line_at n) (amps_words tail a value)
    ++ (with_form Break (placed (line_at (n + 1)) (range_words low high)) ++ card_end (record { line = n + 1; word = 4 }) ∷ [])

-- The number of the line after it.
abbrev pub past : ℕ → CardText → ℕ
past n (Ohms tail a b value) = n + 1
past n (Volts tail a value) = n + 1
past n (Amps tail a value) = n + 1
past n (AmpsIn tail a value low high) = n + 1 + 1

abbrev pub units : ℕ → List CardText → List (List Token)
units n [] = []
units n (card ∷ cards) = unit n card ∷ units (past n card) cards

abbrev pub past_all : ℕ → List CardText → ℕ
past_all n [] = n
past_all n (card ∷ cards) = past_all (past n card) cards

-- The words of the line before the next one, of which `opened` says what stands before that one; none after a range.
abbrev pub leaves : CardText → List Token
leaves (Ohms tail a b value) = placed (line_at 1) (ohms_words tail a b value)
leaves (Volts tail a value) = placed (line_at 1) (volts_words tail a value)
leaves (Amps tail a value) = placed (line_at 1) (amps_words tail a value)
leaves (AmpsIn tail a value low high) = []

abbrev pub leave : List Token → List CardText → List Token
leave before [] = before
leave before (card ∷ cards) = leave (leaves card) cards

-- ## lines that begin a card

-- A line that begins with this byte is no comment, goes on with no card and has no range.
record IsOpening (c : ℕ) : Type 0 where
  no_plus : (c == 43) ≡ false
  no_star : (c == 42) ≡ false
  no_range : (tail : List ℕ) → bytes_eq (c ∷ tail) (codes "*range") ≡ false

opening_82 : IsOpening 82
opening_82 = record { no_plus = refl; no_star = refl; no_range = λ tail. refl }

opening_86 : IsOpening 86
opening_86 = record { no_plus = refl; no_star = refl; no_range = λ tail. refl }

opening_73 : IsOpening 73
opening_73 = record { no_plus = refl; no_star = refl; no_range = λ tail. refl }

begins_by : {C : Type 0} (goes_on strays ranges passed begins : C) (plus card may range star none : Bool) → plus ≡ false → range ≡ false → star ≡ false → none ≡ false →
    (if plus then (if card then goes_on else strays) else if may && range then ranges else if star then passed else if none then passed else begins) ≡ begins
begins_by a b c d e true card may range star none p r s n = absurd (let t : true ≡ false = p in cc)
begins_by a b c d e false card may true star none p r s n = absurd (let t : true ≡ false = r in cc)
begins_by a b c d e false card may false true none p r s n = absurd (let t : true ≡ false = s in cc)
begins_by a b c d e false card may false false true p r s n = absurd (let t : true ≡ false = n in cc)
begins_by a b c d e false card true false false false p r s n = refl
begins_by a b c d e false card false false false false p r s n = refl

-- A line that begins a card, one that has a range after a load, and one that is passed over.
abbrev a_card : Line
a_card = record { number = 1; bytes = codes "R" }

abbrev a_load : List Token
a_load = placed (line_at 1) (codes "I" ∷ [])

abbrev a_range : Line
a_range = record { number = 1; bytes = codes "*range" }

abbrev a_comment : Line
a_comment = record { number = 1; bytes = codes "*" }

abbrev begun : Line → Classed
begun line = record { class = class_of (opened []) a_card; line = line }

abbrev ranged : Line → Classed
ranged line = record { class = class_of (opened a_load) a_range; line = line }

-- The line of these words, and its number.
abbrev at : ℕ → List (List ℕ) → Line
at n words = record { number = n; bytes = line words }

card_class : (before : List Token) (n c : ℕ) (tail second : List ℕ) (others : List (List ℕ)) → IsOpening c →
    AllByRecursion IsText ((c ∷ tail) ∷ second ∷ others) → class_of (opened before) (at n ((c ∷ tail) ∷ second ∷ others)) ≡ class_of (opened []) a_card
card_class before n c tail second others is texts =
    let words : List (List ℕ) = (c ∷ tail) ∷ second ∷ others in
    let same : words_of (line words) ≡ words = words_back words texts in
    begins_by _ _ _ _ _ (c == 43) (has_card (opened before)) (may_range (opened before)) (names_range (words_on (at n words))) (c == 42) (has_none (words_on (at n words)))
    is.no_plus (ap (λ z. names_range (placed (line_at n) z)) same ∙ is.no_range tail) is.no_star (ap (λ z. has_none (placed (line_at n) z)) same)

-- What the lines give, the first of which begins a card.
card_counted : (before : List Token) (n c : ℕ) (tail second : List ℕ) (others more : List (List ℕ)) → IsOpening c →
    AllByRecursion IsText ((c ∷ tail) ∷ second ∷ others) →
    counted (opened before) (numbered n (line ((c ∷ tail) ∷ second ∷ others) ∷ more))
    ≡ begun (at n ((c ∷ tail) ∷ second ∷ others)) ∷ counted (opened (placed (line_at n) ((c ∷ tail) ∷ second ∷ others))) (numbered (n + 1) more)
card_counted before n c tail second others more is texts =
    let words : List (List ℕ) = (c ∷ tail) ∷ second ∷ others in
    ap (λ z. counted_with z (at n words) (counted (open_after (opened before) z (words_on (at n words))) (numbered (n + 1) more)))
    (card_class before n c tail second others is texts)
    ∙ ap (λ z. begun (at n words) ∷ counted (opened (placed (line_at n) z)) (numbered (n + 1) more)) (words_back words texts)

-- The first of these lines ends the card before it.
abbrev pub Opens : List (List ℕ) → Type 0
Opens more = (before : List Token) (n : ℕ) (end : Place) → end_of_card (counted (opened before) (numbered n more)) end ≡ card_end (line_at n) ∷ []

card_opens : (c : ℕ) (tail second : List ℕ) (others more : List (List ℕ)) → IsOpening c → AllByRecursion IsText ((c ∷ tail) ∷ second ∷ others) →
    Opens (line ((c ∷ tail) ∷ second ∷ others) ∷ more)
card_opens c tail second others more is texts before n end = ap (λ z. end_of_card z end) (card_counted before n c tail second others more is texts)

pub opens : (cards : List CardText) (more : List (List ℕ)) → AllByRecursion AreTexts cards → Opens more → Opens (flat_map card_lines cards ++ more)
opens [] more h o = o
opens (Ohms tail a b value ∷ cards) more h o = card_opens 82 tail a (b ∷ value ∷ []) (flat_map card_lines cards ++ more) opening_82 h.0
opens (Volts tail a value ∷ cards) more h o = card_opens 86 tail a (zero_text ∷ value ∷ []) (flat_map card_lines cards ++ more) opening_86 h.0
opens (Amps tail a value ∷ cards) more h o = card_opens 73 tail a (zero_text ∷ value ∷ []) (flat_map card_lines cards ++ more) opening_73 h.0
opens (AmpsIn tail a value low high ∷ cards) more h o =
    card_opens 73 tail a (zero_text ∷ value ∷ []) (line (range_words low high) ∷ (flat_map card_lines cards ++ more)) opening_73 h.0.0

-- ## words

-- The words of a card of one line.
card_words : (before : List Token) (n c : ℕ) (tail second : List ℕ) (others more : List (List ℕ)) (end : Place) → IsOpening c →
    AllByRecursion IsText ((c ∷ tail) ∷ second ∷ others) → Opens more →
    words_from (counted (opened before) (numbered n (line ((c ∷ tail) ∷ second ∷ others) ∷ more))) end
    ≡ (placed (line_at n) ((c ∷ tail) ∷ second ∷ others) ++ card_end (line_at (n + 1)) ∷ [])
    ++ words_from (counted (opened (placed (line_at n) ((c ∷ tail) ∷ second ∷ others))) (numbered (n + 1) more)) end
card_words before n c tail second others more end is texts o =
    let words : List (List ℕ) = (c ∷ tail) ∷ second ∷ others in
    let next : List Token = placed (line_at n) words in
    let rest : List Token = words_from (counted (opened next) (numbered (n + 1) more)) end in
    ap (λ z. words_from z end) (card_counted before n c tail second others more is texts)
    ∙ ap (λ z. (placed (line_at n) z ++ end_of_card (counted (opened next) (numbered (n + 1) more)) end) ++ rest) (words_back words texts)
    ∙ ap (λ z. (placed (line_at n) words ++ z) ++ rest) (o next (n + 1) end)

range_by : {C : Type 0} (ranges passed : C) (b : Bool) → b ≡ true → (if b then ranges else passed) ≡ ranges
range_by ranges passed true e = refl
range_by ranges passed false e = absurd (let t : false ≡ true = e in cc)

range_class : (n : ℕ) (low high : List ℕ) → AllByRecursion IsText (range_words low high) → class_of (opened a_load) (at n (range_words low high)) ≡ class_of (opened a_load) a_range
range_class n low high texts =
    range_by (class_of (opened a_load) a_range) (class_of (opened []) a_comment) (names_range (words_on (at n (range_words low high)))) (ap (λ z. names_range (placed (line_at n) z)) (words_back (range_words low high) texts))

range_counted : (n : ℕ) (low high : List ℕ) (more : List (List ℕ)) → AllByRecursion IsText (range_words low high) →
    counted (opened a_load) (numbered n (line (range_words low high) ∷ more)) ≡ ranged (at n (range_words low high)) ∷ counted (opened []) (numbered (n + 1) more)
range_counted n low high more texts =
    ap (λ z. counted_with z (at n (range_words low high)) (counted (open_after (opened a_load) z (words_on (at n (range_words low high)))) (numbered (n + 1) more)))
    (range_class n low high texts)

-- The words of a load with its range.
range_back : (before : List Token) (n : ℕ) (tail a value low high : List ℕ) (more : List (List ℕ)) (end : Place) → AreTexts (AmpsIn tail a value low high) →
    words_from (counted (opened before) (numbered n (line (amps_words tail a value) ∷ line (range_words low high) ∷ more))) end
    ≡ unit n (AmpsIn tail a value low high) ++ words_from (counted (opened []) (numbered (n + 1 + 1) more)) end
range_back before n tail a value low high more end texts =
    let first : List (List ℕ) = amps_words tail a value in
    let second : List (List ℕ) = range_words low high in
    let one : Classed = begun (at n first) in
    let two : Classed = ranged (at (n + 1) second) in
    let others : List Classed = counted (opened []) (numbered (n + 1 + 1) more) in
    ap (λ z. words_from z end) (card_counted before n 73 tail a (zero_text ∷ value ∷ []) (line second ∷ more) opening_73 texts.0)
    ∙ ap (λ z. words_from (one ∷ z) end) (range_counted (n + 1) low high more texts.1)
    ∙ ap (λ z. (placed (line_at n) z ++ []) ++ words_from (two ∷ others) end) (words_back first texts.0)
    ∙ ap (λ z. (placed (line_at n) first ++ []) ++ (((with_form Break (placed (line_at (n + 1)) z) ++ card_end (record { line = n + 1; word = 1 + length z }) ∷ []) ++ []) ++ words_from others end))
    (words_back second texts.1)

-- The words of all cards.
pub words_are : (cards : List CardText) (n : ℕ) (before : List Token) (more : List (List ℕ)) (end : Place) → AllByRecursion AreTexts cards → Opens more →
    words_from (counted (opened before) (numbered n (flat_map card_lines cards ++ more))) end
    ≡ joined (units n cards) ++ words_from (counted (opened (leave before cards)) (numbered (past_all n cards) more)) end
words_are [] n before more end h o = refl
words_are (Ohms tail a b value ∷ cards) n before more end h o =
    card_words before n 82 tail a (b ∷ value ∷ []) (flat_map card_lines cards ++ more) end opening_82 h.0 (opens cards more h.1 o)
    ∙ ap (λ z. unit n (Ohms tail a b value) ++ z) (words_are cards (n + 1) (leaves (Ohms tail a b value)) more end h.1 o)
    ∙ sym (append_assoc (unit n (Ohms tail a b value)) (joined (units (n + 1) cards)) (words_from (counted (opened (leave (leaves (Ohms tail a b value)) cards)) (numbered (past_all (n + 1) cards) more)) end))
words_are (Volts tail a value ∷ cards) n before more end h o =
    card_words before n 86 tail a (zero_text ∷ value ∷ []) (flat_map card_lines cards ++ more) end opening_86 h.0 (opens cards more h.1 o)
    ∙ ap (λ z. unit n (Volts tail a value) ++ z) (words_are cards (n + 1) (leaves (Volts tail a value)) more end h.1 o)
    ∙ sym (append_assoc (unit n (Volts tail a value)) (joined (units (n + 1) cards)) (words_from (counted (opened (leave (leaves (Volts tail a value)) cards)) (numbered (past_all (n + 1) cards) more)) end))
words_are (Amps tail a value ∷ cards) n before more end h o =
    card_words before n 73 tail a (zero_text ∷ value ∷ []) (flat_map card_lines cards ++ more) end opening_73 h.0 (opens cards more h.1 o)
    ∙ ap (λ z. unit n (Amps tail a value) ++ z) (words_are cards (n + 1) (leaves (Amps tail a value)) more end h.1 o)
    ∙ sym (append_assoc (unit n (Amps tail a value)) (joined (units (n + 1) cards)) (words_from (counted (opened (leave (leaves (Amps tail a value)) cards)) (numbered (past_all (n + 1) cards) more)) end))
words_are (AmpsIn tail a value low high ∷ cards) n before more end h o =
    range_back before n tail a value low high (flat_map card_lines cards ++ more) end h.0
    ∙ ap (λ z. unit n (AmpsIn tail a value low high) ++ z) (words_are cards (n + 1 + 1) [] more end h.1 o)
    ∙ sym (append_assoc (unit n (AmpsIn tail a value low high)) (joined (units (n + 1 + 1) cards)) (words_from (counted (opened (leave [] cards)) (numbered (past_all (n + 1 + 1) cards) more)) end))

-- ## the last lines

abbrev pub last_lines : List (List ℕ)
last_lines = codes ".op" ∷ codes ".end" ∷ [] ∷ []

dot_class : (before : List Token) (n : ℕ) (tail : List ℕ) → words_of (46 ∷ tail) ≡ (46 ∷ tail) ∷ [] → class_of (opened before) (record { number = n; bytes = 46 ∷ tail }) ≡ class_of (opened []) a_card
dot_class before n tail same =
    let here : Line = record { number = n; bytes = 46 ∷ tail } in
    begins_by (class_of (opened []) a_card) (class_of (opened []) a_card) (class_of (opened a_load) a_range) (class_of (opened []) a_comment) (class_of (opened []) a_card) false (has_card (opened before)) (may_range (opened before)) (names_range (words_on here)) false (has_none (words_on here))
    refl (ap (λ z. names_range (placed (line_at n) z)) same) refl (ap (λ z. has_none (placed (line_at n) z)) same)

op_counted : (before : List Token) (n : ℕ) → counted (opened before) (numbered n last_lines)
    ≡ begun (record { number = n; bytes = codes ".op" }) ∷ begun (record { number = n + 1; bytes = codes ".end" }) ∷ []
op_counted before n =
    let here : Line = record { number = n; bytes = codes ".op" } in
    ap (λ z. counted_with z here (counted (open_after (opened before) z (words_on here)) (numbered (n + 1) (codes ".end" ∷ [] ∷ [])))) (dot_class before n (codes "op") refl)

pub last_opens : Opens last_lines
last_opens before n end = ap (λ z. end_of_card z end) (op_counted before n)

abbrev pub word_at : ℕ → List ℕ → Token
word_at n text = record { text = text; place = line_at n; form = Bare }

-- The units of the last lines, and what stands after `.end`.
abbrev pub last_units : ℕ → List (List Token)
last_units n = (word_at n (codes ".op") ∷ []) ∷ (card_end (line_at (n + 1)) ∷ []) ∷ (word_at (n + 1) (codes ".end") ∷ []) ∷ []

abbrev pub rest_of : Place → List Token
rest_of end = card_end end ∷ end_at end ∷ []

pub last_words : (before : List Token) (n : ℕ) (end : Place) → words_from (counted (opened before) (numbered n last_lines)) end ≡ joined (last_units n) ++ rest_of end
last_words before n end = ap (λ z. words_from z end) (op_counted before n)
