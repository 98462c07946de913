-- The names of a netlist's nodes are words of its lines.
use Rattle.std.proofs.Common.{◌≡◌, ℕ, zero, suc, ◌+◌, ◌<◌, ◌≤◌, ◌==◌, ◌&&◌, ◌||◌, not, cond, Bool, true, false, if◌then◌else◌, List, [], ◌∷◌, ◌++◌, length, codes, Option, Some, None, refl, sym, ◌∙◌, ap, subst, arith, inl, inr}
use Rattle.std.specs.Prelude.{All, Contains, slice_index, slice_index_or, flat_map, nat_lt}
use Rattle.std.specs.List.{AllByRecursion, list_all, cons_option}
use Rattle.std.specs.Char.{to_ascii_lowercase}
use Rattle.std.specs.Str.{bytes_eq}
use Rattle.std.proofs.lemmas.List.{length-map}
use Rattle.outside.specs.declared.place.Place.{Place}
use Rattle.text_lex.specs.declared.word.Mode.TheVariants.{Lines}
use Rattle.text_lex.specs.Bytes.{is_plain}
use Rattle.text_lex.specs.Piece.{IsBare}
use Rattle.reading.specs.Pattern.{Pattern, One, Then, Or, Matches, joined}
use Rattle.reading.specs.Reading.{Follows}
use Rattle.reading.specs.Word.{Token, end_at, end_after, next_on_line}
use Rattle.netlist_words.specs.CardWord.{IsCardWord}
use Rattle.netlist_words.specs.Text.{netlist_text}
use Rattle.node_names.specs.Folding.{folded}
use Rattle.spice_cards.specs.declared.section.Section.{Section}
use Rattle.spice_cards.specs.declared.section.Section.TheVariants as sections
use Rattle.spice_cards.specs.declared.sort.Sort.{Sort}
use Rattle.spice_cards.specs.declared.sort.Sort.TheVariants as sorts
use Rattle.spice_cards.specs.Sort.{the, sort_of, sort_with, sort_of_end}
use Rattle.spice_cards.specs.Rule.{is_name, is_single, is_passed, name, number, end, value, dc, load_end, pattern}
use Rattle.spice_cards.specs.Section.{section_of}
use Rattle.spice_cards.specs.Card.{Card, Resistor, Source, Load, Capacitor, is_ground, without_dc, card_with, resistor_with, source_with, load_with, capacitor_with, card_of, cards_of}
use Rattle.spice_cards.specs.Record.{nodes_of, source_nodes, but_ground}
use Rattle.spice_cards.specs.Format.{format, IsNetlist}

-- ## the words of units

-- Where the word stands for a name, it is one word of a line.
abbrev Fits : Token → Type 0
Fits word = is_name (sort_of word) ≡ true → IsBare Lines true word.text []

no_false : false ≡ true → ⊥
no_false h = cc

break_by : (is : Bool) → is_name (if is then sorts.Range else sorts.Stray) ≡ true → ⊥
break_by true h = no_false h
break_by false h = no_false h

break_no_name : (text : List ℕ) → is_name (sort_of_end text) ≡ true → ⊥
break_no_name [] h = no_false h
break_no_name (byte ∷ bytes) h = break_by (bytes_eq (byte ∷ bytes) (codes "*range")) h

fits_by : (word : Token) → IsCardWord word → Fits word
fits_by word (inl bare) = λ h. bare.1
fits_by word (inr (inl form)) = λ h. absurd (break_no_name word.text (sym (ap (λ z. is_name (sort_with z word.text)) form) ∙ h))
fits_by word (inr (inr form)) = λ h. absurd (no_false (sym (ap (λ z. is_name (sort_with z word.text)) form) ∙ h))

all_tail : (x : Token) (xs : List Token) → All IsCardWord (x ∷ xs) → All IsCardWord xs
all_tail x xs h = λ k d lt. h (suc k) d (omega arith)

all_fit : (words : List Token) → All IsCardWord words → AllByRecursion Fits words
all_fit [] h = tt
all_fit (word ∷ words) h = (fits_by word (h 0 word (omega arith)), all_fit words (all_tail word words h))

-- What is known of the words of a netlist.
abbrev pub WordsFit : List ℕ → Type 0
WordsFit text = All IsCardWord (netlist_text text).words

end_fits : (place : Place) → Fits (end_at place)
end_fits place = λ h. absurd (no_false h)

append_fit : (xs ys : List Token) → AllByRecursion Fits xs → AllByRecursion Fits ys → AllByRecursion Fits (xs ++ ys)
append_fit [] ys h k = k
append_fit (x ∷ xs) ys h k = (h.0, append_fit xs ys h.1 k)

first_fit : (xs ys : List Token) → AllByRecursion Fits (xs ++ ys) → AllByRecursion Fits xs
first_fit [] ys h = tt
first_fit (x ∷ xs) ys h = (h.0, first_fit xs ys h.1)

last_fits : (xs ys : List Token) → AllByRecursion Fits (xs ++ ys) → AllByRecursion Fits ys
last_fits [] ys h = h
last_fits (x ∷ xs) ys h = last_fits xs ys h.1

after_fits : (words : List Token) → Fits (end_after words)
after_fits [] = end_fits (record { line = 1; word = 1 })
after_fits (word ∷ []) = end_fits (next_on_line word.place)
after_fits (word ∷ next ∷ words) = after_fits (next ∷ words)

units_fit : (text : List ℕ) (units : List (List Token)) → WordsFit text → IsNetlist text units → AllByRecursion Fits (joined units)
units_fit text units fit (heard, hears, read) = elim hears [
  | inl whole ↦ subst (λ z. AllByRecursion Fits z) (sym (ap (λ z. z.words) whole.1) ∙ read.is) (all_fit (netlist_text text).words fit)
  | inr ended ↦
      let front : List Token = joined ended.0 in
      let those : AllByRecursion Fits front = first_fit front ended.1.rest (subst (λ z. AllByRecursion Fits z) ended.1.is (all_fit (netlist_text text).words fit)) in
      subst (λ z. AllByRecursion Fits z) (sym (ap (λ z. z.words) ended.4) ∙ read.is) (append_fit front (end_after front ∷ []) those (after_fits front, tt))
]

-- ## the nodes of a card

-- A unit of three words and more, whose second and third are names.
record NamesTwo (unit : List Token) : Type 0 where
  first : Token
  a : Token
  b : Token
  more : List Token
  is : unit ≡ first ∷ a ∷ b ∷ more
  a_named : is_name (sort_of a) ≡ true
  b_named : is_name (sort_of b) ≡ true

names_two : (class : Sort → Bool) (rest : Pattern Sort) (unit : List Token) → Matches sort_of (Then (One class) (Then name (Then name rest))) unit → NamesTwo unit
names_two class rest unit h = record {
  first = h.2.0;
  a = h.3.2.0;
  b = h.3.3.2.0;
  more = h.3.3.1;
  is = h.4 ∙ ap (λ z. z ++ h.1) h.2.2
      ∙ ap (λ z. h.2.0 ∷ z) (h.3.4 ∙ ap (λ z. z ++ h.3.1) h.3.2.2
      ∙ ap (λ z. h.3.2.0 ∷ z) (h.3.3.4 ∙ ap (λ z. z ++ h.3.3.1) h.3.3.2.2));
  a_named = h.3.2.1;
  b_named = h.3.3.2.1;
}

begins_by : (p q r : Bool) → (not (p && false) && not (q && false) && not (r && false)) ≡ true
begins_by true true true = refl
begins_by true true false = refl
begins_by true false true = refl
begins_by true false false = refl
begins_by false true true = refl
begins_by false true false = refl
begins_by false false true = refl
begins_by false false false = refl

and_true : (a b : Bool) → a ≡ true → b ≡ true → (a && b) ≡ true
and_true true b h k = k
and_true false b h k = absurd (let t : false ≡ true = h in cc)

and_both : (a b : Bool) → (a && b) ≡ true → (a ≡ true) × (b ≡ true)
and_both true b h = (refl, h)
and_both false b h = absurd (let t : false ≡ true = h in cc)

abbrev Each : (ℕ → Bool) → List ℕ → Type 0
Each test part = list_all test part ≡ true

differs_by : (c n : ℕ) (b : Bool) → (c == n) ≡ b → (c ≡ n → ⊥) → (c == n) ≡ false
differs_by c n true e h = absurd (h (grind (arith, e)))
differs_by c n false e h = e

differs : (c n : ℕ) → (c ≡ n → ⊥) → (c == n) ≡ false
differs c n h = differs_by c n (c == n) refl h

four_by : (a b c d : Bool) → a ≡ false → b ≡ false → c ≡ false → d ≡ false →
    (not (a || b || c || (d && false)) && not d && true) ≡ true
four_by false false false false e f g h = refl
four_by true b c d e f g h = absurd (no_false (sym e))
four_by false true c d e f g h = absurd (no_false (sym f))
four_by false false true d e f g h = absurd (no_false (sym g))
four_by false false false true e f g h = absurd (no_false (sym h))

-- A byte past the blank is no white space.
letter_plain : (c : ℕ) → 33 ≤ c → is_plain Lines c ≡ true
letter_plain c low =
    four_by (c == 32) (c == 9) (c == 13) (c == 10)
    (differs c 32 (λ e. omega arith)) (differs c 9 (λ e. omega arith)) (differs c 13 (λ e. omega arith)) (differs c 10 (λ e. omega arith))

lower_by : (byte : ℕ) (low high : Bool) → nat_lt byte 65 ≡ low → nat_lt byte 91 ≡ high → is_plain Lines byte ≡ true → is_plain Lines (cond low byte (cond high (byte + 32) byte)) ≡ true
lower_by byte true high e f h = h
lower_by byte false false e f h = h
lower_by byte false true e f h =
    let low : 65 ≤ byte = grind (arith, e) in
    letter_plain (byte + 32) (omega arith)

folded_plain : (bytes : List ℕ) → Each (is_plain Lines) bytes → Each (is_plain Lines) (folded bytes)
folded_plain [] h = refl
folded_plain (byte ∷ bytes) h =
    let t = and_both (is_plain Lines byte) (list_all (is_plain Lines) bytes) h in
    and_true (is_plain Lines (to_ascii_lowercase byte)) (list_all (is_plain Lines) (folded bytes))
    (lower_by byte (nat_lt byte 65) (nat_lt byte 91) refl refl t.0) (folded_plain bytes t.1)

folded_word : (text : List ℕ) → IsBare Lines true text [] → IsBare Lines true (folded text) []
folded_word text word = record {
  some = (let same : length (folded text) ≡ length text = length-map text to_ascii_lowercase in let some : 0 < length text = word.some in omega arith);
  begins = begins_by (slice_index (folded text) 0 == 35) (slice_index (folded text) 0 == 34) (slice_index (folded text) 0 == 123);
  plain = folded_plain text word.plain;
  ends = refl;
}

abbrev AreWords : List (List ℕ) → Type 0
AreWords names = AllByRecursion (λ text. IsBare Lines true text []) names

append_words : (xs ys : List (List ℕ)) → AreWords xs → AreWords ys → AreWords (xs ++ ys)
append_words [] ys h k = k
append_words (x ∷ xs) ys h k = (h.0, append_words xs ys h.1 k)

source_words : (s t : Bool) (a b : List ℕ) → IsBare Lines true a [] → IsBare Lines true b [] → AreWords (source_nodes s t a b)
source_words true true a b h k = (folded_word a h, tt)
source_words true false a b h k = (folded_word b k, tt)
source_words false true a b h k = (folded_word a h, tt)
source_words false false a b h k = (folded_word a h, (folded_word b k, tt))

ground_by : (is : Bool) (a : List ℕ) → IsBare Lines true a [] → AreWords (if is then [] else (folded a ∷ []))
ground_by true a h = tt
ground_by false a h = (folded_word a h, tt)

ground_words : (a : List ℕ) → IsBare Lines true a [] → AreWords (but_ground a)
ground_words a h = ground_by (is_ground a) a h

load_words : (a b : List ℕ) → IsBare Lines true a [] → IsBare Lines true b [] → AreWords (but_ground a ++ but_ground b)
load_words a b h k = append_words (but_ground a) (but_ground b) (ground_words a h) (ground_words b k)

none_there : (card : Card) → None ≡ Some card → ⊥
none_there card h = cc

some_is : (x y : Card) → Some x ≡ Some y → x ≡ y
some_is x y h = cc

resistor_words : (a b : List ℕ) (words : List Token) (card : Card) → IsBare Lines true a [] → IsBare Lines true b [] → resistor_with a b words ≡ Some card → AreWords (nodes_of card)
resistor_words a b [] card h k e = absurd (none_there card e)
resistor_words a b (v ∷ []) card h k e = absurd (none_there card e)
resistor_words a b (v ∷ s ∷ []) card h k e =
    subst (λ z. AreWords (nodes_of z)) (some_is (Resistor a b v.text) card e) (folded_word a h, (folded_word b k, tt))
resistor_words a b (v ∷ s ∷ t ∷ r) card h k e = absurd (none_there card e)

source_with_words : (a b : List ℕ) (words : List Token) (card : Card) → IsBare Lines true a [] → IsBare Lines true b [] → source_with a b words ≡ Some card → AreWords (nodes_of card)
source_with_words a b [] card h k e = absurd (none_there card e)
source_with_words a b (v ∷ []) card h k e = absurd (none_there card e)
source_with_words a b (v ∷ s ∷ []) card h k e =
    subst (λ z. AreWords (nodes_of z)) (some_is (Source a b v.text) card e) (source_words (is_ground a) (is_ground b) a b h k)
source_with_words a b (v ∷ s ∷ t ∷ r) card h k e = absurd (none_there card e)

load_with_words : (a b : List ℕ) (words : List Token) (card : Card) → IsBare Lines true a [] → IsBare Lines true b [] → load_with a b words ≡ Some card → AreWords (nodes_of card)
load_with_words a b [] card h k e = absurd (none_there card e)
load_with_words a b (v ∷ []) card h k e = absurd (none_there card e)
load_with_words a b (v ∷ s ∷ []) card h k e =
    subst (λ z. AreWords (nodes_of z)) (some_is (Load a b v.text None) card e) (load_words a b h k)
load_with_words a b (v ∷ s ∷ t ∷ []) card h k e = absurd (none_there card e)
load_with_words a b (v ∷ s ∷ t ∷ r ∷ []) card h k e = absurd (none_there card e)
load_with_words a b (v ∷ s ∷ t ∷ r ∷ q ∷ []) card h k e =
    subst (λ z. AreWords (nodes_of z)) (some_is (Load a b v.text (Some (record { low = t.text; high = r.text }))) card e) (load_words a b h k)
load_with_words a b (v ∷ s ∷ t ∷ r ∷ q ∷ p ∷ o) card h k e = absurd (none_there card e)

capacitor_with_words : (a b : List ℕ) (words : List Token) (card : Card) → capacitor_with a b words ≡ Some card → AreWords (nodes_of card)
capacitor_with_words a b [] card e = absurd (none_there card e)
capacitor_with_words a b (v ∷ []) card e = absurd (none_there card e)
capacitor_with_words a b (v ∷ s ∷ []) card e = subst (λ z. AreWords (nodes_of z)) (some_is (Capacitor a b v.text) card e) tt
capacitor_with_words a b (v ∷ s ∷ t ∷ r) card e = absurd (none_there card e)

card_words : (sort : Sort) (a b : List ℕ) (words : List Token) (card : Card) → IsBare Lines true a [] → IsBare Lines true b [] → card_with sort a b words ≡ Some card → AreWords (nodes_of card)
card_words sorts.Resistor a b words card h k e = resistor_words a b words card h k e
card_words sorts.Source a b words card h k e = source_with_words a b (without_dc words) card h k e
card_words sorts.Load a b words card h k e = load_with_words a b (without_dc words) card h k e
card_words sorts.Capacitor a b words card h k e = capacitor_with_words a b words card e
card_words sort a b words card h k e = absurd (none_there card e)

two_words : (unit : List Token) (card : Card) → NamesTwo unit → AllByRecursion Fits unit → card_of unit ≡ Some card → AreWords (nodes_of card)
two_words unit card n h e =
    let fit : AllByRecursion Fits (n.first ∷ n.a ∷ n.b ∷ n.more) = subst (λ z. AllByRecursion Fits z) n.is h in
    card_words (sort_of n.first) n.a.text n.b.text n.more card (fit.1.0 n.a_named) (fit.1.1.0 n.b_named) (sym (ap card_of n.is) ∙ e)

one_word : (class : Sort → Bool) (unit : List Token) (card : Card) → Matches sort_of (One class) unit → card_of unit ≡ Some card → ⊥
one_word class unit card h e = none_there card (sym (ap card_of h.2) ∙ e)

unit_words : (section : Section) (unit : List Token) (card : Card) → Matches sort_of (pattern section) unit → AllByRecursion Fits unit → card_of unit ≡ Some card → AreWords (nodes_of card)
unit_words sections.Cards unit card m h e = elim m [
  | inl r ↦ two_words unit card (names_two (the sorts.Resistor) (Then number end) unit r) h e
  | inr m ↦ elim m [
    | inl s ↦ two_words unit card (names_two (the sorts.Source) (Or (Then value end) (Then dc (Then number end))) unit s) h e
    | inr m ↦ elim m [
      | inl l ↦ two_words unit card (names_two (the sorts.Load) (Or (Then value load_end) (Then dc (Then number load_end))) unit l) h e
      | inr m ↦ elim m [
        | inl c ↦ two_words unit card (names_two (the sorts.Capacitor) (Then number end) unit c) h e
        | inr one ↦ absurd (one_word is_single unit card one e)
      ]
    ]
  ]
]
unit_words sections.Passing unit card m h e = absurd (one_word is_passed unit card m e)
unit_words sections.Ended unit card m h e = absurd (one_word (the sorts.TextEnd) unit card m e)

-- ## the names

cards_by : (found : Option Card) (unit : List Token) (units : List (List Token)) → card_of unit ≡ found → ((card : Card) → found ≡ Some card → AreWords (nodes_of card)) →
    AreWords (flat_map nodes_of (cards_of units)) → AreWords (flat_map nodes_of (cards_of (unit ∷ units)))
cards_by None unit units e h k = subst (λ z. AreWords (flat_map nodes_of (cons_option z (cards_of units)))) (sym e) k
cards_by (Some card) unit units e h k =
    subst (λ z. AreWords (flat_map nodes_of (cons_option z (cards_of units)))) (sym e) (append_words (nodes_of card) (flat_map nodes_of (cards_of units)) (h card refl) k)

nodes_are : (before units : List (List Token)) → Follows format before units → AllByRecursion Fits (joined units) → AreWords (flat_map nodes_of (cards_of units))
nodes_are before [] h k = tt
nodes_are before (unit ∷ units) h k =
    cards_by (card_of unit) unit units refl (λ card e. unit_words (section_of before) unit card h.1 (first_fit unit (joined units) k) e)
    (nodes_are (before ++ unit ∷ []) units h.2 (last_fits unit (joined units) k))

among : (names : List (List ℕ)) (k : ℕ) (text : List ℕ) → AreWords names → k < length names → slice_index_or names k text ≡ text → IsBare Lines true text []
among [] k text h lt e = absurd (let t : k < 0 = lt in omega arith)
among (x ∷ names) zero text h lt e = subst (λ z. IsBare Lines true z []) e h.0
among (x ∷ names) (suc k) text h lt e = among names k text h.1 (omega arith) e

-- The names of the nodes among these units are words of lines.
pub names_are : (text : List ℕ) (units : List (List Token)) → WordsFit text → IsNetlist text units →
    (node : List ℕ) → Contains (flat_map nodes_of (cards_of units)) node → IsBare Lines true node []
names_are text units fit (heard, hears, read) node there =
    let words : AreWords (flat_map nodes_of (cards_of units)) = nodes_are [] units read.whole (units_fit text units fit (heard, hears, read)) in
    among (flat_map nodes_of (cards_of units)) there.0 node words there.1 there.2
