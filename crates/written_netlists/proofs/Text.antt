-- The text of written cards is read as their units.
use Rattle.std.proofs.Common.{◌≡◌, ℕ, ◌+◌, ◌<◌, Bool, true, false, List, [], ◌∷◌, ◌++◌, map, codes, refl, sym, ◌∙◌, ap, subst, append_assoc, arith}
use Rattle.std.specs.Prelude.{decimal, flat_map}
use Rattle.std.specs.List.{AllByRecursion}
use Rattle.outside.specs.declared.place.Place.{Place}
use Rattle.netlist_words.specs.Class.{opened}
use Rattle.netlist_words.specs.Line.{numbered, lines_of, end_of}
use Rattle.netlist_words.specs.Title.{without_title}
use Rattle.netlist_words.specs.Text.{counted, words_from, netlist_text}
use Rattle.grid_net.specs.declared.note.Note.{Note}
use Rattle.reading.specs.Pattern.{joined}
use Rattle.reading.specs.Reading.{Text}
use Rattle.reading.specs.Taken.{AreTaken}
use Rattle.reading.specs.Outcome.{IsReadAs}
use Rattle.reading.specs.Word.{Token, end_after}
use Rattle.spice_cards.specs.Format.{format, IsNetlist}
use Rattle.written_netlists.specs.Fits.{IsOnOneLine}
use Rattle.written_netlists.proofs.Lines.{None as NoneIn, is_feed, none_counted, none_both, none_each, no_feed_in, line_no_feed, ended, lines_back}
use Rattle.written_netlists.proofs.Values.{NumberLaws, decimal_high}
use Rattle.written_netlists.proofs.Cards.{CardText, Ohms, Volts, Amps, AmpsIn, AreTexts, line, ohms_words, volts_words, amps_words, range_words, card_lines, units, past_all, leave, words_are, last_lines, last_opens, last_units, rest_of, last_words}
use Rattle.written_netlists.proofs.Taken.{IsCard, all_texts, cards_taken, cards_section, last_taken, fronts_open, whole_ends}

-- Whole units without a fault are read, as the law is handed in.
abbrev pub WholeCards : Type 0
WholeCards =
    (text : Text Token) (us : List (List Token)) (rest : List Token) → AreTaken format [] (us ++ (end_after (joined us) ∷ []) ∷ []) →
    text.words ≡ joined us ++ rest → format.ends us ≡ true →
    ((front : List (List Token)) (next : List Token) (back : List (List Token)) → us ≡ front ++ next ∷ back → format.ends front ≡ false) →
    IsReadAs format text (us ++ (end_after (joined us) ∷ []) ∷ [])

-- ## the lines of a text

abbrev pub title : List ℕ
title = codes "* pdn netlist 1"

abbrev pub note_bytes : Note → List ℕ
note_bytes note = line (codes "*" ∷ codes "layer:" ∷ (note.layer ++ 44 ∷ note.net) ∷ codes "net:" ∷ decimal note.number ∷ [])

-- The lines before the last two.
abbrev pub front_lines : List Note → List CardText → List (List ℕ)
front_lines notes cards = map note_bytes notes ++ flat_map card_lines cards

abbrev pub text_lines : List Note → List CardText → List (List ℕ)
text_lines notes cards = title ∷ (front_lines notes cards ++ codes ".op" ∷ codes ".end" ∷ [])

abbrev pub card_text : List Note → List CardText → List ℕ
card_text notes cards = flat_map ended (text_lines notes cards)

unlike_by : (c : ℕ) (b : Bool) → is_feed c ≡ b → 32 < c → is_feed c ≡ false
unlike_by c true e h = absurd (let same : c ≡ 10 = grind (arith, e) in omega arith)
unlike_by c false e h = e

high_no_feed : (text : List ℕ) → AllByRecursion (λ c. 32 < c) text → NoneIn is_feed text
high_no_feed [] h = tt
high_no_feed (c ∷ cs) h = (unlike_by c (is_feed c) refl h.0, high_no_feed cs h.1)

note_no_feed : (note : Note) → IsOnOneLine note → NoneIn is_feed (note_bytes note)
note_no_feed note h =
    no_feed_in (codes "*" ∷ codes "layer:" ∷ (note.layer ++ 44 ∷ note.net) ∷ codes "net:" ∷ decimal note.number ∷ []) (
      none_counted (codes "*") refl,
      (
        none_counted (codes "layer:") refl,
        (
          none_both is_feed note.layer (44 ∷ note.net) (none_counted note.layer h.layer) (refl, none_counted note.net h.net),
          (none_counted (codes "net:") refl, (high_no_feed (decimal note.number) (decimal_high note.number), tt)),
        ),
      ),
    )

notes_no_feed : (notes : List Note) → AllByRecursion IsOnOneLine notes → AllByRecursion (NoneIn is_feed) (map note_bytes notes)
notes_no_feed [] h = tt
notes_no_feed (note ∷ notes) h = (note_no_feed note h.0, notes_no_feed notes h.1)

card_no_feed : (card : CardText) → AreTexts card → AllByRecursion (NoneIn is_feed) (card_lines card)
card_no_feed (Ohms tail a b value) h = (line_no_feed (ohms_words tail a b value) h, tt)
card_no_feed (Volts tail a value) h = (line_no_feed (volts_words tail a value) h, tt)
card_no_feed (Amps tail a value) h = (line_no_feed (amps_words tail a value) h, tt)
card_no_feed (AmpsIn tail a value low high) h = (line_no_feed (amps_words tail a value) h.0, (line_no_feed (range_words low high) h.1, tt))

cards_no_feed : (cards : List CardText) → AllByRecursion AreTexts cards → AllByRecursion (NoneIn is_feed) (flat_map card_lines cards)
cards_no_feed [] h = tt
cards_no_feed (card ∷ cards) h = none_each (card_lines card) (flat_map card_lines cards) (card_no_feed card h.0) (cards_no_feed cards h.1)

lines_no_feed : (notes : List Note) (cards : List CardText) → AllByRecursion IsOnOneLine notes → AllByRecursion AreTexts cards → AllByRecursion (NoneIn is_feed) (text_lines notes cards)
lines_no_feed notes cards h k = (
  none_counted title refl,
  none_each (front_lines notes cards) (codes ".op" ∷ codes ".end" ∷ [])
      (none_each (map note_bytes notes) (flat_map card_lines cards) (notes_no_feed notes h) (cards_no_feed cards k))
      (none_counted (codes ".op") refl, (none_counted (codes ".end") refl, tt)),
)

-- ## what stands before the cards is passed over

abbrev pub past_notes : ℕ → List Note → ℕ
past_notes n [] = n
past_notes n (note ∷ notes) = past_notes (n + 1) notes

notes_passed : (notes : List Note) (n : ℕ) (more : List (List ℕ)) → counted (opened []) (numbered n (map note_bytes notes ++ more)) ≡ counted (opened []) (numbered (past_notes n notes) more)
notes_passed [] n more = refl
notes_passed (note ∷ notes) n more = notes_passed notes (n + 1) more

abbrev pub first_card : List Note → ℕ
first_card notes = past_notes 2 notes

all_lines : (notes : List Note) (cards : List CardText) → AllByRecursion IsOnOneLine notes → AllByRecursion AreTexts cards →
    lines_of (card_text notes cards) ≡ numbered 1 (title ∷ (map note_bytes notes ++ (flat_map card_lines cards ++ last_lines)))
all_lines notes cards h k =
    ap (numbered 1) (lines_back (text_lines notes cards) (lines_no_feed notes cards h k)
    ∙ ap (λ z. title ∷ z) (append_assoc (front_lines notes cards) (codes ".op" ∷ codes ".end" ∷ []) ([] ∷ [])
    ∙ append_assoc (map note_bytes notes) (flat_map card_lines cards) last_lines))

-- The units of the text before its end.
abbrev pub text_units : List Note → List CardText → List (List Token)
text_units notes cards = units (first_card notes) cards ++ last_units (past_all (first_card notes) cards)

joined_both : (xs ys : List (List Token)) → joined (xs ++ ys) ≡ joined xs ++ joined ys
joined_both [] ys = refl
joined_both (x ∷ xs) ys = ap (λ z. x ++ z) (joined_both xs ys) ∙ sym (append_assoc x (joined xs) (joined ys))

text_words : (notes : List Note) (cards : List CardText) → AllByRecursion IsOnOneLine notes → AllByRecursion AreTexts cards →
    (netlist_text (card_text notes cards)).words ≡ joined (text_units notes cards) ++ rest_of (end_of (lines_of (card_text notes cards)))
text_words notes cards h k =
    let end : Place = end_of (lines_of (card_text notes cards)) in
    let n : ℕ = first_card notes in
    let m : ℕ = past_all n cards in
    let more : List (List ℕ) = flat_map card_lines cards ++ last_lines in
    ap (λ z. words_from (counted (opened []) (without_title z)) end) (all_lines notes cards h k)
    ∙ ap (λ z. words_from z end) (notes_passed notes 2 more)
    ∙ words_are cards n [] last_lines end k last_opens
    ∙ ap (λ z. joined (units n cards) ++ z) (last_words (leave [] cards) m end)
    ∙ sym (append_assoc (joined (units n cards)) (joined (last_units m)) (rest_of end))
    ∙ ap (λ z. z ++ rest_of end) (sym (joined_both (units n cards) (last_units m)))

-- All units of the text.
abbrev pub all_units : List Note → List CardText → List (List Token)
all_units notes cards = text_units notes cards ++ (end_after (joined (text_units notes cards)) ∷ []) ∷ []

units_taken : NumberLaws → (notes : List Note) (cards : List CardText) → AllByRecursion IsCard cards → AreTaken format [] (all_units notes cards)
units_taken laws notes cards h =
    let n : ℕ = first_card notes in
    let m : ℕ = past_all n cards in
    let end : List (List Token) = (end_after (joined (text_units notes cards)) ∷ []) ∷ [] in
    subst (AreTaken format []) (sym (append_assoc (units n cards) (last_units m) end))
    (cards_taken laws cards n [] (last_units m ++ end) refl h
    (last_taken m (units n cards) (joined (text_units notes cards)) (cards_section cards n [] refl)))

-- The text is read as these units.
pub text_read : NumberLaws → WholeCards → (notes : List Note) (cards : List CardText) → AllByRecursion IsOnOneLine notes → AllByRecursion IsCard cards →
    IsNetlist (card_text notes cards) (all_units notes cards)
text_read laws whole notes cards h k =
    let n : ℕ = first_card notes in
    let m : ℕ = past_all n cards in
    whole (netlist_text (card_text notes cards)) (text_units notes cards) (rest_of (end_of (lines_of (card_text notes cards)))) (units_taken laws notes cards k)
    (text_words notes cards h (all_texts cards k)) (whole_ends cards n m) (fronts_open cards n m)
