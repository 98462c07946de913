-- The units of written cards are whole and show no fault, and what cards they are.
use Rattle.std.proofs.Common.{◌≡◌, ℕ, ◌+◌, ◌<◌, ◌||◌, Bool, true, false, ℤ, List, [], ◌∷◌, ◌++◌, length, map, codes, Ok, refl, sym, ◌∙◌, ap, subst, append_assoc, arith, inl, inr}
use Rattle.std.specs.Prelude.{Option, None, Some, Result, if◌then◌else◌, int_lt, filter_map}
use Rattle.std.specs.List.{cons_option}
use Rattle.std.proofs.lemmas.List.{append-nil}
use Rattle.reading.specs.declared.word.Form.TheVariants.{Bare, Break}
use Rattle.reading.specs.declared.word.Form.TheVariants.{End as EndForm}
use Rattle.std.specs.List.{AllByRecursion}
use Rattle.std.specs.Str.{bytes_eq}
use Rattle.number_place.specs.declared.place.NumberPlace.{NumberPlace}
use Rattle.number_place.specs.declared.place.Refused.{Refused}
use Rattle.netlist_words.specs.declared.letter.Letter.{Letter}
use Rattle.netlist_words.specs.declared.letter.Letter.TheVariants as letters
use Rattle.netlist_words.specs.Letter.{letter_of}
use Rattle.netlist_words.specs.Text.{card_end}
use Rattle.reading.specs.Keyword.{keyword_or}
use Rattle.reading.specs.Pattern.{Pattern, One, Then, Or, Matches}
use Rattle.reading.specs.Grammar.{IsTaken}
use Rattle.reading.specs.Taken.{AreTaken}
use Rattle.reading.specs.Word.{Token, end_after}
use Rattle.spice_cards.specs.declared.error.CardsKind.{CardsKind}
use Rattle.spice_cards.specs.Sort.{the, keywords, sort_of_letter, sort_of_text, sort_of_end, sort_with, sort_of}
use Rattle.spice_cards.specs.declared.error.CardsKind.TheVariants.{OutOfRange}
use Rattle.spice_cards.specs.Rule.{is_name, is_number, is_value, name, number, dc, end, load_end, pattern}
use Rattle.spice_cards.specs.Section.{section_from, section_of, section_after, is_ended}
use Rattle.spice_cards.specs.Card.{Card, is_ground, without_dc, value_at, source_with, load_with, card_of, cards_of, capacitor_in}
use Rattle.spice_cards.specs.Card as said
use Rattle.spice_cards.specs.Number.{ohms, volts, amperes}
use Rattle.spice_cards.specs.Fault.{refused_by, floating_by, source_by, low_by, high_by, AnswerFault, EndFault, SourceFault, LoadFault, is_strange}
use Rattle.spice_cards.specs.Format.{format}
use Rattle.written_netlists.proofs.Lines.{IsText}
use Rattle.written_netlists.proofs.Values.{NumberLaws, IsValue}
use Rattle.written_netlists.proofs.Cards.{CardText, Ohms, Volts, Amps, AmpsIn, AreTexts, unit, units, past, line_at, word_at, last_units, zero_text}

-- What is asked of a card that is written: its words are words of lines, and its values read back.
pub record OhmsIs (tail a b value : List ℕ) : Type 0 where
  pub head : IsText (82 ∷ tail)
  pub first : IsText a
  pub second : IsText b
  pub number : ℤ
  pub is : IsValue ohms value number

pub record VoltsIs (tail a value : List ℕ) : Type 0 where
  pub head : IsText (86 ∷ tail)
  pub first : IsText a
  pub number : ℤ
  pub is : IsValue volts value number

pub record AmpsIs (tail a value : List ℕ) : Type 0 where
  pub head : IsText (73 ∷ tail)
  pub first : IsText a
  pub number : ℤ
  pub is : IsValue amperes value number

pub record RangeIs (value : ℤ) (low high : List ℕ) : Type 0 where
  pub low_number : ℤ
  pub high_number : ℤ
  pub low_is : IsValue amperes low low_number
  pub high_is : IsValue amperes high high_number
  pub not_above : int_lt value low_number ≡ false
  pub not_below : int_lt high_number value ≡ false

abbrev pub IsCard : CardText → Type 0
IsCard (Ohms tail a b value) = OhmsIs tail a b value
IsCard (Volts tail a value) = VoltsIs tail a value
IsCard (Amps tail a value) = AmpsIs tail a value
IsCard (AmpsIn tail a value low high) = (c : AmpsIs tail a value) × RangeIs c.number low high

zero_is : IsText zero_text
zero_is = record { some = omega arith; plain = refl }

range_is : IsText (codes "*range")
range_is = record { some = omega arith; plain = refl }

texts_are : (card : CardText) → IsCard card → AreTexts card
texts_are (Ohms tail a b value) c = (c.head, (c.first, (c.second, (c.is.word, tt))))
texts_are (Volts tail a value) c = (c.head, (c.first, (zero_is, (c.is.word, tt))))
texts_are (Amps tail a value) c = (c.head, (c.first, (zero_is, (c.is.word, tt))))
texts_are (AmpsIn tail a value low high) c = (
  (c.0.head, (c.0.first, (zero_is, (c.0.is.word, tt)))),
  (range_is, (c.1.low_is.word, (c.1.high_is.word, tt))),
)

pub all_texts : (cards : List CardText) → AllByRecursion IsCard cards → AllByRecursion AreTexts cards
all_texts [] h = tt
all_texts (card ∷ cards) h = (texts_are card h.0, all_texts cards h.1)

-- ## sorts

keyword_by : {S : Type 0} (P : S → Type 0) (is : Bool) (one two : S) → P one → P two → P (if is then one else two)
keyword_by P true one two p q = p
keyword_by P false one two p q = q

keyword_is : {S : Type 0} (P : S → Type 0) (words : List (List ℕ × S)) (none : S) (text : List ℕ) → AllByRecursion (λ k. P k.1) words → P none →
    P (keyword_or words none text)
keyword_is P [] none text h p = p
keyword_is P (k ∷ words) none text h p =
    keyword_by P (bytes_eq text k.0) k.1 (keyword_or words none text) h.0 (keyword_is P words none text h.1 p)

letter_name : (letter : Letter) → is_name (sort_of_letter letter) ≡ true
letter_name letters.Resistor = refl
letter_name letters.Source = refl
letter_name letters.Load = refl
letter_name letters.Capacitor = refl
letter_name letters.Other = refl

-- Each word of a line may be a name.
name_sort : (text : List ℕ) → is_name (sort_of_text text) ≡ true
name_sort text =
    keyword_is (λ s. is_name s ≡ true) keywords (sort_of_letter (letter_of text)) text
    (refl, (refl, (refl, (refl, (refl, (refl, (refl, (refl, (refl, (refl, (refl, (refl, tt)))))))))))) (letter_name (letter_of text))

number_sort : (text : List ℕ) → sort_of_text text ≡ sort_of_text (codes "0") → is_number (sort_of_text text) ≡ true
number_sort text e = ap is_number e

value_sort : (text : List ℕ) → sort_of_text text ≡ sort_of_text (codes "0") → is_value (sort_of_text text) ≡ true
value_sort text e = ap is_value e

-- ## patterns

two_match : {S : Type 0} (sort : Token → S) (p q : S → Bool) (a b : Token) → p (sort a) ≡ true → q (sort b) ≡ true → Matches sort (Then (One p) (One q)) (a ∷ b ∷ [])
two_match sort p q a b x y = (a ∷ [], b ∷ [], (a, x, refl), (b, y, refl), refl)

more_match : {S : Type 0} (sort : Token → S) (p : S → Bool) (q : Pattern S) (a : Token) (words : List Token) → p (sort a) ≡ true → Matches sort q words → Matches sort (Then (One p) q) (a ∷ words)
more_match sort p q a words x m = (a ∷ [], words, (a, x, refl), m, refl)

-- ## faults

none_fault : (by : Result ℤ Refused → Option CardsKind) (value : ℤ) (answer : Result ℤ Refused) (kind : CardsKind) → by (Ok value) ≡ None → Ok value ≡ answer → by answer ≡ Some kind → ⊥
none_fault by value answer kind n e s = let t : None ≡ Some kind = sym n ∙ ap by e ∙ s in cc

no_answer : NumberLaws → (place : NumberPlace) (by : Result ℤ Refused → Option CardsKind) (text : List ℕ) (value : ℤ) (kind : CardsKind) → IsValue place text value →
    by (Ok value) ≡ None → AnswerFault place by text kind → ⊥
no_answer laws place by text value kind is n f = none_fault by value f.0 kind n (laws.one place text (Ok value) f.0 is.number f.1) f.2

no_end : NumberLaws → (by : Result ℤ Refused → Result ℤ Refused → Option CardsKind) (value text : List ℕ) (v z : ℤ) (kind : CardsKind) → IsValue amperes value v → IsValue amperes text z →
    by (Ok v) (Ok z) ≡ None → EndFault by value text kind → ⊥
no_end laws by value text v z kind is end n f =
    none_fault (by f.0) z f.1 kind (ap (λ (r : Result ℤ Refused). by r (Ok z)) (sym (laws.one amperes value (Ok v) f.0 is.number f.2)) ∙ n) (laws.one amperes text (Ok z) f.1 end.number f.3) f.4

grounded : (x : Bool) (z : ℤ) → (if x || true then refused_by (Ok z) else floating_by (Ok z)) ≡ None
grounded true z = refl
grounded false z = refl

false_true : false ≡ true → ⊥
false_true h = cc

-- ## units

-- Without `DC` before it the value stands behind the nodes.
dc_gone : (P : ℕ → List Token → Type 0) (v : Token) (words : List Token) → sort_of v ≡ sort_of_text (codes "0") → P (value_at (v ∷ words)) (without_dc (v ∷ words)) → P 3 (v ∷ words)
dc_gone P v words e p = subst (λ s. P (if the (sort_of_text (codes "DC")) s then 4 else 3) (if the (sort_of_text (codes "DC")) s then words else (v ∷ words))) e p

abbrev bare : ℕ → ℕ → List ℕ → Token
bare n word text = record { text = text; place = record { line = n; word = word }; form = Bare }

module _ (laws : NumberLaws) (before : List (List Token)) (here : section_of before ≡ section_of []) where
  in_cards : (words : List Token) → Matches sort_of (pattern (section_of [])) words → Matches sort_of (pattern (section_of before)) words
  in_cards words m = subst (λ z. Matches sort_of (pattern z) words) (sym here) m

  ohms_taken : (n : ℕ) (tail a b value : List ℕ) → OhmsIs tail a b value → IsTaken format before (unit n (Ohms tail a b value))
  ohms_taken n tail a b value c = record {
    matches = in_cards (unit n (Ohms tail a b value))
        (inl (more_match sort_of (the (sort_of_text (codes "R"))) (Then name (Then name (Then number end))) (bare n 1 (82 ∷ tail)) (bare n 2 a ∷ bare n 3 b ∷ bare n 4 value ∷ card_end (line_at (n + 1)) ∷ []) refl
        (more_match sort_of is_name (Then name (Then number end)) (bare n 2 a) (bare n 3 b ∷ bare n 4 value ∷ card_end (line_at (n + 1)) ∷ []) (name_sort a)
        (more_match sort_of is_name (Then number end) (bare n 3 b) (bare n 4 value ∷ card_end (line_at (n + 1)) ∷ []) (name_sort b)
        (two_match sort_of is_number (the (sort_of_end [])) (bare n 4 value) (card_end (line_at (n + 1))) (number_sort value c.is.sort) refl)))));
    fine = (
      λ f k. false_true k.1.1,
      (λ f k. k, (λ f k. k, (λ f k. no_answer laws ohms refused_by value c.number f.kind c.is refl k.1, (λ f k. k, tt)))),
    );
  }

  volts_taken : (n : ℕ) (tail a value : List ℕ) → VoltsIs tail a value → IsTaken format before (unit n (Volts tail a value))
  volts_taken n tail a value c =
      let v = bare n 4 value in
      let stop = card_end (line_at (n + 1)) in
      record {
        matches = in_cards (unit n (Volts tail a value))
            (inr (inl (more_match sort_of (the (sort_of_text (codes "V"))) (Then name (Then name (Or (Then (One is_value) end) (Then dc (Then number end))))) (bare n 1 (86 ∷ tail)) (bare n 2 a ∷ bare n 3 zero_text ∷ v ∷ stop ∷ []) refl
            (more_match sort_of is_name (Then name (Or (Then (One is_value) end) (Then dc (Then number end)))) (bare n 2 a) (bare n 3 zero_text ∷ v ∷ stop ∷ []) (name_sort a)
            (more_match sort_of is_name (Or (Then (One is_value) end) (Then dc (Then number end))) (bare n 3 zero_text) (v ∷ stop ∷ []) refl
            (inl (two_match sort_of is_value (the (sort_of_end [])) v stop (value_sort value c.is.sort) refl)))))));
        fine = (
          λ f k. false_true k.1.1,
          (
            λ f k. k,
            (
              λ f k. k,
              (
                λ f k. no_answer laws volts (source_by a zero_text) value c.number f.kind c.is (grounded (is_ground a) c.number)
                    (dc_gone (λ at words. SourceFault a zero_text at words f) v [] c.is.sort k).1,
                (λ f k. dc_gone (λ at words. SourceFault a zero_text at words f) v (stop ∷ []) c.is.sort k, tt),
              ),
            ),
          ),
        );
      }

  amps_taken : (n : ℕ) (tail a value : List ℕ) → AmpsIs tail a value → IsTaken format before (unit n (Amps tail a value))
  amps_taken n tail a value c =
      let v = bare n 4 value in
      let stop = card_end (line_at (n + 1)) in
      record {
        matches = in_cards (unit n (Amps tail a value))
            (inr (inr (inl (more_match sort_of (the (sort_of_text (codes "I"))) (Then name (Then name (Or (Then (One is_value) load_end) (Then dc (Then number load_end))))) (bare n 1 (73 ∷ tail)) (bare n 2 a ∷ bare n 3 zero_text ∷ v ∷ stop ∷ []) refl
            (more_match sort_of is_name (Then name (Or (Then (One is_value) load_end) (Then dc (Then number load_end)))) (bare n 2 a) (bare n 3 zero_text ∷ v ∷ stop ∷ []) (name_sort a)
            (more_match sort_of is_name (Or (Then (One is_value) load_end) (Then dc (Then number load_end))) (bare n 3 zero_text) (v ∷ stop ∷ []) refl
            (inl (more_match sort_of is_value load_end v (stop ∷ []) (value_sort value c.is.sort) (inl (stop, refl, refl))))))))));
        fine = (
          λ f k. false_true k.1.1,
          (
            λ f k. k,
            (
              λ f k. k,
              (
                λ f k. no_answer laws amperes refused_by value c.number f.kind c.is refl (dc_gone (λ at words. LoadFault at words f) v [] c.is.sort k).1,
                (λ f k. dc_gone (λ at words. LoadFault at words f) v (stop ∷ []) c.is.sort k, tt),
              ),
            ),
          ),
        );
      }

  low_none : (v l : ℤ) → int_lt v l ≡ false → low_by (Ok v) (Ok l) ≡ None
  low_none v l e = ap (λ z. if z then Some OutOfRange else None) e

  range_taken : (n : ℕ) (tail a value low high : List ℕ) (c : AmpsIs tail a value) → RangeIs c.number low high →
      IsTaken format before (unit n (AmpsIn tail a value low high))
  range_taken n tail a value low high c r =
      let v = bare n 4 value in
      let star : Token = record { text = codes "*range"; place = line_at (n + 1); form = Break } in
      let l = bare (n + 1) 2 low in
      let h = bare (n + 1) 3 high in
      let stop = card_end (record { line = n + 1; word = 4 }) in
      record {
        matches = in_cards (unit n (AmpsIn tail a value low high))
            (inr (inr (inl (more_match sort_of (the (sort_of_text (codes "I"))) (Then name (Then name (Or (Then (One is_value) load_end) (Then dc (Then number load_end))))) (bare n 1 (73 ∷ tail)) (bare n 2 a ∷ bare n 3 zero_text ∷ v ∷ star ∷ l ∷ h ∷ stop ∷ []) refl
            (more_match sort_of is_name (Then name (Or (Then (One is_value) load_end) (Then dc (Then number load_end)))) (bare n 2 a) (bare n 3 zero_text ∷ v ∷ star ∷ l ∷ h ∷ stop ∷ []) (name_sort a)
            (more_match sort_of is_name (Or (Then (One is_value) load_end) (Then dc (Then number load_end))) (bare n 3 zero_text) (v ∷ star ∷ l ∷ h ∷ stop ∷ []) refl
            (inl (more_match sort_of is_value load_end v (star ∷ l ∷ h ∷ stop ∷ []) (value_sort value c.is.sort)
            (inr (more_match sort_of (the (sort_of_end (codes "*range"))) (Then number (Then number end)) star (l ∷ h ∷ stop ∷ []) refl
            (more_match sort_of is_number (Then number end) l (h ∷ stop ∷ []) (number_sort low r.low_is.sort)
            (two_match sort_of is_number (the (sort_of_end [])) h stop (number_sort high r.high_is.sort) refl))))))))))));
        fine = (
          λ f k. false_true k.1.1,
          (
            λ f k. k,
            (
              λ f k. k,
              (
                λ f k. no_answer laws amperes refused_by value c.number f.kind c.is refl (dc_gone (λ at words. LoadFault at words f) v [] c.is.sort k).1,
                (
                  λ f k. dc_gone (λ at words. LoadFault at words f) v (star ∷ []) c.is.sort k,
                  (
                    λ f k. no_end laws low_by value low c.number r.low_number f.kind c.is r.low_is (low_none c.number r.low_number r.not_above)
                        (dc_gone (λ at words. LoadFault at words f) v (star ∷ l ∷ []) c.is.sort k).1,
                    (
                      λ f k. no_end laws high_by value high c.number r.high_number f.kind c.is r.high_is (low_none r.high_number c.number r.not_below)
                          (dc_gone (λ at words. LoadFault at words f) v (star ∷ l ∷ h ∷ []) c.is.sort k).1,
                      (λ f k. dc_gone (λ at words. LoadFault at words f) v (star ∷ l ∷ h ∷ stop ∷ []) c.is.sort k, tt),
                    ),
                  ),
                ),
              ),
            ),
          ),
        );
      }

  card_taken : (n : ℕ) (card : CardText) → IsCard card → IsTaken format before (unit n card)
  card_taken n (Ohms tail a b value) c = ohms_taken n tail a b value c
  card_taken n (Volts tail a value) c = volts_taken n tail a value c
  card_taken n (Amps tail a value) c = amps_taken n tail a value c
  card_taken n (AmpsIn tail a value low high) c = range_taken n tail a value low high c.0 c.1

-- ## sections

fold_more : {S : Type 0} (from : S → List (List Token) → S) (after : S → List Token → S) → ((s : S) → from s [] ≡ s) →
    ((s : S) (u : List Token) (us : List (List Token)) → from s (u ∷ us) ≡ from (after s u) us) →
    (s : S) (xs ys : List (List Token)) → from s (xs ++ ys) ≡ from (from s xs) ys
fold_more from after none more s [] ys = ap (λ z. from z ys) (sym (none s))
fold_more from after none more s (x ∷ xs) ys =
    more s x (xs ++ ys) ∙ fold_more from after none more (after s x) xs ys ∙ ap (λ z. from z ys) (sym (more s x xs))

section_both : (xs ys : List (List Token)) → section_of (xs ++ ys) ≡ section_from (section_of xs) ys
section_both xs ys = fold_more section_from section_after (λ s. refl) (λ s u us. refl) (section_of []) xs ys

-- Units after which the same may follow are followed by units after which the same may follow.
section_next : (before same : List (List Token)) (u : List Token) → section_of before ≡ section_of same → section_of (before ++ u ∷ []) ≡ section_of (same ++ u ∷ [])
section_next before same u e = section_both before (u ∷ []) ∙ ap (λ z. section_after z u) e ∙ sym (section_both same (u ∷ []))

after_unit : (n : ℕ) (card : CardText) → section_of (unit n card ∷ []) ≡ section_of []
after_unit n (Ohms tail a b value) = refl
after_unit n (Volts tail a value) = refl
after_unit n (Amps tail a value) = refl
after_unit n (AmpsIn tail a value low high) = refl

unit_some : (n : ℕ) (card : CardText) → 0 < length (unit n card)
unit_some n (Ohms tail a b value) = omega arith
unit_some n (Volts tail a value) = omega arith
unit_some n (Amps tail a value) = omega arith
unit_some n (AmpsIn tail a value low high) = omega arith

-- All cards, and then the others.
pub cards_taken : NumberLaws → (cards : List CardText) (n : ℕ) (before rest : List (List Token)) → section_of before ≡ section_of [] → AllByRecursion IsCard cards →
    AreTaken format (before ++ units n cards) rest → AreTaken format before (units n cards ++ rest)
cards_taken laws [] n before rest here h t = subst (λ z. AreTaken format z rest) (append-nil before) t
cards_taken laws (card ∷ cards) n before rest here h t = (
  unit_some n card,
  card_taken laws before here n card h.0,
  cards_taken laws cards (past n card) (before ++ unit n card ∷ []) rest (section_next before [] (unit n card) here ∙ after_unit n card) h.1
      (subst (λ z. AreTaken format z rest) (sym (append_assoc before (unit n card ∷ []) (units (past n card) cards))) t),
)

pub cards_section : (cards : List CardText) (n : ℕ) (before : List (List Token)) → section_of before ≡ section_of [] → section_of (before ++ units n cards) ≡ section_of []
cards_section [] n before e = ap section_of (append-nil before) ∙ e
cards_section (card ∷ cards) n before e =
    ap section_of (sym (append_assoc before (unit n card ∷ []) (units (past n card) cards)))
    ∙ cards_section cards (past n card) (before ++ unit n card ∷ []) (section_next before [] (unit n card) e ∙ after_unit n card)

-- ## the last units

end_form : (words : List Token) → (end_after words).form ≡ EndForm
end_form [] = refl
end_form (w ∷ []) = refl
end_form (v ∷ w ∷ words) = end_form (w ∷ words)

end_sort : (words : List Token) → sort_of (end_after words) ≡ sort_of (end_after [])
end_sort words = ap (λ z. sort_with z (end_after words).text) (end_form words)

single_taken : (before same : List (List Token)) (w : Token) → section_of before ≡ section_of same → Matches sort_of (pattern (section_of same)) (w ∷ []) → is_strange (sort_of w) ≡ false →
    IsTaken format before (w ∷ [])
single_taken before same w here m plain = record {
  matches = subst (λ z. Matches sort_of (pattern z) (w ∷ [])) (sym here) m;
  fine = (λ f k. false_true (sym plain ∙ k.1.1), tt);
}

pub last_taken : (n : ℕ) (before : List (List Token)) (words : List Token) → section_of before ≡ section_of [] → AreTaken format before (last_units n ++ (end_after words ∷ []) ∷ [])
last_taken n before words here =
    let op = word_at n (codes ".op") in
    let stop = card_end (line_at (n + 1)) in
    let end = word_at (n + 1) (codes ".end") in
    let one : List (List Token) = before ++ (op ∷ []) ∷ [] in
    let two : List (List Token) = one ++ (stop ∷ []) ∷ [] in
    let three : List (List Token) = two ++ (end ∷ []) ∷ [] in
    let at_one : section_of one ≡ section_of ((op ∷ []) ∷ []) = section_next before [] (op ∷ []) here in
    let at_two : section_of two ≡ section_of [] = section_next one ((op ∷ []) ∷ []) (stop ∷ []) at_one in
    let at_three : section_of three ≡ section_of ((end ∷ []) ∷ []) = section_next two [] (end ∷ []) at_two in (
      omega arith,
      single_taken before [] op here (inr (inr (inr (inr (op, refl, refl))))) refl,
      (
        omega arith,
        single_taken one ((op ∷ []) ∷ []) stop at_one (stop, refl, refl) refl,
        (
          omega arith,
          single_taken two [] end at_two (inr (inr (inr (inr (end, refl, refl))))) refl,
          (
            omega arith,
            single_taken three ((end ∷ []) ∷ []) (end_after words) at_three (end_after words, ap (the (sort_of (end_after []))) (end_sort words), refl) (ap is_strange (end_sort words)),
            tt,
          ),
        ),
      ),
    )

-- ## no front ends the text

abbrev NoneEnds : {S : Type 0} → (S → List Token → S) → (S → Bool) → S → List (List Token) → Type 0
NoneEnds after ended s [] = Unit {0}
NoneEnds after ended s (u ∷ us) = (ended s ≡ false) × NoneEnds after ended (after s u) us

front_open : {S : Type 0} (from : S → List (List Token) → S) (after : S → List Token → S) (ended : S → Bool) → ((s : S) → from s [] ≡ s) →
    ((s : S) (u : List Token) (us : List (List Token)) → from s (u ∷ us) ≡ from (after s u) us) →
    (s : S) (front : List (List Token)) (next : List Token) (back : List (List Token)) → NoneEnds after ended s (front ++ next ∷ back) → ended (from s front) ≡ false
front_open from after ended none more s [] next back h = ap ended (none s) ∙ h.0
front_open from after ended none more s (u ∷ front) next back h =
    ap ended (more s u front) ∙ front_open from after ended none more (after s u) front next back h.1

none_ends : (cards : List CardText) (n m : ℕ) → NoneEnds section_after is_ended (section_of []) (units n cards ++ last_units m)
none_ends [] n m = (refl, (refl, (refl, tt)))
none_ends (Ohms tail a b value ∷ cards) n m = (refl, none_ends cards (n + 1) m)
none_ends (Volts tail a value ∷ cards) n m = (refl, none_ends cards (n + 1) m)
none_ends (Amps tail a value ∷ cards) n m = (refl, none_ends cards (n + 1) m)
none_ends (AmpsIn tail a value low high ∷ cards) n m = (refl, none_ends cards (n + 1 + 1) m)

pub fronts_open : (cards : List CardText) (n m : ℕ) (front : List (List Token)) (next : List Token) (back : List (List Token)) →
    units n cards ++ last_units m ≡ front ++ next ∷ back → is_ended (section_of front) ≡ false
fronts_open cards n m front next back e =
    front_open section_from section_after is_ended (λ s. refl) (λ s u us. refl) (section_of []) front next back
    (subst (λ z. NoneEnds section_after is_ended (section_of []) z) e (none_ends cards n m))

pub whole_ends : (cards : List CardText) (n m : ℕ) → is_ended (section_of (units n cards ++ last_units m)) ≡ true
whole_ends cards n m =
    ap is_ended (section_both (units n cards) (last_units m) ∙ ap (λ z. section_from z (last_units m)) (cards_section cards n [] refl))

-- ## what cards the units are

abbrev pub said_card : CardText → Card
said_card (Ohms tail a b value) = said.Resistor a b value
said_card (Volts tail a value) = said.Source a zero_text value
said_card (Amps tail a value) = said.Load a zero_text value None
said_card (AmpsIn tail a value low high) = said.Load a zero_text value (Some (record { low = low; high = high }))

card_is : (n : ℕ) (card : CardText) → IsCard card → card_of (unit n card) ≡ Some (said_card card)
card_is n (Ohms tail a b value) c = refl
card_is n (Volts tail a value) c =
    ap (λ s. source_with a zero_text (if the (sort_of_text (codes "DC")) s then (card_end (line_at (n + 1)) ∷ []) else (bare n 4 value ∷ card_end (line_at (n + 1)) ∷ []))) c.is.sort
card_is n (Amps tail a value) c =
    ap (λ s. load_with a zero_text (if the (sort_of_text (codes "DC")) s then (card_end (line_at (n + 1)) ∷ []) else (bare n 4 value ∷ card_end (line_at (n + 1)) ∷ []))) c.is.sort
card_is n (AmpsIn tail a value low high) c =
    let star : Token = record { text = codes "*range"; place = line_at (n + 1); form = Break } in
    let rest : List Token = star ∷ bare (n + 1) 2 low ∷ bare (n + 1) 3 high ∷ card_end (record { line = n + 1; word = 4 }) ∷ [] in
    ap (λ s. load_with a zero_text (if the (sort_of_text (codes "DC")) s then rest else (bare n 4 value ∷ rest))) c.0.is.sort

pub cards_are : (cards : List CardText) (n : ℕ) (more : List (List Token)) → AllByRecursion IsCard cards → cards_of (units n cards ++ more) ≡ map said_card cards ++ cards_of more
cards_are [] n more h = refl
cards_are (card ∷ cards) n more h =
    ap (λ z. cons_option z (filter_map card_of (units (past n card) cards ++ more))) (card_is n card h.0)
    ∙ ap (λ z. said_card card ∷ z) (cards_are cards (past n card) more h.1)

pub last_cards : (n : ℕ) (words : List Token) → cards_of (last_units n ++ (end_after words ∷ []) ∷ []) ≡ []
last_cards n words = refl

-- None of the cards is a capacitor.
pub no_capacitors : (cards : List CardText) → filter_map capacitor_in (map said_card cards) ≡ []
no_capacitors [] = refl
no_capacitors (Ohms tail a b value ∷ cards) = no_capacitors cards
no_capacitors (Volts tail a value ∷ cards) = no_capacitors cards
no_capacitors (Amps tail a value ∷ cards) = no_capacitors cards
no_capacitors (AmpsIn tail a value low high ∷ cards) = no_capacitors cards
