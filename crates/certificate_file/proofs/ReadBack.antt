-- A written certificate reads back.
use Rattle.std.proofs.Common.{◌≡◌, ℕ, suc, ◌+◌, ◌-◌, ◌<◌, ◌≤◌, Bool, true, false, ℤ, List, [], ◌∷◌, ◌++◌, length, map, take, codes, Ok, Err, refl, sym, ◌∙◌, ap, subst, append_assoc, arith, length-append}
use Rattle.std.specs.Prelude.{None, All, slice_index_or, unsigned_abs}
use Rattle.std.proofs.lemmas.List.{append-nil}
use Rattle.entry_list.specs.InTurn.{InTurn}
use Rattle.outside.specs.declared.place.Place.{Place}
use Rattle.text_lex.specs.declared.word.Mode.TheVariants.{Lines}
use Rattle.text_lex.specs.declared.word.Form.TheVariants as split
use Rattle.text_lex.specs.Piece.{Piece, Item, IsBare}
use Rattle.text_lex.specs.Split.{Split, IsMadeOf, place_after, words_from, last_from, first_place, split_from}
use Rattle.reading.specs.Pattern.{One, Then, Matches, joined}
use Rattle.reading.specs.Reading.{Text}
use Rattle.reading.specs.Grammar.{IsTaken}
use Rattle.reading.specs.Taken.{AreTaken}
use Rattle.reading.specs.Outcome.{IsReadAs}
use Rattle.reading.specs.Word.{Token, word_of, end_at, seen_text}
use Rattle.fixed_decimal.specs.Printed.{printed}
use Rattle.certificate_file.specs.declared.section.Section.TheVariants.{Close, Ended}
use Rattle.certificate_file.specs.declared.sort.Sort.{Sort}
use Rattle.certificate_file.specs.declared.sort.Sort.TheVariants.{Pdn, Certificate, Version, LineEnd}
use Rattle.certificate_file.specs.Sort.{the, sort_of}
use Rattle.certificate_file.specs.Section.{section_after}
use Rattle.certificate_file.specs.Rule.{is_name, is_number, pattern, rows}
use Rattle.certificate_file.specs.Fault.{IsRow, name_of_row}
use Rattle.certificate_file.specs.Voltage.{IsVoltage, limit}
use Rattle.certificate_file.specs.Record.{name_on, SaysHigh, SaysLow, IsLists, lists_of}
use Rattle.certificate_file.specs.Format.{format, ReadsCertificate}
use Rattle.certificate_file.specs.Written.{rows_text, certificate_text, CanBeWritten}
use Rattle.certificate_file.proofs.Law.{HasOne, one_voltage, not_both}
use Rattle.certificate_file.proofs.Rows.{Stands, at_head, at_row, at_close, at_ended, stands, row_section}
use Rattle.certificate_file.proofs.Voltages.{printed_is}
use Rattle.certificate_file.proofs.Lines.{IsWord, AreRows, line, line_made, bare_word, number_sort, name_sort, voltage_word, word_at, break_at, after_line, line_unit, rows_pieces, rows_made, rows_units, rows_end, rows_words, rows_last}

-- ## whole units without a fault

close_by : (nodes lines : ℕ) → lines ≡ nodes + 1 → Stands nodes lines → section_after nodes lines ≡ Close
close_by nodes lines last (at_head none is) = absurd (omega arith)
close_by nodes lines last (at_row row is) = absurd (let within : lines ≤ nodes = row.1 in omega arith)
close_by nodes lines last (at_close also is) = is
close_by nodes lines last (at_ended past is) = absurd (omega arith)

ended_by : (nodes lines : ℕ) → nodes + 1 < lines → Stands nodes lines → section_after nodes lines ≡ Ended
ended_by nodes lines past (at_head none is) = absurd (omega arith)
ended_by nodes lines past (at_row row is) = absurd (let within : lines ≤ nodes = row.1 in omega arith)
ended_by nodes lines past (at_close last is) = absurd (omega arith)
ended_by nodes lines past (at_ended also is) = is

four_match : (p q r s : Sort → Bool) (a b c d : Token) → p (sort_of a) ≡ true → q (sort_of b) ≡ true → r (sort_of c) ≡ true → s (sort_of d) ≡ true →
    Matches sort_of (Then (One p) (Then (One q) (Then (One r) (One s)))) (a ∷ b ∷ c ∷ d ∷ [])
four_match p q r s a b c d w x y z = (
  a ∷ [],
  b ∷ c ∷ d ∷ [],
  (a, w, refl),
  (b ∷ [], c ∷ d ∷ [], (b, x, refl), (c ∷ [], d ∷ [], (c, y, refl), (d, z, refl), refl), refl),
  refl,
)

-- The first line.
head_taken : (names : List (List ℕ)) (place : Place) → IsTaken (format names) [] (line_unit place (codes "pdn") (codes "certificate") (codes "1"))
head_taken names place =
    let none = λ (row : IsRow (length names) 0). let some : 0 < 0 = row.0 in let t : ⊥ = omega arith in t in
    record {
      matches = four_match (the Pdn) (the Certificate) (the Version) (the LineEnd) _ _ _ _ refl refl refl refl;
      fine = (λ a k. none k.1.1, (λ a k. none k.1.2, (λ a k. none k.1.2, (λ a k. k, tt))));
    }

-- The line of a node.
row_taken : HasOne → (names : List (List ℕ)) (before : List (List Token)) (place : Place) (name high low : List ℕ) (v w : ℤ) →
    IsRow (length names) (length before) → name ≡ name_of_row names (length before) → IsVoltage high (Ok v) → IsVoltage low (Ok w) →
    IsTaken (format names) before (line_unit place name high low)
row_taken one names before place name high low v w row same is_high is_low = record {
  matches = subst (λ z. Matches sort_of (pattern z) (line_unit place name high low)) (sym (row_section (length names) (length before) row))
      (four_match is_name is_number is_number (the LineEnd) _ _ _ _ (name_sort name) (number_sort high (voltage_word high v is_high))
      (number_sort low (voltage_word low w is_low)) refl);
  fine = (
    λ a k. k.1.2 same,
    (
      λ a k. not_both v k.1.0 (one_voltage one high (Ok v) (Err k.1.0) is_high k.1.3),
      (λ a k. not_both w k.1.0 (one_voltage one low (Ok w) (Err k.1.0) is_low k.1.3), (λ a k. k, tt)),
    ),
  );
}

abbrev end_unit : Place → List Token
end_unit place = word_at (codes "end") place ∷ break_at (place_after place (Item split.Bare (codes "end"))) ∷ []

-- The last line.
end_taken : (names : List (List ℕ)) (before : List (List Token)) (place : Place) → length before ≡ length names + 1 → IsTaken (format names) before (end_unit place)
end_taken names before place count =
    let first = word_at (codes "end") place in
    let second = break_at (place_after place (Item split.Bare (codes "end"))) in
    let none = λ (row : IsRow (length names) (length before)). let most : length before ≤ length names = row.1 in let t : ⊥ = omega arith in t in
    record {
      matches = subst (λ z. Matches sort_of (pattern z) (end_unit place)) (sym (close_by (length names) (length before) count (stands (length names) (length before))))
          (first ∷ [], second ∷ [], (first, refl, refl), (second, refl, refl), refl);
      fine = (λ a k. none k.1.1, (λ a k. none k.1.2, tt));
    }

-- The end of the text.
last_taken : (names : List (List ℕ)) (before : List (List Token)) (place : Place) → length before ≡ length names + 2 → IsTaken (format names) before (end_at place ∷ [])
last_taken names before place count =
    let none = λ (row : IsRow (length names) (length before)). let most : length before ≤ length names = row.1 in let t : ⊥ = omega arith in t in
    record {
      matches = subst (λ z. Matches sort_of (pattern z) (end_at place ∷ [])) (sym (ended_by (length names) (length before) (omega arith) (stands (length names) (length before))))
          (end_at place, refl, refl);
      fine = (λ a k. none k.1.1, tt);
    }

at_front : (front names : List (List ℕ)) (name d : List ℕ) → slice_index_or (front ++ name ∷ names) (length front) d ≡ name
at_front [] names name d = refl
at_front (x ∷ front) names name d = at_front front names name d

name_is : (all front names : List (List ℕ)) (name : List ℕ) (lines : ℕ) → all ≡ front ++ name ∷ names → lines ≡ length front + 1 → name ≡ name_of_row all lines
name_is all front names name lines e k =
    let at : lines - 1 ≡ length front = omega arith in
    sym (ap (λ z. slice_index_or z (lines - 1) []) e ∙ ap (λ z. slice_index_or (front ++ name ∷ names) z []) at ∙ at_front front names name [])

row_here : (all front names : List (List ℕ)) (name : List ℕ) (lines : ℕ) → all ≡ front ++ name ∷ names → lines ≡ length front + 1 → IsRow (length all) lines
row_here all front names name lines e k =
    let count : length all ≡ length (front ++ name ∷ names) = ap length e in
    (omega arith, omega (arith, length-append front (name ∷ names)))

line_some : (place : Place) (a b c : List ℕ) → 0 < length (line_unit place a b c)
line_some place a b c = omega arith

-- The lines of the nodes after the first ones, and then the others.
rows_taken : HasOne → (all front names : List (List ℕ)) (highs lows : List ℤ) (before rest : List (List Token)) (place : Place) →
    all ≡ front ++ names → length before ≡ length front + 1 → AreRows names highs lows →
    AreTaken (format all) (before ++ rows_units place names highs lows) rest → AreTaken (format all) before (rows_units place names highs lows ++ rest)
rows_taken one all front [] [] [] before rest place e k h t = subst (λ z. AreTaken (format all) z rest) (append-nil before) t
rows_taken one all front (name ∷ names) (high ∷ highs) (low ∷ lows) before rest place e k h t =
    let u : List Token = line_unit place name (printed high 0) (printed low 0) in
    let next : Place = after_line place name (printed high 0) (printed low 0) in
    let count : length (before ++ u ∷ []) ≡ length (front ++ name ∷ []) + 1 = omega (arith, length-append before (u ∷ []), length-append front (name ∷ [])) in (
      line_some place name (printed high 0) (printed low 0),
      row_taken one all before place name (printed high 0) (printed low 0) high low (row_here all front names name (length before) e k)
          (name_is all front names name (length before) e k) h.1 h.2,
      rows_taken one all (front ++ name ∷ []) names highs lows (before ++ u ∷ []) rest next (e ∙ sym (append_assoc front (name ∷ []) names)) count h.3
          (subst (λ z. AreTaken (format all) z rest) (sym (append_assoc before (u ∷ []) (rows_units next names highs lows))) t),
    )
rows_taken one all front [] [] (low ∷ lows) before rest place e k h t = absurd h
rows_taken one all front [] (high ∷ highs) lows before rest place e k h t = absurd h
rows_taken one all front (name ∷ names) [] lows before rest place e k h t = absurd h
rows_taken one all front (name ∷ names) (high ∷ highs) [] before rest place e k h t = absurd h

-- ## the whole text

abbrev end_pieces : List Piece
end_pieces = Item split.Bare (codes "end") ∷ Item split.Break (10 ∷ []) ∷ []

abbrev all_pieces : List (List ℕ) → List ℤ → List ℤ → List Piece
all_pieces names highs lows = line (codes "pdn") (codes "certificate") (codes "1") (rows_pieces names highs lows end_pieces)

end_made : IsMadeOf Lines true end_pieces None (codes "end\n")
end_made = (10 ∷ [], refl, bare_word true (codes "end") (10 ∷ []) (omega arith) refl refl, ([], refl, (refl, refl), refl))

is_word : (text : List ℕ) → IsBare Lines true text [] → IsWord text
is_word text h = record { some = h.some; plain = h.plain }

text_made : (names : List (List ℕ)) (highs lows : List ℤ) → AreRows names highs lows → IsMadeOf Lines true (all_pieces names highs lows) None (certificate_text names highs lows)
text_made names highs lows h =
    line_made (codes "pdn") (codes "certificate") (codes "1") (rows_text names highs lows ++ codes "end\n") (rows_pieces names highs lows end_pieces)
    (record { some = omega arith; plain = refl }) (record { some = omega arith; plain = refl }) (record { some = omega arith; plain = refl })
    (rows_made names highs lows (codes "end\n") end_pieces h end_made)

abbrev head_unit : List Token
head_unit = line_unit first_place (codes "pdn") (codes "certificate") (codes "1")

-- The place after the first line.
abbrev second_line : Place
second_line = after_line first_place (codes "pdn") (codes "certificate") (codes "1")

-- The units after the lines of the nodes.
abbrev last_units : Place → List (List Token)
last_units place = end_unit place ∷ (end_at (last_from place end_pieces) ∷ []) ∷ []

abbrev all_units : List (List ℕ) → List ℤ → List ℤ → List (List Token)
all_units names highs lows =
    head_unit ∷ (rows_units second_line names highs lows ++ last_units (rows_end second_line names highs lows))

joined_two : (xs ys : List (List Token)) → joined (xs ++ ys) ≡ joined xs ++ joined ys
joined_two [] ys = refl
joined_two (x ∷ xs) ys = ap (λ z. x ++ z) (joined_two xs ys) ∙ sym (append_assoc x (joined xs) (joined ys))

words_are : (names : List (List ℕ)) (highs lows : List ℤ) → AreRows names highs lows →
    map word_of (words_from first_place (all_pieces names highs lows)) ++ end_at (last_from first_place (all_pieces names highs lows)) ∷ []
    ≡ joined (all_units names highs lows)
words_are names highs lows h =
    let place : Place = rows_end second_line names highs lows in
    let us : List (List Token) = rows_units second_line names highs lows in
    let stop : List Token = end_at (last_from second_line (rows_pieces names highs lows end_pieces)) ∷ [] in
    let body : map word_of (words_from second_line (rows_pieces names highs lows end_pieces)) ++ stop ≡ joined (us ++ last_units place) =
    ap (λ z. z ++ stop) (rows_words second_line names highs lows end_pieces h)
    ∙ append_assoc (joined us) (end_unit place) stop
    ∙ ap (λ z. joined us ++ (end_unit place ++ end_at z ∷ [])) (rows_last second_line names highs lows end_pieces h)
    ∙ sym (joined_two us (last_units place)) in
    ap (λ z. head_unit ++ z) body

count_rows : (place : Place) (names : List (List ℕ)) (highs lows : List ℤ) → AreRows names highs lows → length (rows_units place names highs lows) ≡ length names
count_rows place [] [] [] h = refl
count_rows place (name ∷ names) (high ∷ highs) (low ∷ lows) h =
    ap suc (count_rows (after_line place name (printed high 0) (printed low 0)) names highs lows h.3)
count_rows place [] [] (low ∷ lows) h = absurd h
count_rows place [] (high ∷ highs) lows h = absurd h
count_rows place (name ∷ names) [] lows h = absurd h
count_rows place (name ∷ names) (high ∷ highs) [] h = absurd h

all_taken : HasOne → (names : List (List ℕ)) (highs lows : List ℤ) → AreRows names highs lows → AreTaken (format names) [] (all_units names highs lows)
all_taken one names highs lows h =
    let place : Place = rows_end second_line names highs lows in
    let us : List (List Token) = rows_units second_line names highs lows in
    let before : List (List Token) = head_unit ∷ us in
    let count : length us ≡ length names = count_rows second_line names highs lows h in
    let counted : length before ≡ length names + 1 = omega arith in
    let counted_end : length (before ++ end_unit place ∷ []) ≡ length names + 2 = omega (arith, length-append before (end_unit place ∷ [])) in (
      line_some first_place (codes "pdn") (codes "certificate") (codes "1"),
      head_taken names first_place,
      rows_taken one names [] names highs lows (head_unit ∷ []) (last_units place) second_line refl refl h (
        omega arith,
        end_taken names before place counted,
        (omega arith, last_taken names (before ++ end_unit place ∷ []) (last_from place end_pieces) counted_end, tt),
      ),
    )

-- ## what the lines say

rows_first : (place : Place) (names : List (List ℕ)) (highs lows : List ℤ) (more : List (List Token)) → AreRows names highs lows →
    take (length names) (rows_units place names highs lows ++ more) ≡ rows_units place names highs lows
rows_first place [] [] [] more h = refl
rows_first place (name ∷ names) (high ∷ highs) (low ∷ lows) more h =
    ap (λ z. line_unit place name (printed high 0) (printed low 0) ∷ z)
    (rows_first (after_line place name (printed high 0) (printed low 0)) names highs lows more h.3)
rows_first place [] [] (low ∷ lows) more h = absurd h
rows_first place [] (high ∷ highs) lows more h = absurd h
rows_first place (name ∷ names) [] lows more h = absurd h
rows_first place (name ∷ names) (high ∷ highs) [] more h = absurd h

rows_named : (place : Place) (names : List (List ℕ)) (highs lows : List ℤ) → AreRows names highs lows → map name_on (rows_units place names highs lows) ≡ names
rows_named place [] [] [] h = refl
rows_named place (name ∷ names) (high ∷ highs) (low ∷ lows) h =
    ap (λ z. name ∷ z) (rows_named (after_line place name (printed high 0) (printed low 0)) names highs lows h.3)
rows_named place [] [] (low ∷ lows) h = absurd h
rows_named place [] (high ∷ highs) lows h = absurd h
rows_named place (name ∷ names) [] lows h = absurd h
rows_named place (name ∷ names) (high ∷ highs) [] h = absurd h

rows_high : (place : Place) (names : List (List ℕ)) (highs lows : List ℤ) → AreRows names highs lows → InTurn SaysHigh (rows_units place names highs lows) highs
rows_high place [] [] [] h = tt
rows_high place (name ∷ names) (high ∷ highs) (low ∷ lows) h =
    (h.1, rows_high (after_line place name (printed high 0) (printed low 0)) names highs lows h.3)
rows_high place [] [] (low ∷ lows) h = absurd h
rows_high place [] (high ∷ highs) lows h = absurd h
rows_high place (name ∷ names) [] lows h = absurd h
rows_high place (name ∷ names) (high ∷ highs) [] h = absurd h

rows_low : (place : Place) (names : List (List ℕ)) (highs lows : List ℤ) → AreRows names highs lows → InTurn SaysLow (rows_units place names highs lows) lows
rows_low place [] [] [] h = tt
rows_low place (name ∷ names) (high ∷ highs) (low ∷ lows) h =
    (h.2, rows_low (after_line place name (printed high 0) (printed low 0)) names highs lows h.3)
rows_low place [] [] (low ∷ lows) h = absurd h
rows_low place [] (high ∷ highs) lows h = absurd h
rows_low place (name ∷ names) [] lows h = absurd h
rows_low place (name ∷ names) (high ∷ highs) [] h = absurd h

said : (names : List (List ℕ)) (highs lows : List ℤ) → AreRows names highs lows → IsLists names (all_units names highs lows) (lists_of highs lows)
said names highs lows h =
    let us : List (List Token) = rows_units second_line names highs lows in
    let same : us ≡ rows (length names) (all_units names highs lows) =
    sym (rows_first second_line names highs lows (last_units (rows_end second_line names highs lows)) h) in
    record {
      named = ap (map name_on) (sym same) ∙ rows_named second_line names highs lows h;
      high = subst (λ z. InTurn SaysHigh z highs) same (rows_high second_line names highs lows h);
      low = subst (λ z. InTurn SaysLow z lows) same (rows_low second_line names highs lows h);
    }

-- ## the law

all_tail : {X : Type 0} (P : X → Type 0) (x : X) (xs : List X) → All P (x ∷ xs) → All P xs
all_tail P x xs h = λ k d lt. h (suc k) d (omega arith)

all_head : {X : Type 0} (P : X → Type 0) (x : X) (xs : List X) → All P (x ∷ xs) → P x
all_head P x xs h = h 0 x (omega arith)

rows_from : (names : List (List ℕ)) (highs lows : List ℤ) → length highs ≡ length names → length lows ≡ length names →
    All (λ name. IsBare Lines true name []) names → All (λ v. unsigned_abs v ≤ limit) highs → All (λ v. unsigned_abs v ≤ limit) lows → AreRows names highs lows
rows_from [] [] [] e f w h l = tt
rows_from (name ∷ names) (high ∷ highs) (low ∷ lows) e f w h l = (
  is_word name (all_head (λ name. IsBare Lines true name []) name names w),
  printed_is high (all_head (λ v. unsigned_abs v ≤ limit) high highs h),
  printed_is low (all_head (λ v. unsigned_abs v ≤ limit) low lows l),
  rows_from names highs lows (omega arith) (omega arith) (all_tail (λ name. IsBare Lines true name []) name names w)
      (all_tail (λ v. unsigned_abs v ≤ limit) high highs h) (all_tail (λ v. unsigned_abs v ≤ limit) low lows l),
)
rows_from [] [] (low ∷ lows) e f w h l = absurd (omega arith)
rows_from [] (high ∷ highs) lows e f w h l = absurd (omega arith)
rows_from (name ∷ names) [] lows e f w h l = absurd (omega arith)
rows_from (name ∷ names) (high ∷ highs) [] e f w h l = absurd (omega arith)

-- What the law of whole units gives for certificates.
abbrev pub UnitsAreRead : List (List ℕ) → Type 0
UnitsAreRead names = ((units : List (List Token)) → false ≡ false) → (text : Text Token) (units : List (List Token)) →
    AreTaken (format names) [] units → text.words ≡ joined units → text.refused ≡ None → IsReadAs (format names) text units

pub reads_back : (names : List (List ℕ)) → HasOne → UnitsAreRead names → (highs lows : List ℤ) → CanBeWritten names highs lows →
    ReadsCertificate names (certificate_text names highs lows) (Ok (lists_of highs lows))
reads_back names one read highs lows can =
    let h : AreRows names highs lows = rows_from names highs lows can.high_count can.low_count can.words can.high_within can.low_within in
    let split : Split = split_from first_place (all_pieces names highs lows) None in (
      split,
      (all_pieces names highs lows, text_made names highs lows h, refl),
      all_units names highs lows,
      read (λ units. refl) (seen_text split) (all_units names highs lows) (all_taken one names highs lows h) (words_are names highs lows h) refl,
      said names highs lows h,
    )
