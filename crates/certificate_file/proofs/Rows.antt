-- Lines, and which of them are those of nodes.
use Rattle.std.proofs.Common.{◌≡◌, ◌≢◌, ℕ, zero, suc, ◌+◌, ◌-◌, ◌<◌, ◌≤◌, ◌==◌, inl, inr, Bool, true, false, if◌then◌else◌, ℤ, pos, List, [], ◌∷◌, ◌++◌, length, map, take, get_or, Option, Some, None, refl, sym, ◌∙◌, ap, subst, arith, length-append}
use Rattle.std.specs.Prelude.{nat_le, IfSome, IfNone, is_some, unsigned_abs, vec_capacity}
use native.Mathlib.Decide.{dec_le}
use Rattle.std.specs.Str.{bytes_eq}
use Rattle.std.proofs.lemmas.Slice.Eq.{bytes_eq-Decides}
use Rattle.std.proofs.lemmas.List.{take_all, take-append-le, append-nil, map-append, length-map}
use Rattle.entry_list.specs.InTurn.{InTurn}
use Rattle.entry_list.specs.Laws.{in-turn-more}
use Rattle.text_lex.specs.declared.word.LexKind.{LexKind}
use Rattle.text_lex.specs.Split.{Split}
use Rattle.outside.specs.declared.place.Place.{Place}
use Rattle.reading.specs.declared.refusal.Cause.TheVariants.{Lex}
use Rattle.reading.specs.declared.word.Form.TheVariants.{Bare, End}
use Rattle.reading.specs.declared.word.Heard.{Heard}
use Rattle.reading.specs.Pattern.{One, Then, Matches, joined}
use Rattle.reading.specs.Reading.{Follows, IsRead}
use Rattle.reading.specs.Outcome.{IsReadAs}
use Rattle.reading.specs.Grammar.{AreHeard, IsTaken}
use Rattle.reading.specs.Word.{Token, heard_token, last_of, end_at, text_with, seen_text, word_of}
use Rattle.certificate_file.specs.declared.section.Section.{Section}
use Rattle.certificate_file.specs.declared.section.Section.TheVariants.{Head, Row, Close, Ended}
use Rattle.certificate_file.specs.declared.sort.Sort.{Sort}
use Rattle.certificate_file.specs.declared.sort.Sort.TheVariants.{Pdn, Certificate, Version, LineEnd, TextEnd}
use Rattle.certificate_file.specs.declared.error.CertKind.TheVariants.{WrongNode}
use Rattle.certificate_file.specs.declared.lists.Lists.{Lists}
use Rattle.certificate_file.specs.declared.held.Held.{Held}
use Rattle.certificate_file.specs.Sort.{the, sort_of, sort_with}
use Rattle.certificate_file.specs.Section.{section_after}
use Rattle.certificate_file.specs.Rule.{is_name, is_number, pattern, rows}
use Rattle.certificate_file.specs.Voltage.{limit}
use Rattle.certificate_file.specs.Fault.{IsRow, name_of_row}
use Rattle.certificate_file.specs.Record.{name_on, SaysHigh, SaysLow, IsLists}
use Rattle.certificate_file.specs.Format.{format}
use Rattle.certificate_file.specs.inside.Held.{Holds, says, value_at}

-- ## sections

-- Where the next line stands, by the number of lines before it.
pub data Stands (nodes lines : ℕ) : Type 0 where
  at_head : lines ≡ 0 → section_after nodes lines ≡ Head → Stands nodes lines
  at_row : IsRow nodes lines → section_after nodes lines ≡ Row → Stands nodes lines
  at_close : lines ≡ nodes + 1 → section_after nodes lines ≡ Close → Stands nodes lines
  at_ended : nodes + 1 < lines → section_after nodes lines ≡ Ended → Stands nodes lines

abbrev by_tests : Bool → Bool → Bool → Section
by_tests a b c = if a then Head else if b then Row else if c then Close else Ended

stands_by : (nodes lines : ℕ) (a b c : Bool) → (lines == 0) ≡ a → nat_le lines nodes ≡ b → ((lines - 1) == nodes) ≡ c → Stands nodes lines
stands_by nodes lines true b c e f g =
    let none : lines ≡ 0 = grind (arith, e) in
    at_head none (ap (λ z. by_tests z (nat_le lines nodes) ((lines - 1) == nodes)) e)
stands_by nodes lines false true c e f g =
    let some : 0 < lines = grind (arith, e) in
    let within : lines ≤ nodes = grind (arith, f) in
    at_row (some, within) (ap (λ z. by_tests z (nat_le lines nodes) ((lines - 1) == nodes)) e ∙ ap (λ z. by_tests false z ((lines - 1) == nodes)) f)
stands_by nodes lines false false true e f g =
    let some : 0 < lines = grind (arith, e) in
    let last : lines - 1 ≡ nodes = grind (arith, g) in
    at_close (omega arith) (ap (λ z. by_tests z (nat_le lines nodes) ((lines - 1) == nodes)) e ∙ ap (λ z. by_tests false z ((lines - 1) == nodes)) f ∙ ap (λ z. by_tests false false z) g)
stands_by nodes lines false false false e f g =
    let some : 0 < lines = grind (arith, e) in
    let past : nodes < lines = grind (arith, f) in
    let not_last : lines - 1 ≢ nodes = grind (arith, g) in
    at_ended (omega arith) (ap (λ z. by_tests z (nat_le lines nodes) ((lines - 1) == nodes)) e ∙ ap (λ z. by_tests false z ((lines - 1) == nodes)) f ∙ ap (λ z. by_tests false false z) g)

pub stands : (nodes lines : ℕ) → Stands nodes lines
stands nodes lines = stands_by nodes lines (lines == 0) (nat_le lines nodes) ((lines - 1) == nodes) refl refl refl

row_section_by : (nodes lines : ℕ) → IsRow nodes lines → Stands nodes lines → section_after nodes lines ≡ Row
row_section_by nodes lines row (at_head none is) = absurd (let some : 0 < lines = row.0 in omega arith)
row_section_by nodes lines row (at_row also is) = is
row_section_by nodes lines row (at_close last is) = absurd (let within : lines ≤ nodes = row.1 in omega arith)
row_section_by nodes lines row (at_ended past is) = absurd (let within : lines ≤ nodes = row.1 in omega arith)

pub row_section : (nodes lines : ℕ) → IsRow nodes lines → section_after nodes lines ≡ Row
row_section nodes lines row = row_section_by nodes lines row (stands nodes lines)

-- ## lines of four words

pub record FourWords (p q r s : Sort → Bool) (line : List Token) : Type 0 where
  pub first : Token
  pub second : Token
  pub third : Token
  pub fourth : Token
  pub is : line ≡ first ∷ second ∷ third ∷ fourth ∷ []
  pub first_is : p (sort_of first) ≡ true
  pub second_is : q (sort_of second) ≡ true
  pub third_is : r (sort_of third) ≡ true
  pub fourth_is : s (sort_of fourth) ≡ true

pub four : (p q r s : Sort → Bool) (line : List Token) → Matches sort_of (Then (One p) (Then (One q) (Then (One r) (One s)))) line → FourWords p q r s line
four p q r s line h =
    let a = h.2.0 in let b = h.3.2.0 in let c = h.3.3.2.0 in let d = h.3.3.3.0 in
    record {
      first = a;
      second = b;
      third = c;
      fourth = d;
      is = h.4 ∙ ap (λ z. z ++ h.1) h.2.2
          ∙ ap (λ z. a ∷ z) (h.3.4 ∙ ap (λ z. z ++ h.3.1) h.3.2.2
          ∙ ap (λ z. b ∷ z) (h.3.3.4 ∙ ap (λ z. z ++ h.3.3.1) h.3.3.2.2 ∙ ap (λ z. c ∷ z) h.3.3.3.2));
      first_is = h.2.1;
      second_is = h.3.2.1;
      third_is = h.3.3.2.1;
      fourth_is = h.3.3.3.1;
    }

-- ## the end of the text comes after the lines of all nodes

last_append : (xs ys : List Token) → 0 < length ys → last_of (xs ++ ys) ≡ last_of ys
last_append [] ys h = refl
last_append (x ∷ []) [] h = absurd (omega arith)
last_append (x ∷ []) (y ∷ ys) h = refl
last_append (x ∷ y ∷ xs) ys h = last_append (y ∷ xs) ys h

no_line_end : (p q r : Sort → Bool) (line : List Token) (e : Token) → FourWords p q r (the LineEnd) line → last_of line ≡ Some e → e.form ≡ End → ⊥
no_line_end p q r line e four is form =
    let there : Some four.fourth ≡ Some e = sym (ap last_of four.is) ∙ is in
    let same : four.fourth ≡ e = cc in
    let sort : sort_of e ≡ TextEnd = ap (λ z. sort_with z e.text) form in
    let t : the LineEnd TextEnd ≡ true = sym (ap (the LineEnd) sort) ∙ ap (λ z. the LineEnd (sort_of z)) (sym same) ∙ four.fourth_is in
    let f : false ≡ true = t in cc

last_line : (names : List (List ℕ)) (lines : ℕ) (line : List Token) (e : Token) → e.form ≡ End → Matches sort_of (pattern (section_after (length names) lines)) line → last_of line ≡ Some e →
    Stands (length names) lines → length names < lines + 1
last_line names lines line e form h is (at_head none section) =
    absurd (no_line_end (the Pdn) (the Certificate) (the Version) line e (four (the Pdn) (the Certificate) (the Version) (the LineEnd) line (subst (λ z. Matches sort_of (pattern z) line) section h)) is form)
last_line names lines line e form h is (at_row row section) =
    absurd (no_line_end is_name is_number is_number line e (four is_name is_number is_number (the LineEnd) line (subst (λ z. Matches sort_of (pattern z) line) section h)) is form)
last_line names lines line e form h is (at_close last section) = omega arith
last_line names lines line e form h is (at_ended past section) = omega arith

all_before_end : (names : List (List ℕ)) (before lines : List (List Token)) (e : Token) → e.form ≡ End → Follows (format names) before lines → last_of (joined lines) ≡ Some e →
    length names < length before + length lines
all_before_end names before [] e form h is = absurd (let t : None ≡ Some e = is in cc)
all_before_end names before (u ∷ []) e form h is =
    last_line names (length before) u e form h.1 (sym (ap last_of (append-nil u)) ∙ is) (stands (length names) (length before))
all_before_end names before (u ∷ v ∷ us) e form h is =
    let some : 0 < length v = h.2.0 in
    let rest : 0 < length (joined (v ∷ us)) = omega (arith, length-append v (joined us)) in
    let more = all_before_end names (before ++ u ∷ []) (v ∷ us) e form h.2 (sym (last_append u (joined (v ∷ us)) rest) ∙ is) in
    let count : length (before ++ u ∷ []) ≡ length before + length (u ∷ []) = length-append before (u ∷ []) in
    omega arith

abbrev no_lines : List (List Token)
no_lines = []

read_to_end : (names : List (List ℕ)) (words : List Token) (last : Place) (refusal : Option LexKind) (lines : List (List Token)) →
    IsRead (format names) (text_with words last refusal) lines → length names < length lines
read_to_end names words last None lines h =
    let e = end_at last in
    let before : length names < length (no_lines) + length lines = all_before_end names [] lines e refl h.whole (sym (ap last_of h.is) ∙ last_append words (e ∷ []) (omega arith)) in
    let none : length no_lines ≡ 0 = refl in
    omega arith
read_to_end names words last (Some kind) lines h =
    absurd (h.clean (length words) (Lex kind) (refl, record { place = last; kind = kind }, refl, refl))

-- A certificate that is read has a line for each node.
pub all_rows : (names : List (List ℕ)) (split : Split) (lines : List (List Token)) → IsReadAs (format names) (seen_text split) lines → length names < length lines
all_rows names split lines (heard, hears, read) = elim hears [
  | inl whole ↦ read_to_end names (map word_of split.words) split.last split.refusal lines (subst (λ z. IsRead (format names) z lines) whole.1 read)
  | inr ended ↦ absurd (let t : false ≡ true = ended.1.ends in cc)
]

-- ## one more line

pub rows_more : (nodes : ℕ) (lines : List (List Token)) (line : List Token) → IsRow nodes (length lines) → rows nodes (lines ++ line ∷ []) ≡ rows nodes lines ++ line ∷ []
rows_more nodes [] line row = absurd (let some : 0 < 0 = row.0 in omega arith)
rows_more nodes (head ∷ body) line row =
    let within : length (head ∷ body) ≤ nodes = row.1 in
    let count = length-append body (line ∷ []) in
    take_all nodes (body ++ line ∷ []) (omega arith) ∙ ap (λ z. z ++ line ∷ []) (sym (take_all nodes body (omega arith)))

pub rows_same : (nodes : ℕ) (lines : List (List Token)) (line : List Token) → (IsRow nodes (length lines) → ⊥) → rows nodes (lines ++ line ∷ []) ≡ rows nodes lines
rows_same nodes [] line none = refl
rows_same nodes (head ∷ body) line none =
    let some : 0 < length (head ∷ body) = omega arith in
    let many : nodes ≤ length body = elim (dec_le nodes (length body)) [ Prim.yes h ↦ h | Prim.no h ↦ absurd (none (some, omega arith)) ] in
    take-append-le nodes body (line ∷ []) many

names_more : (names : List (List ℕ)) (i : ℕ) → i < length names → take (suc i) names ≡ take i names ++ get_or names i [] ∷ []
names_more [] i h = absurd (omega arith)
names_more (name ∷ names) zero h = refl
names_more (name ∷ names) (suc i) h = ap (λ z. name ∷ z) (names_more names i (omega arith))

-- A name that does not differ from another is that.
same_name_by : (a b : List ℕ) (is : Bool) → bytes_eq a b ≡ is → (a ≢ b → ⊥) → a ≡ b
same_name_by a b true e h = (bytes_eq-Decides a b).0 e
same_name_by a b false e h = absurd (h (λ same. let t : false ≡ true = sym e ∙ (bytes_eq-Decides a b).1 same in cc))

pub same_name : (a b : List ℕ) → (a ≢ b → ⊥) → a ≡ b
same_name a b h = same_name_by a b (bytes_eq a b) refl h

-- The line of a node that has shown no fault has the node's name.
pub row_named : (names : List (List ℕ)) (lines : List (List Token)) (line : List Token) → IsTaken (format names) lines line → IsRow (length names) (length lines) →
    name_on line ≡ name_of_row names (length lines)
row_named names lines [] taken row =
    let words : FourWords is_name is_number is_number (the LineEnd) [] =
    four is_name is_number is_number (the LineEnd) [] (subst (λ z. Matches sort_of (pattern z) []) (row_section (length names) (length lines) row) taken.matches) in
    let t : [] ≡ words.first ∷ words.second ∷ words.third ∷ words.fourth ∷ [] = words.is in
    cc
row_named names lines (name ∷ words) taken row =
    same_name name.text (name_of_row names (length lines)) (λ other. taken.fine.0 (record { at = 0; kind = WrongNode }) (refl, (refl, row, other)))

-- The line of a node has four words.
row_length : (names : List (List ℕ)) (lines : List (List Token)) (line : List Token) → IsTaken (format names) lines line → IsRow (length names) (length lines) → length line ≡ 4
row_length names lines line taken row =
    ap length (four is_name is_number is_number (the LineEnd) line (subst (λ z. Matches sort_of (pattern z) line) (row_section (length names) (length lines) row) taken.matches)).is

-- A node's line says the values of its second and third word.
pub row_says : (names : List (List ℕ)) (lines : List (List Token)) (unit : List (Heard ℤ)) → IsTaken (format names) lines (map heard_token unit) → IsRow (length names) (length lines) →
    AreHeard (says names (length lines)) [] unit → SaysHigh (map heard_token unit) (value_at unit 1) × SaysLow (map heard_token unit) (value_at unit 2)
row_says names lines (name ∷ high ∷ low ∷ stop ∷ []) taken row heard = (heard.1.0 row, heard.1.1.0 row)
row_says names lines [] taken row heard = absurd (let four : 0 ≡ 4 = row_length names lines [] taken row in cc)
row_says names lines (a ∷ []) taken row heard = absurd (let four : 1 ≡ 4 = row_length names lines (map heard_token (a ∷ [])) taken row in cc)
row_says names lines (a ∷ b ∷ []) taken row heard = absurd (let four : 2 ≡ 4 = row_length names lines (map heard_token (a ∷ b ∷ [])) taken row in cc)
row_says names lines (a ∷ b ∷ c ∷ []) taken row heard = absurd (let four : 3 ≡ 4 = row_length names lines (map heard_token (a ∷ b ∷ c ∷ [])) taken row in cc)
row_says names lines (a ∷ b ∷ c ∷ d ∷ e ∷ more) taken row heard =
    let unit = a ∷ b ∷ c ∷ d ∷ e ∷ more in
    let four : length (map heard_token unit) ≡ 4 = row_length names lines (map heard_token unit) taken row in
    absurd (omega arith)

pub high_within : (line : List Token) (v : ℤ) → SaysHigh line v → unsigned_abs v ≤ limit
high_within (name ∷ high ∷ low ∷ stop ∷ []) v says = says.2.within
high_within line v says = absurd says

pub low_within : (line : List Token) (v : ℤ) → SaysLow line v → unsigned_abs v ≤ limit
low_within (name ∷ high ∷ low ∷ stop ∷ []) v says = says.2.within
low_within line v says = absurd says

pub held_row : (names : List (List ℕ)) (lines : List (List Token)) (line : List Token) (old new : Held) (v w : ℤ) → Holds names lines old → IsTaken (format names) lines line →
    IsRow (length names) (length lines) → SaysHigh line v → SaysLow line w → new.lines ≡ length lines + 1 → new.high.items ≡ old.high.items ++ v ∷ [] → new.low.items ≡ old.low.items ++ w ∷ [] →
    vec_capacity old.high ≤ vec_capacity new.high → vec_capacity old.low ≤ vec_capacity new.low → Holds names (lines ++ line ∷ []) new
held_row names lines line old new v w h taken row says_high says_low count high low high_room low_room =
    let grown = rows_more (length names) lines line row in
    let total : length (lines ++ line ∷ []) ≡ length lines + 1 = length-append lines (line ∷ []) in
    let at = length lines - 1 in
    let next : suc at ≡ length (lines ++ line ∷ []) - 1 = (let some : 0 < length lines = row.0 in omega arith) in
    let inside : at < length names = (let some : 0 < length lines = row.0 in let within : length lines ≤ length names = row.1 in omega arith) in
    record {
      count = count ∙ sym total;
      named =
          ap (map name_on) grown ∙ map-append name_on (rows (length names) lines) (line ∷ [])
          ∙ ap (λ z. z ++ name_on line ∷ []) h.named ∙ ap (λ z. take at names ++ z ∷ []) (row_named names lines line taken row)
          ∙ sym (names_more names at inside) ∙ ap (λ z. take z names) next;
      high = subst (λ z. InTurn SaysHigh z new.high.items) (sym grown) (subst (λ z. InTurn SaysHigh (rows (length names) lines ++ line ∷ []) z) (sym high)
          (in-turn-more SaysHigh (rows (length names) lines) old.high.items line v h.high says_high));
      low = subst (λ z. InTurn SaysLow z new.low.items) (sym grown) (subst (λ z. InTurn SaysLow (rows (length names) lines ++ line ∷ []) z) (sym low)
          (in-turn-more SaysLow (rows (length names) lines) old.low.items line w h.low says_low));
      high_room = (let before = h.high_room in omega arith);
      low_room = (let before = h.low_room in omega arith);
    }

-- Where no line of a node comes, all names stand, or none yet.
names_kept : (names : List (List ℕ)) (lines : List (List Token)) → (IsRow (length names) (length lines) → ⊥) → take (length lines - 1) names ≡ take (length lines + 1 - 1) names
names_kept names [] none = refl
names_kept names (head ∷ body) none =
    let some : 0 < length (head ∷ body) = omega arith in
    let many : length names ≤ length body = elim (dec_le (length names) (length body)) [ Prim.yes h ↦ h | Prim.no h ↦ absurd (none (some, omega arith)) ] in
    take_all (length (head ∷ body) - 1) names (omega arith) ∙ sym (take_all (length (head ∷ body) + 1 - 1) names (omega arith))

pub held_other : (names : List (List ℕ)) (lines : List (List Token)) (line : List Token) (old new : Held) → Holds names lines old →
    (IsRow (length names) (length lines) → ⊥) → new.lines ≡ length lines + 1 → new.high ≡ old.high → new.low ≡ old.low → Holds names (lines ++ line ∷ []) new
held_other names lines line old new h none count high low =
    let same = rows_same (length names) lines line none in
    let total : length (lines ++ line ∷ []) ≡ length lines + 1 = length-append lines (line ∷ []) in
    record {
      count = count ∙ sym total;
      named = ap (map name_on) same ∙ h.named ∙ names_kept names lines none ∙ ap (λ z. take (z - 1) names) (sym total);
      high = subst (λ z. InTurn SaysHigh z new.high.items) (sym same) (subst (λ z. InTurn SaysHigh (rows (length names) lines) z.items) (sym high) h.high);
      low = subst (λ z. InTurn SaysLow z new.low.items) (sym same) (subst (λ z. InTurn SaysLow (rows (length names) lines) z.items) (sym low) h.low);
      high_room = subst (λ z. length names ≤ vec_capacity z) (sym high) h.high_room;
      low_room = subst (λ z. length names ≤ vec_capacity z) (sym low) h.low_room;
    }

-- ## the lists

turn_count : (says : List Token → ℤ → Type 0) (lines : List (List Token)) (values : List ℤ) → InTurn says lines values → length values ≡ length lines
turn_count says [] [] h = refl
turn_count says (line ∷ lines) (value ∷ values) h = ap suc (turn_count says lines values h.1)
turn_count says [] (value ∷ values) h = absurd h
turn_count says (line ∷ lines) [] h = absurd h

-- Before the line of a node there are fewer voltages than nodes.
rows_before : (nodes : ℕ) (lines : List (List Token)) → IsRow nodes (length lines) → length (rows nodes lines) < nodes
rows_before nodes [] row = absurd (let some : 0 < 0 = row.0 in omega arith)
rows_before nodes (head ∷ body) row =
    let within : length (head ∷ body) ≤ nodes = row.1 in
    let all : length (rows nodes (head ∷ body)) ≡ length body = ap length (take_all nodes body (omega arith)) in
    omega arith

pub row_room : (names : List (List ℕ)) (lines : List (List Token)) (held : Held) → Holds names lines held → IsRow (length names) (length lines) →
    (length held.high.items < vec_capacity held.high) × (length held.low.items < vec_capacity held.low)
row_room names lines held h row =
    let before = rows_before (length names) lines row in
    let high = turn_count SaysHigh (rows (length names) lines) held.high.items h.high in
    let low = turn_count SaysLow (rows (length names) lines) held.low.items h.low in
    let high_room = h.high_room in
    let low_room = h.low_room in
    (omega arith, omega arith)

pub is_lists : (names : List (List ℕ)) (lines : List (List Token)) (held : Held) (lists : Lists) → Holds names lines held → length names < length lines →
    lists.high ≡ held.high.items → lists.low ≡ held.low.items → IsLists names lines lists
is_lists names lines held lists h all high low = record {
  named = h.named ∙ take_all (length lines - 1) names (omega arith);
  high = subst (λ z. InTurn SaysHigh (rows (length names) lines) z) (sym high) h.high;
  low = subst (λ z. InTurn SaysLow (rows (length names) lines) z) (sym low) h.low;
}

rows_count : (names : List (List ℕ)) (lines : List (List Token)) (lists : Lists) → IsLists names lines lists → length (rows (length names) lines) ≡ length names
rows_count names lines lists h = sym (length-map (rows (length names) lines) name_on) ∙ ap length h.named

pub high_count : (names : List (List ℕ)) (lines : List (List Token)) (lists : Lists) → IsLists names lines lists → length lists.high ≡ length names
high_count names lines lists h = turn_count SaysHigh (rows (length names) lines) lists.high h.high ∙ rows_count names lines lists h

pub low_count : (names : List (List ℕ)) (lines : List (List Token)) (lists : Lists) → IsLists names lines lists → length lists.low ≡ length names
low_count names lines lists h = turn_count SaysLow (rows (length names) lines) lists.low h.low ∙ rows_count names lines lists h

-- A row's name is there where it is found.
pub found_row : (P : Type 0) {A : Type 0} (o : Option A) → IfSome o (λ x. P) → is_some o ≡ true → P
found_row P (Some x) h e = h
found_row P None h e = absurd (let t : false ≡ true = e in cc)

pub found_none : (P : Type 0) {A : Type 0} (o : Option A) → IfNone o (P → ⊥) → is_some o ≡ false → P → ⊥
found_none P None h e = h
found_none P (Some x) h e = absurd (let t : true ≡ false = e in cc)

-- ## values of words

-- What the accesses of a unit have where there is no word.
abbrev pub no_word : Heard ℤ
no_word = record { word = record { text = record { ref_ptr = (0, 0); now = [] }; place = record { line = 0; word = 0 }; form = Bare }; value = pos 0 }

pub value_read : (unit : List (Heard ℤ)) (n : ℕ) (heard : Heard ℤ) → n < length unit → heard ≡ get_or unit n heard → value_at unit n ≡ heard.value
value_read [] n heard inside is = absurd (omega arith)
value_read (x ∷ xs) zero heard inside is = ap (λ (z : Heard ℤ). z.value) (sym is)
value_read (x ∷ xs) (suc n) heard inside is = value_read xs n heard (omega arith) is

pub value_past : (unit : List (Heard ℤ)) (n : ℕ) → length unit ≤ n → value_at unit n ≡ pos 0
value_past [] n past = refl
value_past (x ∷ xs) zero past = absurd (omega arith)
value_past (x ∷ xs) (suc n) past = value_past xs n (omega arith)
