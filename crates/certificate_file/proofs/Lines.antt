-- The words of a written certificate, line by line.
use Rattle.std.proofs.Common.{◌≡◌, ℕ, ◌<◌, ◌≤◌, ◌==◌, ◌&&◌, ◌||◌, not, Bool, true, false, if◌then◌else◌, ℤ, List, [], ◌∷◌, ◌++◌, length, map, codes, Ok, refl, sym, ◌∙◌, ap, subst, append_assoc, arith}
use Rattle.std.specs.Prelude.{IsTrue, None, slice_index}
use Rattle.std.specs.List.{list_all}
use Rattle.std.specs.Str.{bytes_eq}
use Rattle.std.specs.Str.Parse.{AllDigits, IsNumeral}
use Rattle.std.proofs.lemmas.Slice.Eq.{bytes_eq-Decides}
use Rattle.std.proofs.lemmas.Str.Parse.{digit_from_value}
use Rattle.outside.specs.declared.place.Place.{Place}
use Rattle.text_lex.specs.declared.word.Mode.TheVariants.{Lines}
use Rattle.text_lex.specs.declared.word.Form.TheVariants as split
use Rattle.text_lex.specs.Bytes.{is_plain, ends_bare}
use Rattle.text_lex.specs.Piece.{Piece, White, Item, IsBare}
use Rattle.text_lex.specs.Split.{IsMadeOf, place_after, words_from, last_from}
use Rattle.reading.specs.declared.word.Form.TheVariants.{Bare, Break}
use Rattle.reading.specs.Pattern.{joined}
use Rattle.reading.specs.Word.{Token, word_of}
use Rattle.fixed_decimal.specs.Printed.{printed}
use Rattle.certificate_file.specs.declared.sort.Sort.TheVariants.{Pdn, Certificate, Version, Last, Mark, Other}
use Rattle.certificate_file.specs.Sort.{sort_of_text}
use Rattle.certificate_file.specs.Rule.{is_name, is_number}
use Rattle.certificate_file.specs.Voltage.{IsVoltage}
use Rattle.certificate_file.specs.Written.{row_text, rows_text}

-- ## numbers as words

and_true : (a b : Bool) → a ≡ true → b ≡ true → (a && b) ≡ true
and_true true b h k = k
and_true false b h k = absurd (let t : false ≡ true = h in cc)

differs_by : (c n : ℕ) (b : Bool) → (c == n) ≡ b → (c ≡ n → ⊥) → (c == n) ≡ false
differs_by c n true e h = absurd (h (grind (arith, e)))
differs_by c n false e h = e

differs : (c n : ℕ) → (c ≡ n → ⊥) → (c == n) ≡ false
differs c n h = differs_by c n (c == n) refl h

no_true : true ≡ false → ⊥
no_true h = cc

plain_by : (a b c d : Bool) → a ≡ false → b ≡ false → c ≡ false → d ≡ false →
    (not (a || b || c || (d && false)) && not d && true) ≡ true
plain_by false false false false e f g h = refl
plain_by true b c d e f g h = absurd (no_true e)
plain_by false true c d e f g h = absurd (no_true f)
plain_by false false true d e f g h = absurd (no_true g)
plain_by false false false true e f g h = absurd (no_true h)

-- The bytes of a sign and of digits stand in words.
plain_byte : (c : ℕ) → 45 ≤ c → c ≤ 57 → is_plain Lines c ≡ true
plain_byte c low high =
    plain_by (c == 32) (c == 9) (c == 13) (c == 10)
    (differs c 32 (λ e. omega arith)) (differs c 9 (λ e. omega arith)) (differs c 13 (λ e. omega arith)) (differs c 10 (λ e. omega arith))

digits_plain : (digits : List ℕ) → AllDigits 10 digits → list_all (is_plain Lines) digits ≡ true
digits_plain [] h = refl
digits_plain (c ∷ cs) h =
    let range = digit_from_value c h.0 in
    let low : 48 ≤ c = range.0 in
    let high : c ≤ 57 = range.1 in
    and_true (is_plain Lines c) (list_all (is_plain Lines) cs) (plain_byte c (omega arith) high) (digits_plain cs h.1)

-- A word that may be a number: it begins with a sign or a digit.
pub record IsNumberWord (text : List ℕ) : Type 0 where
  pub some : 0 < length text
  pub low : 45 ≤ slice_index text 0
  pub high : slice_index text 0 ≤ 57
  pub plain : IsTrue (list_all (is_plain Lines) text)

no_digits : 0 < length {A = ℕ} [] → ⊥
no_digits h = omega arith

signed_word : (negative : Bool) (digits : List ℕ) → IsNumeral 10 digits → IsNumberWord ((if negative then codes "-" else []) ++ digits)
signed_word true digits h = record { some = omega arith; low = omega arith; high = omega arith; plain = digits_plain digits h.1 }
signed_word false [] h = absurd (no_digits h.0)
signed_word false (c ∷ cs) h =
    let range = digit_from_value c h.1.0 in
    let low : 48 ≤ c = range.0 in
    let high : c ≤ 57 = range.1 in
    record {
      some = omega arith;
      low = omega arith;
      high = high;
      plain = digits_plain (c ∷ cs) h.1;
    }

pub voltage_word : (text : List ℕ) (v : ℤ) → IsVoltage text (Ok v) → IsNumberWord text
voltage_word text v h = subst (λ z. IsNumberWord z) (sym h.1.is) (signed_word h.1.negative h.1.digits h.1.form)

-- ## sorts

number_by : (a b c d e f g : Bool) → e ≡ false → f ≡ false → g ≡ false →
    is_number (if a then Pdn else if b then Certificate else if c then Version else if d then Last else if e then Mark else if f then Mark else if g then Mark else Other) ≡ true
number_by true b c d e f g x y z = refl
number_by false true c d e f g x y z = refl
number_by false false true d e f g x y z = refl
number_by false false false true e f g x y z = refl
number_by false false false false true f g x y z = absurd (no_true x)
number_by false false false false false true g x y z = absurd (no_true y)
number_by false false false false false false true x y z = absurd (no_true z)
number_by false false false false false false false x y z = refl

name_by : (a b c d e f g : Bool) →
    is_name (if a then Pdn else if b then Certificate else if c then Version else if d then Last else if e then Mark else if f then Mark else if g then Mark else Other) ≡ true
name_by true b c d e f g = refl
name_by false true c d e f g = refl
name_by false false true d e f g = refl
name_by false false false true e f g = refl
name_by false false false false true f g = refl
name_by false false false false false true g = refl
name_by false false false false false false true = refl
name_by false false false false false false false = refl

other_by : (a b : List ℕ) (is : Bool) → bytes_eq a b ≡ is → (a ≡ b → ⊥) → bytes_eq a b ≡ false
other_by a b true e h = absurd (h ((bytes_eq-Decides a b).0 e))
other_by a b false e h = e

-- A word that begins with another byte is another word.
other_word : (text : List ℕ) (byte : ℕ) → (slice_index text 0 ≡ byte → ⊥) → bytes_eq text (byte ∷ []) ≡ false
other_word text byte h = other_by text (byte ∷ []) (bytes_eq text (byte ∷ [])) refl (λ e. h (ap (λ z. slice_index z 0) e))

pub number_sort : (text : List ℕ) → IsNumberWord text → is_number (sort_of_text text) ≡ true
number_sort text word =
    let low = word.low in
    let high = word.high in
    number_by (bytes_eq text (codes "pdn")) (bytes_eq text (codes "certificate")) (bytes_eq text (codes "1")) (bytes_eq text (codes "end"))
    (bytes_eq text (codes ";")) (bytes_eq text (codes "(")) (bytes_eq text (codes ")"))
    (other_word text 59 (λ e. omega arith)) (other_word text 40 (λ e. omega arith)) (other_word text 41 (λ e. omega arith))

pub name_sort : (text : List ℕ) → is_name (sort_of_text text) ≡ true
name_sort text =
    name_by (bytes_eq text (codes "pdn")) (bytes_eq text (codes "certificate")) (bytes_eq text (codes "1")) (bytes_eq text (codes "end"))
    (bytes_eq text (codes ";")) (bytes_eq text (codes "(")) (bytes_eq text (codes ")"))

-- ## pieces

begins_by : (p q r : Bool) → (not (p && false) && not (q && false) && not (r && false)) ≡ true
begins_by true true true = refl
begins_by true true false = refl
begins_by true false true = refl
begins_by true false false = refl
begins_by false true true = refl
begins_by false true false = refl
begins_by false false true = refl
begins_by false false false = refl

pub bare_word : (b : Bool) (text more : List ℕ) → 0 < length text → IsTrue (list_all (is_plain Lines) text) → IsTrue (ends_bare Lines more) → IsBare Lines b text more
bare_word b text more some plain ends = record {
  some = some;
  begins = begins_by (slice_index text 0 == 35) (slice_index text 0 == 34) (slice_index text 0 == 123);
  plain = plain;
  ends = ends;
}

-- The pieces of a line of three words.
abbrev pub line : List ℕ → List ℕ → List ℕ → List Piece → List Piece
line a b c more =
    Item split.Bare a ∷ White 32 ∷ Item split.Bare b ∷ White 32 ∷ Item split.Bare c ∷ Item split.Break (10 ∷ []) ∷ more

abbrev pub line_bytes : List ℕ → List ℕ → List ℕ → List ℕ → List ℕ
line_bytes a b c rest = a ++ (32 ∷ (b ++ (32 ∷ (c ++ (10 ∷ rest)))))

-- The bytes are one word.
pub record IsWord (text : List ℕ) : Type 0 where
  pub some : 0 < length text
  pub plain : IsTrue (list_all (is_plain Lines) text)

pub number_word : (text : List ℕ) → IsNumberWord text → IsWord text
number_word text word = record { some = word.some; plain = word.plain }

pub line_made : (a b c rest : List ℕ) (pieces : List Piece) → IsWord a → IsWord b → IsWord c → IsMadeOf Lines true pieces None rest →
    IsMadeOf Lines true (line a b c pieces) None (line_bytes a b c rest)
line_made a b c rest pieces wa wb wc made =
    let after_c : List ℕ = 10 ∷ rest in
    let after_b : List ℕ = 32 ∷ (c ++ after_c) in
    let after_a : List ℕ = 32 ∷ (b ++ after_b) in (
      after_a,
      refl,
      bare_word true a after_a wa.some wa.plain refl,
      (
        b ++ after_b,
        refl,
        refl,
        (
          after_b,
          refl,
          bare_word false b after_b wb.some wb.plain refl,
          (c ++ after_c, refl, refl, (after_c, refl, bare_word false c after_c wc.some wc.plain refl, (rest, refl, (refl, refl), made))),
        ),
      ),
    )

line_spread : (a b c rest : List ℕ) → (a ++ (32 ∷ (b ++ (32 ∷ (c ++ 10 ∷ []))))) ++ rest ≡ line_bytes a b c rest
line_spread a b c rest =
    append_assoc a (32 ∷ (b ++ (32 ∷ (c ++ 10 ∷ [])))) rest
    ∙ ap (λ z. a ++ (32 ∷ z)) (append_assoc b (32 ∷ (c ++ 10 ∷ [])) rest ∙ ap (λ z. b ++ (32 ∷ z)) (append_assoc c (10 ∷ []) rest))

-- The pieces of the lines of nodes.
abbrev pub rows_pieces : List (List ℕ) → List ℤ → List ℤ → List Piece → List Piece
rows_pieces (name ∷ names) (high ∷ highs) (low ∷ lows) more =
    line name (printed high 0) (printed low 0) (rows_pieces names highs lows more)
rows_pieces _ _ _ more = more

-- Each name is a word, and each voltage is written as what it is.
abbrev pub AreRows : List (List ℕ) → List ℤ → List ℤ → Type 0
AreRows [] [] [] = Unit {0}
AreRows (name ∷ names) (high ∷ highs) (low ∷ lows) =
    IsWord name × IsVoltage (printed high 0) (Ok high) × IsVoltage (printed low 0) (Ok low) × AreRows names highs lows
AreRows _ _ _ = ⊥

pub rows_made : (names : List (List ℕ)) (highs lows : List ℤ) (rest : List ℕ) (pieces : List Piece) → AreRows names highs lows →
    IsMadeOf Lines true pieces None rest → IsMadeOf Lines true (rows_pieces names highs lows pieces) None (rows_text names highs lows ++ rest)
rows_made [] [] [] rest pieces h made = made
rows_made (name ∷ names) (high ∷ highs) (low ∷ lows) rest pieces h made =
    let more : List ℕ = rows_text names highs lows ++ rest in
    let spread : (row_text name high low ++ rows_text names highs lows) ++ rest ≡ line_bytes name (printed high 0) (printed low 0) more =
    append_assoc (row_text name high low) (rows_text names highs lows) rest ∙ line_spread name (printed high 0) (printed low 0) more in
    subst (λ z. IsMadeOf Lines true (rows_pieces (name ∷ names) (high ∷ highs) (low ∷ lows) pieces) None z) (sym spread)
    (line_made name (printed high 0) (printed low 0) more (rows_pieces names highs lows pieces) h.0
    (number_word (printed high 0) (voltage_word (printed high 0) high h.1)) (number_word (printed low 0) (voltage_word (printed low 0) low h.2))
    (rows_made names highs lows rest pieces h.3 made))
rows_made [] [] (low ∷ lows) rest pieces h made = absurd h
rows_made [] (high ∷ highs) lows rest pieces h made = absurd h
rows_made (name ∷ names) [] lows rest pieces h made = absurd h
rows_made (name ∷ names) (high ∷ highs) [] rest pieces h made = absurd h

-- ## words

abbrev pub word_at : List ℕ → Place → Token
word_at text place = record { text = text; place = place; form = Bare }

abbrev pub break_at : Place → Token
break_at place = record { text = 10 ∷ []; place = place; form = Break }

-- The place after a word and the blank behind it.
abbrev pub after_word : Place → List ℕ → Place
after_word place text = place_after (place_after place (Item split.Bare text)) (White 32)

-- The place of the end of a line of three words, and the place after it.
abbrev pub break_place : Place → List ℕ → List ℕ → List ℕ → Place
break_place place a b c = place_after (after_word (after_word place a) b) (Item split.Bare c)

abbrev pub after_line : Place → List ℕ → List ℕ → List ℕ → Place
after_line place a b c = place_after (break_place place a b c) (Item split.Break (10 ∷ []))

-- The words of a line of three words.
abbrev pub line_unit : Place → List ℕ → List ℕ → List ℕ → List Token
line_unit place a b c =
    word_at a place ∷ word_at b (after_word place a) ∷ word_at c (after_word (after_word place a) b) ∷ break_at (break_place place a b c) ∷ []

abbrev pub rows_units : Place → List (List ℕ) → List ℤ → List ℤ → List (List Token)
rows_units place (name ∷ names) (high ∷ highs) (low ∷ lows) =
    line_unit place name (printed high 0) (printed low 0)
    ∷ rows_units (after_line place name (printed high 0) (printed low 0)) names highs lows
rows_units place _ _ _ = []

-- The place after the lines of nodes.
abbrev pub rows_end : Place → List (List ℕ) → List ℤ → List ℤ → Place
rows_end place (name ∷ names) (high ∷ highs) (low ∷ lows) =
    rows_end (after_line place name (printed high 0) (printed low 0)) names highs lows
rows_end place _ _ _ = place

pub rows_words : (place : Place) (names : List (List ℕ)) (highs lows : List ℤ) (more : List Piece) → AreRows names highs lows →
    map word_of (words_from place (rows_pieces names highs lows more))
    ≡ joined (rows_units place names highs lows) ++ map word_of (words_from (rows_end place names highs lows) more)
rows_words place [] [] [] more h = refl
rows_words place (name ∷ names) (high ∷ highs) (low ∷ lows) more h =
    ap (λ z. line_unit place name (printed high 0) (printed low 0) ++ z)
    (rows_words (after_line place name (printed high 0) (printed low 0)) names highs lows more h.3)
rows_words place [] [] (low ∷ lows) more h = absurd h
rows_words place [] (high ∷ highs) lows more h = absurd h
rows_words place (name ∷ names) [] lows more h = absurd h
rows_words place (name ∷ names) (high ∷ highs) [] more h = absurd h

pub rows_last : (place : Place) (names : List (List ℕ)) (highs lows : List ℤ) (more : List Piece) → AreRows names highs lows →
    last_from place (rows_pieces names highs lows more) ≡ last_from (rows_end place names highs lows) more
rows_last place [] [] [] more h = refl
rows_last place (name ∷ names) (high ∷ highs) (low ∷ lows) more h =
    rows_last (after_line place name (printed high 0) (printed low 0)) names highs lows more h.3
rows_last place [] [] (low ∷ lows) more h = absurd h
rows_last place [] (high ∷ highs) lows more h = absurd h
rows_last place (name ∷ names) [] lows more h = absurd h
rows_last place (name ∷ names) (high ∷ highs) [] more h = absurd h
