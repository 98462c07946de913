-- Lists of bytes cut at those that separate.
use Rattle.std.proofs.Common.{◌≡◌, ℕ, zero, suc, ◌+◌, ◌-◌, ◌<◌, ◌≤◌, ◌==◌, Bool, true, false, if◌then◌else◌, List, [], ◌∷◌, length, take, drop, get_or, filter, None, Some, refl, sym, ◌∙◌, ap, subst, arith, take_all, length-drop, ◌⊎◌, inl, inr}
use Rattle.std.proofs.lemmas.Bool.{false_from_ne_true}
use Rattle.std.proofs.lemmas.List.{get_or-drop}
use Rattle.memchr.specs.Find.{IsFirstByte, is_byte}
use Rattle.text_lex.specs.Bytes.{is_white}
use Rattle.text_lex.specs.declared.word.Mode.TheVariants.{Lines}
use Rattle.outside.specs.declared.place.Place.{Place}
use Rattle.reading.specs.declared.word.Form.TheVariants.{Bare}
use Rattle.netlist_words.specs.Line.{Line, with_byte, parts, numbered, is_some_word, words_of, placed}
use Rattle.netlist_words.specs.inside.Left.{IsRun, BeginsAt, lines_left}

abbrev pub part_by : ℕ → List (List ℕ) → Bool → List (List ℕ)
part_by byte rest separates = if separates then ([] ∷ rest) else with_byte byte rest

-- A list that has its first separating byte after n others.
pub parts_at : (separates : ℕ → Bool) (text : List ℕ) (n : ℕ) → n < length text → ((k : ℕ) → k < n → separates (get_or text k 0) ≡ false) →
    separates (get_or text n 0) ≡ true → parts separates text ≡ take n text ∷ parts separates (drop (suc n) text)
parts_at separates [] n within before at = absurd (omega arith)
parts_at separates (x ∷ xs) zero within before at = ap (part_by x (parts separates xs)) at
parts_at separates (x ∷ xs) (suc n) within before at =
    ap (part_by x (parts separates xs)) (before 0 (omega arith))
    ∙ ap (with_byte x) (parts_at separates xs n (omega arith) (λ k lt. before (suc k) (omega arith)) at)

-- A list that has none.
pub parts_none : (separates : ℕ → Bool) (text : List ℕ) → ((k : ℕ) → k < length text → separates (get_or text k 0) ≡ false) →
    parts separates text ≡ text ∷ []
parts_none separates [] none = refl
parts_none separates (x ∷ xs) none =
    ap (part_by x (parts separates xs)) (none 0 (omega arith))
    ∙ ap (with_byte x) (parts_none separates xs (λ k lt. none (suc k) (omega arith)))

-- ## lines

abbrev pub line_in : ℕ → List ℕ → Line
line_in number bytes = record { number = number; bytes = bytes }

abbrev pub is_feed : ℕ → Bool
is_feed byte = byte == 10

pub line_at : (number : ℕ) (text : List ℕ) (n : ℕ) → IsFirstByte (is_byte 10) text (Some n) →
    numbered number (parts is_feed text) ≡ record { number = number; bytes = take n text } ∷ numbered (number + 1) (parts is_feed (drop (suc n) text))
line_at number text n first =
    ap (λ z. numbered number z) (parts_at is_feed text n (omega (arith, first.0.high))
    (λ k lt. false_from_ne_true (get_or text k 0 == 10) (λ e. first.0.before k (omega arith) lt e)) first.1)

pub last_line : (number : ℕ) (text : List ℕ) → IsFirstByte (is_byte 10) text None →
    numbered number (parts is_feed text) ≡ record { number = number; bytes = text } ∷ []
last_line number text none =
    ap (λ z. numbered number z) (parts_none is_feed text
    (λ k lt. false_from_ne_true (get_or text k 0 == 10) (λ e. none k (omega arith) lt e)))

-- All from the nth byte on, as a slice has it.
pub rest_is : (n m : ℕ) (text : List ℕ) → m ≡ n → take (length text - m) (drop m text) ≡ drop n text
rest_is n m text e = ap (λ z. take (length text - z) (drop z text)) e ∙ take_all (length text - n) (drop n text) (omega (arith, length-drop n text))

pub line_taken : (more : Bool) (number : ℕ) (text : List ℕ) (n : ℕ) → more ≡ true → IsFirstByte (is_byte 10) text (Some n) →
    lines_left more number text ≡ record { number = number; bytes = take n text }
    ∷ lines_left more (number + 1) (take (length text - (n + 1)) (drop (n + 1) text))
line_taken more number text n is first =
    ap (λ z. lines_left z number text) is ∙ line_at number text n first
    ∙ ap (λ z. line_in number (take n text) ∷ numbered (number + 1) (parts is_feed z)) (sym (rest_is (suc n) (n + 1) text (omega arith)))
    ∙ ap (λ z. line_in number (take n text) ∷ lines_left z (number + 1) (take (length text - (n + 1)) (drop (n + 1) text))) (sym is)

pub last_taken : (more : Bool) (number : ℕ) (text : List ℕ) → more ≡ true → IsFirstByte (is_byte 10) text None →
    lines_left more number text ≡ record { number = number; bytes = text } ∷ []
last_taken more number text is none = ap (λ z. lines_left z number text) is ∙ last_line number text none

-- ## words

abbrev pub white : ℕ → Bool
white byte = is_white Lines byte

-- White bytes in front have no words.
pub words_gap : (text : List ℕ) (n : ℕ) → n ≤ length text → ((k : ℕ) → k < n → white (get_or text k 0) ≡ true) →
    words_of text ≡ words_of (drop n text)
words_gap [] zero within inside = refl
words_gap [] (suc n) within inside = absurd (omega arith)
words_gap (x ∷ xs) zero within inside = refl
words_gap (x ∷ xs) (suc n) within inside =
    ap (λ z. filter is_some_word (part_by x (parts white xs) z)) (inside 0 (omega arith))
    ∙ words_gap xs n (omega arith) (λ k lt. inside (suc k) (omega arith))

parts_run : (text : List ℕ) (m : ℕ) (others : List (List ℕ)) → m ≤ length text → ((k : ℕ) → k < m → white (get_or text k 0) ≡ false) →
    parts white (drop m text) ≡ [] ∷ others → parts white text ≡ take m text ∷ others
parts_run [] zero others within inside rest = rest
parts_run [] (suc m) others within inside rest = absurd (omega arith)
parts_run (x ∷ xs) zero others within inside rest = rest
parts_run (x ∷ xs) (suc m) others within inside rest =
    ap (part_by x (parts white xs)) (inside 0 (omega arith))
    ∙ ap (with_byte x) (parts_run xs m others (omega arith) (λ k lt. inside (suc k) (omega arith)) rest)

-- What stands where a word has ended: nothing, or a white byte.
record IsCut (rest : List ℕ) : Type 0 where
  others : List (List ℕ)
  parts_are : parts white rest ≡ [] ∷ others
  words_are : words_of rest ≡ filter is_some_word others

cut_of : (rest : List ℕ) → (0 < length rest → white (get_or rest 0 0) ≡ true) → IsCut rest
cut_of [] h = record { others = []; parts_are = refl; words_are = refl }
cut_of (y ∷ ys) h = record {
  others = parts white ys;
  parts_are = ap (part_by y (parts white ys)) (h (omega arith));
  words_are = ap (λ z. filter is_some_word (part_by y (parts white ys) z)) (h (omega arith));
}

some_taken : (text : List ℕ) (m : ℕ) → 0 < m → m ≤ length text → is_some_word (take m text) ≡ true
some_taken text zero some within = absurd (omega arith)
some_taken [] (suc m) some within = absurd (omega arith)
some_taken (x ∷ xs) (suc m) some within = refl

abbrev kept_by : List ℕ → List (List ℕ) → Bool → List (List ℕ)
kept_by word others kept = if kept then word ∷ filter is_some_word others else filter is_some_word others

-- Other bytes in front, as far as they go, are a word.
pub words_run : (text : List ℕ) (m : ℕ) → 0 < m → m ≤ length text → ((k : ℕ) → k < m → white (get_or text k 0) ≡ false) →
    (m < length text → white (get_or text m 0) ≡ true) → words_of text ≡ take m text ∷ words_of (drop m text)
words_run text m some within inside ends =
    let cut = cut_of (drop m text) (λ lt. ap white (get_or-drop m text 0 0 ∙ ap (λ k. get_or text k 0) (omega arith)) ∙ ends (omega (arith, length-drop m text))) in
    ap (λ z. filter is_some_word z) (parts_run text m cut.others within inside cut.parts_are)
    ∙ ap (kept_by (take m text) cut.others) (some_taken text m some within)
    ∙ ap (λ z. take m text ∷ z) (sym cut.words_are)

-- ## the words of a line that are left

abbrev pub slice_from : ℕ → List ℕ → List ℕ
slice_from n text = take (length text - n) (drop n text)

slice_is : (n : ℕ) (text : List ℕ) → slice_from n text ≡ drop n text
slice_is n text = rest_is n n text refl

nothing_left : (text : List ℕ) → length text ≡ 0 → text ≡ []
nothing_left [] h = refl
nothing_left (x ∷ xs) h = absurd (omega arith)

no_byte : (b : Bool) → b ≡ true → b ≡ false → ⊥
no_byte b h k = let t : true ≡ false = sym h ∙ k in cc

zero_or_more : (n : ℕ) → (n ≡ 0) ⊎ (0 < n)
zero_or_more zero = inl refl
zero_or_more (suc n) = inr (omega arith)

-- Where no other byte stands after the white ones, nothing is left.
pub words_none : (text : List ℕ) (n m : ℕ) → IsRun true text n → IsRun false (slice_from n text) m → m ≡ 0 →
    (words_of text ≡ []) × (words_of (slice_from m (slice_from n text)) ≡ [])
words_none text n m gap run none =
    let rest = slice_from n text in
    let size : length rest ≡ length text - n = ap length (slice_is n text) ∙ length-drop n text in
    let first : get_or rest 0 0 ≡ get_or text n 0 = ap (λ z. get_or z 0 0) (slice_is n text) ∙ get_or-drop n text 0 0 ∙ ap (λ k. get_or text k 0) (omega arith) in
    let empty : rest ≡ [] = nothing_left rest (elim (zero_or_more (length rest)) [
      | inl e ↦ e
      | inr lt ↦ absurd (no_byte (white (get_or rest 0 0)) (ap (λ k. white (get_or rest k 0)) (sym none) ∙ run.ends (omega arith)) (ap white first ∙ gap.ends (omega arith)))
    ]) in (
      words_gap text n gap.within gap.inside ∙ ap words_of (sym (slice_is n text) ∙ empty),
      ap words_of (slice_is m rest ∙ ap (λ z. drop z rest) none ∙ empty),
    )

pub words_some : (text : List ℕ) (n m : ℕ) → IsRun true text n → IsRun false (slice_from n text) m → 0 < m →
    words_of text ≡ take m (slice_from n text) ∷ words_of (slice_from m (slice_from n text))
words_some text n m gap run some =
    let rest = slice_from n text in
    words_gap text n gap.within gap.inside ∙ ap words_of (sym (slice_is n text))
    ∙ words_run rest m some run.within run.inside run.ends
    ∙ ap (λ z. take m rest ∷ words_of z) (sym (slice_is m rest))

-- ## the first word of a line

some_by : (is : Bool) (byte : ℕ) (others : List (List ℕ)) → 0 < length others → 0 < length (if is then ([] ∷ others) else with_byte byte others)
some_by true byte others h = omega arith
some_by false byte [] h = h
some_by false byte (text ∷ texts) h = omega arith

-- There is always a part.
pub parts_some : (separates : ℕ → Bool) (bytes : List ℕ) → 0 < length (parts separates bytes)
parts_some separates [] = omega arith
parts_some separates (byte ∷ bytes) = some_by (separates byte) byte (parts separates bytes) (parts_some separates bytes)

begun_by : (byte : ℕ) (texts : List (List ℕ)) → 0 < length texts → (p : List ℕ) × (others : List (List ℕ)) × (filter is_some_word (with_byte byte texts) ≡ (byte ∷ p) ∷ others)
begun_by byte [] h = absurd (let t : 0 < 0 = h in omega arith)
begun_by byte (text ∷ texts) h = (text, filter is_some_word texts, refl)

begins_at : (place : Place) (front : List ℕ) → (0 < length front → white (get_or front 0 0) ≡ false) → BeginsAt (placed place (words_of front)) front
begins_at place [] h = refl
begins_at place (byte ∷ bytes) h =
    let b = begun_by byte (parts white bytes) (parts_some white bytes) in
    let e : words_of (byte ∷ bytes) ≡ (byte ∷ b.0) ∷ b.1 = ap (λ z. filter is_some_word (part_by byte (parts white bytes) z)) (h (omega arith)) ∙ b.2 in (
      record { text = byte ∷ b.0; place = place; form = Bare },
      placed (record { line = place.line; word = place.word + 1 }) b.1,
      b.0,
      ap (placed place) e,
      refl,
    )

-- The bytes after the white ones begin with the first word.
pub begins_after : (place : Place) (text : List ℕ) (n : ℕ) → IsRun true text n → BeginsAt (placed place (words_of text)) (slice_from n text)
begins_after place text n gap =
    let same = slice_is n text in
    let first : get_or (drop n text) 0 0 ≡ get_or text n 0 = get_or-drop n text 0 0 ∙ ap (λ k. get_or text k 0) (omega arith) in
    subst (λ z. BeginsAt (placed place (words_of text)) z) (sym same)
    (subst (λ z. BeginsAt (placed place z) (drop n text)) (sym (words_gap text n gap.within gap.inside))
    (begins_at place (drop n text) (λ lt. ap white first ∙ gap.ends (omega (arith, lt, length-drop n text)))))
