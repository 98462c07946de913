-- A step of the splitter: a gap, or a word, and the place after it.
use Rattle.std.proofs.Common.{◌≡◌, ◌≢◌, refl, sym, ap, ◌∙◌, ℕ, ◌+◌, ◌-◌, ◌<◌, ◌≤◌, ◌^◌, Bool, true, ◌==◌, not, List, [], ◌∷◌, ◌++◌, length, take, drop, get_or, length-drop, length-append, take-append-drop, arith}
use Rattle.std.specs.List.{list_all}
use Rattle.std.proofs.lemmas.Bool.{cond_both, cond-true, cond-false, eq-eqb, ne_eqb, and_parts, not-true}
use Rattle.std.proofs.lemmas.List.{take_rest}
use Rattle.memchr.specs.Find.{is_byte, places}
use Rattle.memchr.proofs.lemmas.CallerLemmas.{length-places}
use Rattle.outside.specs.declared.place.Place.{Place}
use Rattle.text_lex.specs.Bytes.{count_of, is_white, is_plain}
use Rattle.text_lex.specs.Piece.{Piece, Item, spelled, spelled_word, IsWord, ends_command}
use Rattle.text_lex.specs.Split.{place_after, words_in, with_front}
use Rattle.text_lex.specs.inside.Front.{IsGap, BeginsWithGap, FeedsAs, after_feeds}
use Rattle.text_lex.specs.inside.Splitting.{words_left, CanCount}
use Rattle.text_lex.specs.declared.word.Mode.{Mode}
use Rattle.text_lex.specs.declared.word.Form.{Form}
use Rattle.text_lex.specs.declared.word.Form.TheVariants.{Bare, Quoted, Braced, Break, Semicolon}
use Rattle.text_lex.proofs.Counting.{count_of-append, count_by-count_of, count_of-le-length}
use Rattle.text_lex.proofs.Made.{left_gap, left_word, piece_some}
use Rattle.text_lex.proofs.Finding.{zero_counts}

-- Quotes and braces are no line feeds.
pub feeds_in : (form : Form) (text : List ℕ) → count_of 10 (spelled_word form text) ≡ count_of 10 text
feeds_in Bare text = refl
feeds_in Quoted text = omega (arith, count_of-append 10 text (34 ∷ []))
feeds_in Braced text = omega (arith, count_of-append 10 text (125 ∷ []))
feeds_in Break text = refl
feeds_in Semicolon text = refl

pub place_after_word : (place : Place) (form : Form) (text : List ℕ) → after_feeds place (count_of 10 text) ≡ place_after place (Item form text)
place_after_word place form text = ap (after_feeds place) (sym (feeds_in form text))

-- The line feeds that are found are those that are counted.
pub feeds_found : (text found : List ℕ) (n : ℕ) → found ≡ places (is_byte 10) text → n ≡ length found → n ≡ count_of 10 text
feeds_found text found n is count = count ∙ (ap length is ∙ (length-places (is_byte 10) text ∙ count_by-count_of 10 text))

pub after_none : (place : Place) (n feeds : ℕ) → n ≡ feeds → n ≡ 0 → record { line = place.line; word = place.word + 1 } ≡ after_feeds place feeds
after_none place n feeds is none = sym (cond-true (feeds == 0) _ _ (eq-eqb feeds 0 (sym is ∙ none)))

pub after_some : (place : Place) (n feeds : ℕ) → n ≡ feeds → n ≢ 0 → ◌≡◌ {A = Place} (record { line = place.line + n; word = 1 }) (after_feeds place feeds)
after_some place n feeds is some =
    ap (λ k. record { line = place.line + k; word = 1 }) is ∙ sym (cond-false (feeds == 0) _ _ (ne_eqb feeds 0 (λ e. some (is ∙ e))))

module _ (mode : Mode) (opens : Bool) (text : List ℕ) (len : ℕ) (piece : Piece) (gap : IsGap mode opens text len piece) where
  feeds_yes : get_or text (len - 1) 0 ≡ 10 → count_of 10 (spelled piece) ≡ 1
  feeds_yes e = gap.feeds ∙ cond-true {A = ℕ} (get_or text (len - 1) 0 == 10) 1 0 (eq-eqb _ 10 e)

  feeds_no : get_or text (len - 1) 0 ≢ 10 → count_of 10 (spelled piece) ≡ 0
  feeds_no e = gap.feeds ∙ cond-false {A = ℕ} (get_or text (len - 1) 0 == 10) 1 0 (ne_eqb _ 10 e)

  place_yes : (place : Place) → get_or text (len - 1) 0 ≡ 10 → ◌≡◌ {A = Place} (record { line = place.line + 1; word = 1 }) (place_after place piece)
  place_yes place e =
      let one = feeds_yes e in
      ap (λ k. record { line = place.line + k; word = 1 }) (sym one) ∙ sym (cond-false (count_of 10 (spelled piece) == 0) _ _ (ne_eqb _ 0 (omega (arith, one))))

  place_no : (place : Place) → get_or text (len - 1) 0 ≢ 10 → place ≡ place_after place piece
  place_no place e =
      let same : place.word ≡ place.word + words_in piece = omega (arith, gap.no_word) in
      ap (λ k. record { line = place.line; word = k }) same ∙ sym (cond-true (count_of 10 (spelled piece) == 0) _ _ (eq-eqb _ 0 (feeds_no e)))

  gap_left : (place : Place) → words_left mode opens (place_after place piece) (drop len text) ≡ words_left mode opens place text
  gap_left place =
      let whole : spelled piece ++ drop len text ≡ text = ap (λ x. x ++ drop len text) gap.spelling ∙ take-append-drop len text in
      sym (left_gap mode opens place piece (drop len text) gap.stands gap.no_word) ∙ ap (words_left mode opens place) whole

-- What is left after a gap, where it ends its line and where it does not.
pub gap_with_feed : (mode : Mode) (opens : Bool) (text : List ℕ) (len : ℕ) (place : Place) → ((piece : Piece) × IsGap mode opens text len piece) → get_or text (len - 1) 0 ≡ 10 →
    words_left mode opens (record { line = place.line + 1; word = 1 }) (take (length text - len) (drop len text)) ≡ words_left mode opens place text
gap_with_feed mode opens text len place gap e =
    ap (λ x. words_left mode opens (record { line = place.line + 1; word = 1 }) x) (take_rest text len)
    ∙ (ap (λ p. words_left mode opens p (drop len text)) (place_yes mode opens text len gap.0 gap.1 place e) ∙ gap_left mode opens text len gap.0 gap.1 place)

pub gap_in_line : (mode : Mode) (opens : Bool) (text : List ℕ) (len : ℕ) (place : Place) → ((piece : Piece) × IsGap mode opens text len piece) → get_or text (len - 1) 0 ≢ 10 →
    words_left mode opens place (take (length text - len) (drop len text)) ≡ words_left mode opens place text
gap_in_line mode opens text len place gap e =
    ap (words_left mode opens place) (take_rest text len)
    ∙ (ap (λ p. words_left mode opens p (drop len text)) (place_no mode opens text len gap.0 gap.1 place e) ∙ gap_left mode opens text len gap.0 gap.1 place)

rest_length : (text : List ℕ) (len : ℕ) → length (take (length text - len) (drop len text)) ≡ length text - len
rest_length text len = ap length (take_rest text len) ∙ length-drop len text

pub count_with_feed : (place : Place) (text : List ℕ) (len : ℕ) → 0 < len → len ≤ length text → CanCount place text → CanCount (record { line = place.line + 1; word = 1 }) (take (length text - len) (drop len text))
count_with_feed place text len some within c = record {
  lines = omega (arith, rest_length text len, c.lines, some, within);
  words = omega (arith, rest_length text len, c.words, some, within);
}

pub count_in_line : (place : Place) (text : List ℕ) (len : ℕ) → CanCount place text → CanCount place (take (length text - len) (drop len text))
count_in_line place text len c = record { lines = omega (arith, rest_length text len, c.lines); words = omega (arith, rest_length text len, c.words) }

-- A bare word has no line feed.
plain_feeds : (mode : Mode) (text : List ℕ) → list_all (is_plain mode) text ≡ true → count_of 10 text ≡ 0
plain_feeds mode [] h = refl
plain_feeds mode (b ∷ bs) h =
    let parts = and_parts (is_plain mode b) _ h in
    let gaps = and_parts _ _ parts.0 in
    let feed = and_parts (not (is_white mode b)) _ gaps.0 in
    zero_counts (b == 10) _ (not-true _ feed.1) (plain_feeds mode bs parts.1)

pub word_feeds : (mode : Mode) (opens : Bool) (form : Form) (text more : List ℕ) → IsWord mode opens form text more → FeedsAs form text
word_feeds mode opens Bare text more h = plain_feeds mode text h.plain
word_feeds mode opens Quoted text more h = tt
word_feeds mode opens Braced text more h = tt
word_feeds mode opens Break text more h = ap (count_of 10) h.1
word_feeds mode opens Semicolon text more h = ap (count_of 10) h.1

-- A word has a byte, and no fewer than its text.
word_some : (mode : Mode) (opens : Bool) (form : Form) (text more : List ℕ) → IsWord mode opens form text more → 1 ≤ length (spelled_word form text)
word_some mode opens form text more h = omega (arith, piece_some mode opens (Item form text) more h)

spelled_length : (form : Form) (text : List ℕ) → length text ≤ length (spelled_word form text)
spelled_length Bare text = omega arith
spelled_length Quoted text = omega (arith, length-append text (34 ∷ []))
spelled_length Braced text = omega (arith, length-append text (125 ∷ []))
spelled_length Break text = omega arith
spelled_length Semicolon text = omega arith

-- The word in front of a text that can be counted, and what stands after it.
pub record HasWord (mode : Mode) (opens : Bool) (place : Place) (text : List ℕ) (form : Form) (word more : List ℕ) : Type 0 where
  pub is_word : IsWord mode opens form word more
  pub is : text ≡ spelled_word form word ++ more
  pub counts : CanCount place text

pub word_lengths : (mode : Mode) (opens : Bool) (place : Place) (text : List ℕ) (form : Form) (word more : List ℕ) → HasWord mode opens place text form word more → (place.line + length word < 2 ^ 64) × (place.word + 1 < 2 ^ 64)
word_lengths mode opens place text form word more h =
    let size = ap length h.is ∙ length-append (spelled_word form word) more in
    let some = word_some mode opens form word more h.is_word in
    (omega (arith, size, spelled_length form word, h.counts.lines), omega (arith, size, some, h.counts.words))

pub word_counts : (mode : Mode) (opens : Bool) (place : Place) (text : List ℕ) (form : Form) (word more : List ℕ) → HasWord mode opens place text form word more → CanCount (place_after place (Item form word)) more
word_counts mode opens place text form word more h =
    let size = ap length h.is ∙ length-append (spelled_word form word) more in
    let some = word_some mode opens form word more h.is_word in
    let feeds = count_of-le-length 10 (spelled_word form word) in
    let P : Place → Type 0 = λ p. CanCount p more in
    cond_both (count_of 10 (spelled_word form word) == 0) _ _ P
    (λ _. record { lines = omega (arith, size, h.counts.lines); words = omega (arith, size, some, h.counts.words) })
    (λ _. record { lines = omega (arith, size, feeds, h.counts.lines); words = omega (arith, size, some, h.counts.words) })

pub word_left : (mode : Mode) (opens : Bool) (place : Place) (text : List ℕ) (form : Form) (word more : List ℕ) → HasWord mode opens place text form word more →
    words_left mode opens place text ≡ with_front (record { text = word; place = place; form = form }) (words_left mode (ends_command form) (place_after place (Item form word)) more)
word_left mode opens place text form word more h =
    ap (words_left mode opens place) h.is ∙ left_word mode opens place form word more h.is_word

-- The words that are left while a gap is passed over.
pub record IsLeft (mode : Mode) (opens : Bool) (start : Place) (text : List ℕ) (place : Place) (rest : List ℕ) : Type 0 where
  pub words : words_left mode opens place rest ≡ words_left mode opens start text
  pub counts : CanCount place rest

pub left_with_feed : (mode : Mode) (opens : Bool) (start : Place) (text : List ℕ) (place : Place) (rest : List ℕ) (len : ℕ) → IsLeft mode opens start text place rest → BeginsWithGap mode opens rest len → 0 < len → get_or rest (len - 1) 0 ≡ 10 →
    IsLeft mode opens start text (record { line = place.line + 1; word = 1 }) (take (length rest - len) (drop len rest))
left_with_feed mode opens start text place rest len left gap some e =
    record { words = gap_with_feed mode opens rest len place (gap.some some) e ∙ left.words; counts = count_with_feed place rest len some gap.within left.counts }

pub left_in_line : (mode : Mode) (opens : Bool) (start : Place) (text : List ℕ) (place : Place) (rest : List ℕ) (len : ℕ) → IsLeft mode opens start text place rest → BeginsWithGap mode opens rest len → 0 < len → get_or rest (len - 1) 0 ≢ 10 →
    IsLeft mode opens start text place (take (length rest - len) (drop len rest))
left_in_line mode opens start text place rest len left gap some e =
    record { words = gap_in_line mode opens rest len place (gap.some some) e ∙ left.words; counts = count_in_line place rest len left.counts }
