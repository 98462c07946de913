-- Lines of words: what is written as lines of words is taken apart into these lines and words again.
use Rattle.std.proofs.Common.{◌≡◌, ℕ, ◌+◌, ◌<◌, ◌==◌, ◌&&◌, not, Bool, true, false, List, [], ◌∷◌, ◌++◌, length, refl, ◌∙◌, ap, append_assoc, arith}
use Rattle.std.specs.Prelude.{IsTrue, if◌then◌else◌, filter, flat_map}
use Rattle.std.specs.List.{list_all, join_with_byte, AllByRecursion}
use Rattle.text_lex.specs.declared.word.Mode.TheVariants.{Lines}
use Rattle.text_lex.specs.Bytes.{is_plain, is_white, line_feed, count_of}
use Rattle.netlist_words.specs.Line.{parts, with_byte, is_some_word, words_of}

-- The bytes are one word of a line.
pub record IsText (text : List ℕ) : Type 0 where
  pub some : 0 < length text
  pub plain : IsTrue (list_all (is_plain Lines) text)

abbrev pub is_feed : ℕ → Bool
is_feed byte = byte == line_feed

-- None of the bytes separates.
abbrev pub None : (ℕ → Bool) → List ℕ → Type 0
None separates bytes = AllByRecursion (λ byte. separates byte ≡ false) bytes

true_not_false : true ≡ false → ⊥
true_not_false h = cc

false_not_true : false ≡ true → ⊥
false_not_true h = cc

both : (a b : Bool) → (a && b) ≡ true → (a ≡ true) × (b ≡ true)
both true b h = (refl, h)
both false b h = absurd (false_not_true h)

plain_by : (white feed : Bool) → (not white && not feed && true) ≡ true → (white ≡ false) × (feed ≡ false)
plain_by true feed h = absurd (false_not_true h)
plain_by false true h = absurd (false_not_true h)
plain_by false false h = (refl, refl)

plain_byte : (byte : ℕ) → is_plain Lines byte ≡ true → (is_white Lines byte ≡ false) × (is_feed byte ≡ false)
plain_byte byte h = plain_by (is_white Lines byte) (is_feed byte) h

no_white_plain : (text : List ℕ) → IsTrue (list_all (is_plain Lines) text) → None (is_white Lines) text
no_white_plain [] h = tt
no_white_plain (byte ∷ bytes) h =
    let t = both (is_plain Lines byte) (list_all (is_plain Lines) bytes) h in
    ((plain_byte byte t.0).0, no_white_plain bytes t.1)

no_feed_plain : (text : List ℕ) → IsTrue (list_all (is_plain Lines) text) → None is_feed text
no_feed_plain [] h = tt
no_feed_plain (byte ∷ bytes) h =
    let t = both (is_plain Lines byte) (list_all (is_plain Lines) bytes) h in
    ((plain_byte byte t.0).1, no_feed_plain bytes t.1)

pub none_both : (separates : ℕ → Bool) (xs ys : List ℕ) → None separates xs → None separates ys → None separates (xs ++ ys)
none_both separates [] ys h k = k
none_both separates (x ∷ xs) ys h k = (h.0, none_both separates xs ys h.1 k)

-- No line feed is counted.
counted_by : (is : Bool) (byte more : ℕ) → is_feed byte ≡ is → (if is then 1 else 0) + more ≡ 0 → (is_feed byte ≡ false) × (more ≡ 0)
counted_by true byte more e h = absurd (omega arith)
counted_by false byte more e h = (e, omega arith)

pub none_counted : (text : List ℕ) → count_of line_feed text ≡ 0 → None is_feed text
none_counted [] h = tt
none_counted (byte ∷ bytes) h =
    let t = counted_by (is_feed byte) byte (count_of line_feed bytes) refl h in
    (t.0, none_counted bytes t.1)

-- ## parts

part_more : (separates : ℕ → Bool) (byte : ℕ) (bytes : List ℕ) (is : Bool) → separates byte ≡ is → is ≡ false →
    (if separates byte then ([] ∷ parts separates bytes) else with_byte byte (parts separates bytes)) ≡ with_byte byte (parts separates bytes)
part_more separates byte bytes is e f =
    ap (λ z. if z then ([] ∷ parts separates bytes) else with_byte byte (parts separates bytes)) (e ∙ f)

part_ends : (separates : ℕ → Bool) (byte : ℕ) (bytes : List ℕ) → separates byte ≡ true →
    (if separates byte then ([] ∷ parts separates bytes) else with_byte byte (parts separates bytes)) ≡ [] ∷ parts separates bytes
part_ends separates byte bytes e = ap (λ z. if z then ([] ∷ parts separates bytes) else with_byte byte (parts separates bytes)) e

-- The first part goes on to the first byte that separates.
pub parts_first : (separates : ℕ → Bool) (text : List ℕ) (byte : ℕ) (more : List ℕ) → None separates text → separates byte ≡ true →
    parts separates (text ++ byte ∷ more) ≡ text ∷ parts separates more
parts_first separates [] byte more h e = part_ends separates byte more e
parts_first separates (x ∷ xs) byte more h e =
    part_more separates x (xs ++ byte ∷ more) false h.0 refl ∙ ap (with_byte x) (parts_first separates xs byte more h.1 e)

-- Bytes of which none separates are one part.
parts_one : (separates : ℕ → Bool) (text : List ℕ) → None separates text → parts separates text ≡ text ∷ []
parts_one separates [] h = refl
parts_one separates (x ∷ xs) h = part_more separates x xs false h.0 refl ∙ ap (with_byte x) (parts_one separates xs h.1)

-- ## words

some_first : (text : List ℕ) (texts : List (List ℕ)) → 0 < length text → filter is_some_word (text ∷ texts) ≡ text ∷ filter is_some_word texts
some_first [] texts h = absurd (omega arith)
some_first (byte ∷ bytes) texts h = refl

-- The words of a line that is written.
pub words_back : (words : List (List ℕ)) → AllByRecursion IsText words → words_of (join_with_byte 32 words) ≡ words
words_back [] h = refl
words_back (x ∷ []) h =
    ap (filter is_some_word) (parts_one (is_white Lines) x (no_white_plain x h.0.plain)) ∙ some_first x [] h.0.some
words_back (x ∷ y ∷ words) h =
    ap (filter is_some_word) (parts_first (is_white Lines) x 32 (join_with_byte 32 (y ∷ words)) (no_white_plain x h.0.plain) refl)
    ∙ some_first x (parts (is_white Lines) (join_with_byte 32 (y ∷ words))) h.0.some
    ∙ ap (λ z. x ∷ z) (words_back (y ∷ words) h.1)

-- No line feed stands in it.
pub no_feed_in : (words : List (List ℕ)) → AllByRecursion (None is_feed) words → None is_feed (join_with_byte 32 words)
no_feed_in [] h = tt
no_feed_in (x ∷ []) h = h.0
no_feed_in (x ∷ y ∷ words) h = none_both is_feed x (32 ∷ join_with_byte 32 (y ∷ words)) h.0 (refl, no_feed_in (y ∷ words) h.1)

pub text_no_feed : (text : List ℕ) → IsText text → None is_feed text
text_no_feed text h = no_feed_plain text h.plain

pub line_no_feed : (words : List (List ℕ)) → AllByRecursion IsText words → None is_feed (join_with_byte 32 words)
line_no_feed words h = no_feed_in words (each words h)
  where
    each : (words : List (List ℕ)) → AllByRecursion IsText words → AllByRecursion (None is_feed) words
    each [] h = tt
    each (x ∷ words) h = (text_no_feed x h.0, each words h.1)

-- ## lines

-- A line with its line feed.
abbrev pub ended : List ℕ → List ℕ
ended line = line ++ 10 ∷ []

-- The lines of a text of lines, and the empty one after the last line feed.
pub lines_back : (lines : List (List ℕ)) → AllByRecursion (None is_feed) lines → parts is_feed (flat_map ended lines) ≡ lines ++ [] ∷ []
lines_back [] h = refl
lines_back (line ∷ lines) h =
    ap (parts is_feed) (append_assoc line (10 ∷ []) (flat_map ended lines))
    ∙ parts_first is_feed line 10 (flat_map ended lines) h.0 refl
    ∙ ap (λ z. line ∷ z) (lines_back lines h.1)

pub none_each : (xs ys : List (List ℕ)) → AllByRecursion (None is_feed) xs → AllByRecursion (None is_feed) ys → AllByRecursion (None is_feed) (xs ++ ys)
none_each [] ys h k = k
none_each (x ∷ xs) ys h k = (h.0, none_each xs ys h.1 k)
