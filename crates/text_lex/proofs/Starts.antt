-- What the code finds in front of a text is what stands there.
use Rattle.std.proofs.Common.{◌≡◌, ◌≢◌, ◌⊎◌, inl, inr, ⊎_elim, refl, sym, ap, ◌∙◌, subst, ℕ, zero, suc, ◌+◌, ◌-◌, ◌<◌, ◌≤◌, Bool, true, false, ◌&&◌, ◌||◌, ◌==◌, cond, List, [], ◌∷◌, ◌++◌, length, take, drop, get_or, append_assoc, length-take, take-append-drop, arith}
use Rattle.std.specs.List.{between}
use Rattle.std.proofs.lemmas.Bool.{cond-true, cond-false, cases_lt, eqb-true, eq-eqb, ne_eqb, both_ways}
use Rattle.std.proofs.lemmas.List.{get_or-take, drop_all, drop_more, take_rest}
use Rattle.std.proofs.lemmas.Slice.{first_rest}
use Rattle.text_lex.specs.Bytes.{is_script, has_quotes, has_comment, is_white, count_of, begins_joined, begins_substitution, has_substitution, is_plain, begins_bare}
use Rattle.text_lex.specs.Piece.{Piece, White, Joined, Comment, IsBare, IsQuoted, HasOpenQuote, SubstitutesInQuotes, SubstitutesInBare}
use Rattle.text_lex.specs.inside.Front.{IsLineLen, IsJoinedLen, IsPlainLen, IsGap, BeginsWithGap, BeginsWithWord, BeginsNoOther}
use Rattle.text_lex.specs.declared.word.Mode.{Mode}
use Rattle.text_lex.proofs.Finding.{zero_count}
use Rattle.text_lex.proofs.Pieces.{BeginsBare, begins_from_tests, substitution_from_tests, ends_from_plain}
use Rattle.text_lex.proofs.Counting.{count_of-yes}
use Rattle.text_lex.proofs.Searching.{IsFirstAt, get_or-drop_first}

pub white_gap : (mode : Mode) (opens : Bool) (text : List ℕ) → 0 < length text → is_white mode (get_or text 0 0) ≡ true → BeginsWithGap mode opens text 1
white_gap mode opens [] some h = absurd (omega (arith, some))
white_gap mode opens (b ∷ bs) some h = record {
  within = omega arith;
  none = λ e. absurd (omega arith);
  some = λ _. (White b, record { spelling = refl; stands = h; no_word = refl; feeds = omega arith });
}

-- Where a byte is counted not, it does not stand.
not_counted : (byte : ℕ) (text : List ℕ) (n k : ℕ) → count_of byte (take n text) ≡ 0 → k + 1 ≡ n → n ≤ length text → get_or text k 0 ≢ byte
not_counted byte text n k none e within is =
    let one : count_of byte (take (k + 1) text) ≡ count_of byte (take k text) + 1 = count_of-yes byte text k (omega arith) is in
    let same : count_of byte (take (k + 1) text) ≡ 0 = ap (λ m. count_of byte (take m text)) e ∙ none in
    omega (arith, one, same)

-- A count of line feeds against the test of the last byte.
no_feeds : (n b : ℕ) → n ≡ 0 → b ≢ 10 → n ≡ cond {A = ℕ} (b == 10) 1 0
no_feeds n b e ne = e ∙ sym (cond-false {A = ℕ} (b == 10) 1 0 (ne_eqb b 10 ne))

one_feed : (n b : ℕ) → n ≡ 1 → b ≡ 10 → n ≡ cond {A = ℕ} (b == 10) 1 0
one_feed n b e is = e ∙ sym (cond-true {A = ℕ} (b == 10) 1 0 (eq-eqb b 10 is))

comment_piece : (mode : Mode) (opens : Bool) (b : ℕ) (bs : List ℕ) (len : ℕ) → b ≡ 35 → has_comment mode opens ≡ true → IsLineLen (b ∷ bs) len → 0 < len → (piece : Piece) × IsGap mode opens (b ∷ bs) len piece
comment_piece mode opens b bs zero is h line some = absurd (omega (arith, some))
comment_piece mode opens b bs (suc n) is h line some =
    let last : get_or (b ∷ bs) n 0 ≢ 10 = not_counted 10 (b ∷ bs) (suc n) n line.inside (omega arith) line.within in
    let inside = (zero_count (b == 10) (count_of 10 (take n bs)) line.inside).1 in (
      Comment (take n bs),
      record {
        spelling = ap (λ x. x ∷ take n bs) (sym is);
        stands = record { begins = h; inside = inside; ends = line.ends };
        no_word = refl;
        feeds = no_feeds (count_of 10 (35 ∷ take n bs)) (get_or (b ∷ bs) (suc n - 1) 0) (omega (arith, inside)) (λ e. last (ap (λ k. get_or (b ∷ bs) k 0) (omega arith) ∙ e));
      },
    )

pub comment_gap : (mode : Mode) (opens : Bool) (text : List ℕ) (len : ℕ) → 0 < length text → get_or text 0 0 ≡ 35 → has_comment mode opens ≡ true → IsLineLen text len → BeginsWithGap mode opens text len
comment_gap mode opens [] len some is h line = absurd (omega (arith, some))
comment_gap mode opens (b ∷ bs) len some is h line = record {
  within = line.within;
  none = λ e.
      let front : (drop 0 (b ∷ bs) ≡ []) ⊎ (get_or (drop 0 (b ∷ bs)) 0 0 ≡ 10) = subst (λ (k : ℕ). (drop k (b ∷ bs) ≡ []) ⊎ (get_or (drop k (b ∷ bs)) 0 0 ≡ 10)) e line.ends in
      absurd (⊎_elim (λ (f : b ∷ bs ≡ []). cc) (λ (f : b ≡ 10). omega (arith, is, f)) front);
  some = comment_piece mode opens b bs len is h line;
}

joined_piece_in : (mode : Mode) (opens : Bool) (text : List ℕ) (len n : ℕ) (bytes : List ℕ) → is_script mode ≡ true → take len text ≡ 92 ∷ bytes → (bytes ≡ 10 ∷ []) ⊎ (bytes ≡ 13 ∷ 10 ∷ []) → len ≤ length text → length bytes ≡ n → get_or (92 ∷ bytes) n 0 ≡ 10 → count_of 10 bytes ≡ 1 → IsGap mode opens text len (Joined bytes)
joined_piece_in mode opens text len n bytes script is which within count last one =
    let size : len ≡ suc n = omega (arith, ap length is, length-take len text, count) in
    let at : get_or text (len - 1) 0 ≡ 10 =
    ap (λ k. get_or text k 0) (let e : len - 1 ≡ n = omega arith in e) ∙ (sym (get_or-take len text n 0 (omega arith)) ∙ (ap (λ x. get_or x n 0) is ∙ last)) in record {
      spelling = sym is;
      stands = (script, which);
      no_word = refl;
      feeds = one_feed (count_of 10 (92 ∷ bytes)) (get_or text (len - 1) 0) (omega (arith, one)) at;
    }

pub joined_gap : (mode : Mode) (opens : Bool) (text : List ℕ) (len : ℕ) → is_script mode ≡ true → is_white mode (get_or text 0 0) ≡ false → (get_or text 0 0 == 35 && has_comment mode opens) ≡ false → IsJoinedLen text len → BeginsWithGap mode opens text len
joined_gap mode opens text len script white comment joined = record {
  within = joined.within;
  none = λ e. record { not_white = λ _. white; not_comment = λ _. comment; not_joined = λ _. and_no (is_script mode) (begins_joined text) (joined.none e) };
  some = λ some. ⊎_elim
      (λ is. (Joined (10 ∷ []), joined_piece_in mode opens text len 1 (10 ∷ []) script is (inl refl) joined.within refl refl refl))
      (λ is. (Joined (13 ∷ 10 ∷ []), joined_piece_in mode opens text len 2 (13 ∷ 10 ∷ []) script is (inr refl) joined.within refl refl refl))
      (joined.some some).1;
}
  where
    and_no : (x y : Bool) → y ≡ false → (x && y) ≡ false
    and_no true y e = e
    and_no false y e = refl

and_if : (x y : Bool) → (y ≡ true → x ≡ true → ⊥) → (x && y) ≡ false
and_if true true h = absurd (h refl refl)
and_if true false h = refl
and_if false y h = refl

and_if_first : (x y : Bool) → (x ≡ true → y ≡ true → ⊥) → (x && y) ≡ false
and_if_first true true h = absurd (h refl refl)
and_if_first true false h = refl
and_if_first false y h = refl

-- The tests of the first byte.
bare_tests : (mode : Mode) (opens : Bool) (b : ℕ) (bs : List ℕ) → BeginsNoOther mode (b ∷ bs) → BeginsWithWord mode opens (b ∷ bs) → BeginsBare mode opens b bs
bare_tests mode opens b bs other word = record {
  white = word.not_white (omega arith);
  comment = word.not_comment (omega arith);
  feed = ne_eqb b 10 other.feed;
  quote = and_if (b == 34) (has_quotes mode) (λ q e. other.quote q (eqb-true b 34 e));
  joined = word.not_joined (omega arith);
  semicolon = and_if_first (is_script mode) (b == 59) (λ s e. other.semicolon s (eqb-true b 59 e));
  brace = and_if_first (is_script mode) (b == 123) (λ s e. other.brace s (eqb-true b 123 e));
}

pub bare_refused : (mode : Mode) (opens : Bool) (text : List ℕ) (len : ℕ) → BeginsNoOther mode text → BeginsWithWord mode opens text → IsPlainLen mode text len → is_script mode ≡ true → begins_substitution (drop len text) ≡ true → SubstitutesInBare mode opens text
bare_refused mode opens [] len other word plain script h = absurd (omega (arith, other.some))
bare_refused mode opens (b ∷ bs) len other word plain script h = record {
  script = script;
  begins = begins_from_tests mode opens b bs (bare_tests mode opens b bs other word);
  inside = (take len (b ∷ bs), drop len (b ∷ bs), sym (take-append-drop len (b ∷ bs)), plain.plain, h);
}

plain_some : (mode : Mode) (opens : Bool) (b : ℕ) (bs : List ℕ) (len : ℕ) → BeginsBare mode opens b bs → IsPlainLen mode (b ∷ bs) len → (is_script mode && begins_substitution (drop len (b ∷ bs))) ≡ false → 0 < len
plain_some mode opens b bs zero t plain none = absurd (
    let not_plain : is_plain mode b ≡ false = plain.ends (omega arith) in
    let found = substitution_from_tests (is_white mode b) (b == 10) (is_script mode) (b == 59) (b == 36) (b == 91) (b == 92)
    (get_or bs 0 0 == 10 || (get_or bs 0 0 == 13 && get_or bs 1 0 == 10)) t.white t.feed t.semicolon t.joined not_plain in
    both_ways _ none found)
plain_some mode opens b bs (suc n) t plain none = omega arith

pub bare_found : (mode : Mode) (opens : Bool) (text : List ℕ) (len : ℕ) → BeginsNoOther mode text → BeginsWithWord mode opens text → IsPlainLen mode text len → (is_script mode && begins_substitution (drop len text)) ≡ false → IsBare mode opens (take len text) (drop len text)
bare_found mode opens [] len other word plain none = absurd (omega (arith, other.some))
bare_found mode opens (b ∷ bs) len other word plain none =
    let t = bare_tests mode opens b bs other word in
    let some : 0 < len = plain_some mode opens b bs len t plain none in
    let ends : (drop len (b ∷ bs) ≡ []) ⊎ (is_plain mode (get_or (drop len (b ∷ bs)) 0 0) ≡ false) =
    ⊎_elim (λ below. inr (ap (is_plain mode) (get_or-drop_first (b ∷ bs) len) ∙ plain.ends below)) (λ above. inl (drop_all len (b ∷ bs) above)) (cases_lt len (length (b ∷ bs))) in record {
      some = omega (arith, length-take len (b ∷ bs), some);
      begins = ap (begins_bare mode opens) (get_or-take len (b ∷ bs) 0 0 some) ∙ begins_from_tests mode opens b bs t;
      plain = plain.plain;
      ends = ends_from_plain mode (drop len (b ∷ bs)) ends none;
    }

-- A text around the byte at a place.
pub text_at : (text : List ℕ) (at byte : ℕ) → at < length text → get_or text at 0 ≡ byte → text ≡ take at text ++ byte ∷ drop (at + 1) text
text_at text at byte within is =
    sym (take-append-drop at text) ∙ (ap (λ x. take at text ++ x) (drop_more text at 0 within) ∙ ap (λ x. take at text ++ x ∷ drop (at + 1) text) is)

-- A text after its first byte.
pub first_and_rest : (text : List ℕ) (byte : ℕ) → 0 < length text → get_or text 0 0 ≡ byte → text ≡ byte ∷ between 1 (length text) text
first_and_rest text byte some is = first_rest text 0 some ∙ ap (λ x. x ∷ between 1 (length text) text) is

pub not_empty : (text : List ℕ) → false ≡ (length text == 0) → 0 < length text
not_empty [] h = absurd (cc)
not_empty (b ∷ bs) h = omega arith

-- A refusal of a quoted word, and a quoted word.
pub open_quote : (mode : Mode) (text : List ℕ) → has_quotes mode ≡ true → count_of 34 text ≡ 0 → HasOpenQuote mode (34 ∷ text)
open_quote mode text quotes none = record { quotes = quotes; never = (text, refl, none) }

pub quotes_refused : (mode : Mode) (text : List ℕ) (len : ℕ) → is_script mode ≡ true → IsFirstAt 34 text len → has_substitution (take len text) ≡ true → SubstitutesInQuotes mode (34 ∷ text)
quotes_refused mode text len script first h =
    record { script = script; inside = (take len text, drop (len + 1) text, ap (λ x. 34 ∷ x) (text_at text len 34 first.within first.is), first.before, h) }

pub quotes_found : (mode : Mode) (text : List ℕ) (len : ℕ) → has_quotes mode ≡ true → IsFirstAt 34 text len → (is_script mode ≡ true → has_substitution (take len text) ≡ false) → IsQuoted mode (take len text)
quotes_found mode text len quotes first h = record { quotes = quotes; inside = first.before; kept = h }

-- The text after a byte, as it is cut.
pub rest_at : (text : List ℕ) (at byte : ℕ) → at < length text → get_or text at 0 ≡ byte → text ≡ take at text ++ byte ∷ [] ++ take (length text - (at + 1)) (drop (at + 1) text)
rest_at text at byte within is =
    text_at text at byte within is ∙ (sym (append_assoc (take at text) (byte ∷ []) (drop (at + 1) text)) ∙ ap (λ x. take at text ++ byte ∷ [] ++ x) (sym (take_rest text (at + 1))))

pub cut_at : (text : List ℕ) (at : ℕ) → text ≡ take at text ++ take (length text - at) (drop at text)
cut_at text at = sym (take-append-drop at text) ∙ ap (λ x. take at text ++ x) (sym (take_rest text at))
