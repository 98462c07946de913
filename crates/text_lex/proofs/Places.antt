-- Places, by what stands before them.
use Rattle.std.proofs.Common.{◌≡◌, ◌≢◌, ⊎_elim, refl, sym, ap, ◌∙◌, ℕ, ◌+◌, Bool, true, false, ◌==◌, cond, List, [], ◌∷◌, ◌++◌, arith}
use Rattle.std.proofs.lemmas.Bool.{cond_both, cond-true, cond-false, cases_eq, eq-eqb, ne_eqb, eqb-true}
use Rattle.outside.specs.declared.place.Place.{Place}
use Rattle.text_lex.specs.Bytes.{count_of}
use Rattle.text_lex.specs.Piece.{Piece, White, Joined, Comment, Item, spelled}
use Rattle.text_lex.specs.Split.{place_after, words_in, words_from, last_from, text_of, words_on}
use Rattle.text_lex.specs.declared.word.Form.{Form}
use Rattle.text_lex.proofs.Counting.{count_of-append}

line_after : (place : Place) (piece : Piece) → (place_after place piece).line ≡ place.line + count_of 10 (spelled piece)
line_after place piece =
    let P : Place → Type 0 = λ p. p.line ≡ place.line + count_of 10 (spelled piece) in
    cond_both (count_of 10 (spelled piece) == 0) _ _ P (λ e. omega (arith, eqb-true (count_of 10 (spelled piece)) 0 e)) (λ _. refl)

number_after : (place : Place) (piece : Piece) → count_of 10 (spelled piece) ≡ 0 → (place_after place piece).word ≡ place.word + words_in piece
number_after place piece e = ap (λ (p : Place). p.word) (cond-true (count_of 10 (spelled piece) == 0) _ _ (eq-eqb _ 0 e))

number_restarts : (place : Place) (piece : Piece) → count_of 10 (spelled piece) ≢ 0 → (place_after place piece).word ≡ 1
number_restarts place piece e = ap (λ (p : Place). p.word) (cond-false (count_of 10 (spelled piece) == 0) _ _ (ne_eqb _ 0 e))

none_more : (t : Bool) (n : ℕ) → n ≡ cond t 0 0 + n
none_more true n = omega arith
none_more false n = omega arith

-- The words on a line, with one piece more in front.
words_more : (line : ℕ) (place : Place) (piece : Piece) (pieces : List Piece) →
    words_on line (words_from place (piece ∷ pieces)) ≡ cond (place.line == line) (words_in piece) 0 + words_on line (words_from (place_after place piece) pieces)
words_more line place (White byte) pieces = none_more (place.line == line) _
words_more line place (Joined bytes) pieces = none_more (place.line == line) _
words_more line place (Comment text) pieces = none_more (place.line == line) _
words_more line place (Item form text) pieces = refl

-- The number of a place. n line feeds stand in the first piece and m in the others; w words in the first, and `rest` words of the others begin on the last line.
number_step : (line word n m w last_line last_word after rest : ℕ) → last_line ≡ (line + n) + m → last_word ≡ cond (m == 0) after 1 + rest →
    (n ≡ 0 → after ≡ word + w) → (n ≢ 0 → after ≡ 1) → last_word ≡ cond (n + m == 0) word 1 + (cond (line == last_line) w 0 + rest)
number_step line word n m w last_line last_word after rest is last same new =
    ⊎_elim
    (λ n_none. ⊎_elim
    (λ m_none. omega (arith, last, same n_none, cond-true {A = ℕ} (m == 0) after 1 (eq-eqb m 0 m_none), cond-true {A = ℕ} (n + m == 0) word 1 (eq-eqb _ 0 (omega arith)), cond-true {A = ℕ} (line == last_line) w 0 (eq-eqb _ _ (omega arith))))
    (λ m_some. omega (arith, last, cond-false {A = ℕ} (m == 0) after 1 (ne_eqb m 0 m_some), cond-false {A = ℕ} (n + m == 0) word 1 (ne_eqb _ 0 (λ e. m_some (omega arith))), cond-false {A = ℕ} (line == last_line) w 0 (ne_eqb _ _ (λ e. m_some (omega arith)))))
    (cases_eq m 0))
    (λ n_some.
    let one = new n_some in
    let either : cond {A = ℕ} (m == 0) after 1 ≡ 1 = cond_both {A = ℕ} (m == 0) after 1 (λ x. x ≡ 1) (λ _. one) (λ _. refl) in
    omega (arith, last, either, cond-false {A = ℕ} (n + m == 0) word 1 (ne_eqb _ 0 (λ e. n_some (omega arith))), cond-false {A = ℕ} (line == last_line) w 0 (ne_eqb _ _ (λ e. n_some (omega arith)))))
    (cases_eq n 0)

pub record IsPlaceAfter (place : Place) (pieces : List Piece) : Type 0 where
  pub line : (last_from place pieces).line ≡ place.line + count_of 10 (text_of pieces)
  pub number : (last_from place pieces).word ≡ cond (count_of 10 (text_of pieces) == 0) place.word 1 + words_on (last_from place pieces).line (words_from place pieces)

pub place_is : (place : Place) (pieces : List Piece) → IsPlaceAfter place pieces
place_is place [] = record { line = omega arith; number = omega arith }
place_is place (piece ∷ pieces) =
    let rest = place_is (place_after place piece) pieces in
    let last = last_from place (piece ∷ pieces) in
    let n = count_of 10 (spelled piece) in
    let m = count_of 10 (text_of pieces) in
    let total : count_of 10 (text_of (piece ∷ pieces)) ≡ n + m = count_of-append 10 (spelled piece) (text_of pieces) in
    let line : last.line ≡ (place.line + n) + m = omega (arith, rest.line, line_after place piece) in record {
      line = omega (arith, line, total);
      number = number_step place.line place.word n m (words_in piece) last.line last.word (place_after place piece).word (words_on last.line (words_from (place_after place piece) pieces)) line rest.number (number_after place piece) (number_restarts place piece)
          ∙ (ap (λ k. cond (k == 0) place.word 1 + (cond (place.line == last.line) (words_in piece) 0 + words_on last.line (words_from (place_after place piece) pieces))) (sym total)
          ∙ ap (λ k. cond (count_of 10 (text_of (piece ∷ pieces)) == 0) place.word 1 + k) (sym (words_more last.line place piece pieces)));
    }

-- A word stands at the place after the pieces before it.
pub words_around : (place : Place) (before : List Piece) (form : Form) (text : List ℕ) (after : List Piece) →
    words_from place (before ++ Item form text ∷ after)
    ≡ words_from place before ++ record { text = text; place = last_from place before; form = form } ∷ words_from (place_after (last_from place before) (Item form text)) after
words_around place [] form text after = refl
words_around place (White byte ∷ before) form text after = words_around (place_after place (White byte)) before form text after
words_around place (Joined bytes ∷ before) form text after = words_around (place_after place (Joined bytes)) before form text after
words_around place (Comment bytes ∷ before) form text after = words_around (place_after place (Comment bytes)) before form text after
words_around place (Item f bytes ∷ before) form text after =
    ap (λ ws. record { text = bytes; place = place; form = f } ∷ ws) (words_around (place_after place (Item f bytes)) before form text after)
