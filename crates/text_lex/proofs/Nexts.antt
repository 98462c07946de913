-- What a call of the splitter answers, and what it leaves.
use Rattle.std.proofs.Common.{◌≡◌, ◌⊎◌, ⊎_elim, sym, ap, ◌∙◌, ℕ, ◌<◌, Bool, true, ◌&&◌, ◌==◌, List, [], ◌∷◌, ◌++◌, length, get_or, Option, None, Some, Result, Ok, Err, arith}
use Rattle.std.proofs.lemmas.Bool.{both_ways, and_from}
use Rattle.outside.specs.declared.place.Place.{Place}
use Rattle.text_lex.specs.Bytes.{is_script, has_comment, is_white, begins_joined}
use Rattle.text_lex.specs.Piece.{Piece, White, Joined, Comment, Item, IsRefusedWord}
use Rattle.text_lex.specs.Split.{Split, IsAtEnd, IsAtRefusal, next_place}
use Rattle.text_lex.specs.inside.Front.{BeginsWithWord}
use Rattle.text_lex.specs.inside.Splitting.{words_left, words_after, piece_at}
use Rattle.text_lex.specs.declared.word.Mode.{Mode}
use Rattle.text_lex.specs.declared.word.LexKind.{LexKind}
use Rattle.text_lex.specs.declared.word.LexError.{LexError}
use Rattle.text_lex.proofs.Pieces.{Tells, piece_tells}
use Rattle.text_lex.proofs.Made.{left_end, left_word, left_refused}

-- What is left, after the gap in front.
pub left_after_gap : (mode : Mode) (opens : Bool) (place : Place) (text : List ℕ) (refusal : Option LexError) (now : Split) (start : Place) (rest : List ℕ) →
    words_after mode opens place text refusal ≡ now → refusal ≡ None → words_left mode opens start rest ≡ words_left mode opens place text → now ≡ words_left mode opens start rest
left_after_gap mode opens place text refusal now start rest is none words = sym is ∙ (ap (words_after mode opens place text) none ∙ sym words)

pub at_end : (mode : Mode) (opens : Bool) (place : Place) (rest : List ℕ) (now : Split) → now ≡ words_left mode opens place rest → rest ≡ [] → IsAtEnd now
at_end mode opens place rest now is ends =
    let all = is ∙ (ap (words_left mode opens place) ends ∙ left_end mode opens place) in
    record { words = ap (λ (s : Split). s.words) all; refusal = ap (λ (s : Split). s.refusal) all }

pub at_refusal : (mode : Mode) (opens : Bool) (place : Place) (rest : List ℕ) (now : Split) (kind : LexKind) → now ≡ words_left mode opens place rest → IsRefusedWord mode opens kind rest →
    IsAtRefusal now (record { place = place; kind = kind }) × (◌≡◌ {A = Split} (record { words = []; last = place; refusal = Some kind }) now)
at_refusal mode opens place rest now kind is h =
    let all = is ∙ left_refused mode opens place kind rest h in
    (record { words = ap (λ (s : Split). s.words) all; refusal = ap (λ (s : Split). s.refusal) all; place = ap (λ (s : Split). s.last) all }, sym all)

-- The place of the word in front, where no gap stands before it.
not_gap_white : (mode : Mode) (opens : Bool) (rest : List ℕ) (byte : ℕ) (more : List ℕ) → BeginsWithWord mode opens rest → rest ≡ byte ∷ more → is_white mode byte ≡ true → ⊥
not_gap_white mode opens rest byte more word is h =
    let some : 0 < length rest = omega (arith, ap length is) in
    both_ways _ (word.not_white some) (ap (λ x. is_white mode (get_or x 0 0)) is ∙ h)

not_gap_comment : (mode : Mode) (opens : Bool) (rest more : List ℕ) → BeginsWithWord mode opens rest → rest ≡ 35 ∷ more → has_comment mode opens ≡ true → ⊥
not_gap_comment mode opens rest more word is h =
    let some : 0 < length rest = omega (arith, ap length is) in
    both_ways _ (word.not_comment some) (ap (λ x. get_or x 0 0 == 35 && has_comment mode opens) is ∙ h)

not_gap_joined : (mode : Mode) (opens : Bool) (rest bytes more : List ℕ) → BeginsWithWord mode opens rest → rest ≡ 92 ∷ bytes ++ more → is_script mode ≡ true → (bytes ≡ 10 ∷ []) ⊎ (bytes ≡ 13 ∷ 10 ∷ []) → ⊥
not_gap_joined mode opens rest bytes more word is script which =
    let some : 0 < length rest = omega (arith, ap length is) in
    let joined : begins_joined rest ≡ true = ap begins_joined is ∙ ⊎_elim (λ e. ap (λ x. begins_joined (92 ∷ x ++ more)) e) (λ e. ap (λ x. begins_joined (92 ∷ x ++ more)) e) which in
    both_ways _ (word.not_joined some) (and_from (is_script mode) _ script joined)

next_from : (mode : Mode) (opens : Bool) (place : Place) (rest : List ℕ) (found : Result Piece LexKind) → BeginsWithWord mode opens rest → Tells mode opens rest found → place ≡ next_place (words_left mode opens place rest)
next_from mode opens place rest (Ok (White byte)) word t = absurd (not_gap_white mode opens rest byte t.0 word t.1 t.2)
next_from mode opens place rest (Ok (Joined bytes)) word t = absurd (not_gap_joined mode opens rest bytes t.0 word t.1 t.2.0 t.2.1)
next_from mode opens place rest (Ok (Comment text)) word t = absurd (not_gap_comment mode opens rest (text ++ t.0) word t.1 t.2.begins)
next_from mode opens place rest (Ok (Item form text)) word t = sym (ap next_place (ap (words_left mode opens place) t.1 ∙ left_word mode opens place form text t.0 t.2))
next_from mode opens place rest (Err kind) word t = sym (ap next_place (left_refused mode opens place kind rest t))

next_at_rest : (mode : Mode) (opens : Bool) (place : Place) (rest : List ℕ) → BeginsWithWord mode opens rest → place ≡ next_place (words_left mode opens place rest)
next_at_rest mode opens place [] word = sym (ap next_place (left_end mode opens place))
next_at_rest mode opens place (b ∷ bs) word = next_from mode opens place (b ∷ bs) (piece_at mode opens b bs) word (piece_tells mode opens b bs)

pub next_at : (mode : Mode) (opens : Bool) (place : Place) (rest : List ℕ) (now : Split) → BeginsWithWord mode opens rest → now ≡ words_left mode opens place rest → place ≡ next_place now
next_at mode opens place rest now word is = next_at_rest mode opens place rest word ∙ ap next_place (sym is)
