-- What a search for a byte tells of counts.
use Rattle.std.proofs.Common.{◌≡◌, inl, inr, refl, sym, ap, ◌∙◌, ℕ, zero, suc, ◌<◌, true, ◌==◌, List, [], ◌∷◌, length, take, drop, get_or, None, Some, take_all, arith}
use Rattle.std.proofs.lemmas.Bool.{eqb-true, false_from_ne_true}
use Rattle.std.proofs.lemmas.List.{get_or-drop, drop_all}
use Rattle.memchr.specs.Find.{IsFirstByte, is_byte}
use Rattle.text_lex.specs.Bytes.{count_of}
use Rattle.text_lex.specs.inside.Front.{IsLineLen}
use Rattle.text_lex.proofs.Finding.{zero_counts}

pub none_counted : (byte : ℕ) (text : List ℕ) (n : ℕ) → ((k : ℕ) → k < n → (get_or text k 0 == byte) ≡ true → ⊥) → count_of byte (take n text) ≡ 0
none_counted byte text zero h = refl
none_counted byte [] (suc n) h = refl
none_counted byte (x ∷ xs) (suc n) h =
    zero_counts (x == byte) _ (false_from_ne_true (x == byte) (h 0 (omega arith))) (none_counted byte xs n (λ k lt. h (suc k) (omega arith)))

-- The first byte of a kind stands at a place.
pub record IsFirstAt (byte : ℕ) (text : List ℕ) (at : ℕ) : Type 0 where
  pub within : at < length text
  pub before : count_of byte (take at text) ≡ 0
  pub is : get_or text at 0 ≡ byte

pub first_at : (byte : ℕ) (text : List ℕ) (at : ℕ) → IsFirstByte (is_byte byte) text (Some at) → IsFirstAt byte text at
first_at byte text at h = record {
  within = h.0.high;
  before = none_counted byte text at (λ k lt e. h.0.before k (omega arith) lt e);
  is = eqb-true (get_or text at 0) byte h.1;
}

pub first_nowhere : (byte : ℕ) (text : List ℕ) → IsFirstByte (is_byte byte) text None → count_of byte text ≡ 0
first_nowhere byte text h =
    ap (count_of byte) (sym (take_all (length text) text (omega arith))) ∙ none_counted byte text (length text) (λ k lt e. h k (omega arith) lt e)

pub get_or-drop_first : (text : List ℕ) (n : ℕ) → get_or (drop n text) 0 0 ≡ get_or text n 0
get_or-drop_first text n = get_or-drop n text 0 0 ∙ ap (λ k. get_or text k 0) (omega arith)

pub line_to_feed : (text : List ℕ) (at : ℕ) → IsFirstByte (is_byte 10) text (Some at) → IsLineLen text at
line_to_feed text at h =
    let first = first_at 10 text at h in record { within = omega (arith, first.within); inside = first.before; ends = inr (get_or-drop_first text at ∙ first.is) }

pub line_to_end : (text : List ℕ) → IsFirstByte (is_byte 10) text None → IsLineLen text (length text)
line_to_end text h =
    record { within = omega arith; inside = ap (count_of 10) (take_all (length text) text (omega arith)) ∙ first_nowhere 10 text h; ends = inl (drop_all (length text) text (omega arith)) }
