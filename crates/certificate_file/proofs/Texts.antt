-- Texts of certificates, line by line.
use Rattle.std.proofs.Common.{◌≡◌, ℕ, zero, suc, ◌+◌, ◌<◌, ℤ, pos, List, [], ◌∷◌, ◌++◌, length, take, get_or, codes, sym, ◌∙◌, ap, arith, append_assoc, add-one}
use Rattle.std.proofs.lemmas.List.{append-nil}
use Rattle.certificate_file.specs.Written.{row_text, rows_text}

pub row_written : (text name high low after_name after_high after_low new : List ℕ) → after_name ≡ text ++ name → after_high ≡ after_name ++ (codes " " ++ high) → after_low ≡ after_high ++ (codes " " ++ low) →
    new ≡ after_low ++ codes "\n" → new ≡ text ++ (name ++ (codes " " ++ (high ++ (codes " " ++ (low ++ codes "\n")))))
row_written text name high low after_name after_high after_low new e f g h =
    h ∙ ap (λ z. z ++ codes "\n") (g ∙ ap (λ z. z ++ (codes " " ++ low)) (f ∙ ap (λ z. z ++ (codes " " ++ high)) e)) ∙ simp append_assoc

rows_more : (names : List (List ℕ)) (highs lows : List ℤ) (i : ℕ) → i < length names → length highs ≡ length names → length lows ≡ length names →
    rows_text (take (suc i) names) (take (suc i) highs) (take (suc i) lows)
    ≡ rows_text (take i names) (take i highs) (take i lows) ++ row_text (get_or names i []) (get_or highs i (pos 0)) (get_or lows i (pos 0))
rows_more (name ∷ names) (high ∷ highs) (low ∷ lows) zero h e f = simp append-nil
rows_more (name ∷ names) (high ∷ highs) (low ∷ lows) (suc i) h e f =
    ap (λ z. row_text name high low ++ z) (rows_more names highs lows i (omega arith) (omega arith) (omega arith))
    ∙ sym (append_assoc (row_text name high low) (rows_text (take i names) (take i highs) (take i lows)) (row_text (get_or names i []) (get_or highs i (pos 0)) (get_or lows i (pos 0))))
rows_more [] highs lows i h e f = absurd (omega arith)
rows_more (name ∷ names) [] lows i h e f = absurd (omega arith)
rows_more (name ∷ names) (high ∷ highs) [] i h e f = absurd (omega arith)

pub text_more : (head : List ℕ) (names : List (List ℕ)) (highs lows : List ℤ) (i : ℕ) (text new name : List ℕ) (high low : ℤ) →
    text ≡ head ++ rows_text (take i names) (take i highs) (take i lows) → new ≡ text ++ row_text name high low →
    name ≡ get_or names i [] → high ≡ get_or highs i (pos 0) → low ≡ get_or lows i (pos 0) →
    i < length names → length highs ≡ length names → length lows ≡ length names →
    new ≡ head ++ rows_text (take (i + 1) names) (take (i + 1) highs) (take (i + 1) lows)
text_more head names highs lows i text new name high low t n e f g h j k =
    rw add-one (n ∙ ap (λ z. z ++ row_text name high low) t
    ∙ append_assoc head (rows_text (take i names) (take i highs) (take i lows)) (row_text name high low)
    ∙ ap (λ z. head ++ (rows_text (take i names) (take i highs) (take i lows) ++ z))
    (ap (λ z. row_text z high low) e ∙ ap (λ z. row_text (get_or names i []) z low) f ∙ ap (λ z. row_text (get_or names i []) (get_or highs i (pos 0)) z) g)
    ∙ ap (λ z. head ++ z) (sym (rows_more names highs lows i h j k)))
