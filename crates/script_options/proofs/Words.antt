-- The words of a list.
use Rattle.std.proofs.Common.{◌≡◌, ℕ, ◌+◌, ◌-◌, ◌<◌, ◌≤◌, Bool, true, false, List, [], ◌∷◌, ◌++◌, length, take, drop, get_or, subst, refl, sym, ◌∙◌, ap, arith, length-drop, append_assoc}
use Rattle.std.proofs.lemmas.List.{take_more, drop_more, take_all}
use Rattle.script_options.specs.ListWords.{separates, ended, words_after, words_of}

no : false ≡ true → ⊥
no h = cc

-- White space in front is no part of a word.
pub skipped : (byte : ℕ) (bytes : List ℕ) → separates (byte ∷ bytes) ≡ true → words_of (byte ∷ bytes) ≡ words_of bytes
skipped byte bytes white = rw white refl

-- A word ends at white space.
pub cut : (word rest : List ℕ) → 0 < length word → separates rest ≡ true → words_after word rest ≡ word ∷ words_of rest
cut [] rest some white = absurd (omega arith)
cut (b ∷ word) [] some white = absurd (no white)
cut (b ∷ word) (c ∷ rest) some white = rw white refl

-- A word ends with its list.
pub ended_there : (word : List ℕ) → 0 < length word → words_after word [] ≡ word ∷ words_of []
ended_there [] some = absurd (omega arith)
ended_there (b ∷ word) some = refl

-- A word goes on.
pub goes_on : (word : List ℕ) (byte : ℕ) (bytes : List ℕ) → separates (byte ∷ bytes) ≡ false →
    words_after word (byte ∷ bytes) ≡ words_after (word ++ byte ∷ []) bytes
goes_on word byte bytes black = rw black refl

-- ## at a place of a text

-- The text from a place on.
pub from : (text : List ℕ) (i : ℕ) → take (length text - i) (drop i text) ≡ drop i text
from text i = take_all (length text - i) (drop i text) (omega (arith, length-drop i text))

pub separates_at : (text : List ℕ) (i : ℕ) (b c : Bool) → b ≡ separates (take (length text - i) (drop i text)) → b ≡ c → separates (drop i text) ≡ c
separates_at text i b c e f = ap separates (sym (from text i)) ∙ sym e ∙ f

pub skipped_at : (text : List ℕ) (i : ℕ) → i < length text → separates (drop i text) ≡ true → words_of (drop (i + 1) text) ≡ words_of (drop i text)
skipped_at text i h white =
    let e = drop_more text i 0 h in
    sym (skipped (get_or text i 0) (drop (i + 1) text) (subst (λ z. separates z ≡ true) e white)) ∙ ap words_of (sym e)

pub goes_on_at : (text : List ℕ) (i : ℕ) → i < length text → separates (drop i text) ≡ false →
    words_after (take (i + 1) text) (drop (i + 1) text) ≡ words_after (take i text) (drop i text)
goes_on_at text i h black =
    let e = drop_more text i 0 h in
    ap (λ z. words_after z (drop (i + 1) text)) (take_more text i 0 h)
    ∙ sym (goes_on (take i text) (get_or text i 0) (drop (i + 1) text) (subst (λ z. separates z ≡ false) e black))
    ∙ ap (words_after (take i text)) (sym e)

-- The words so far and the first one of the rest, which are all.
pub one_more : (done all words more : List (List ℕ)) (word : List ℕ) → words ≡ word ∷ more → done ++ words ≡ all → (done ++ word ∷ []) ++ more ≡ all
one_more done all words more word e h = append_assoc done (word ∷ []) more ∙ ap (λ z. done ++ z) (sym e) ∙ h
