-- The sorts of written words, and units of words of these sorts.
use Rattle.std.proofs.Common.{◌≡◌, ℕ, ◌≤◌, Bool, true, false, if◌then◌else◌, List, [], ◌∷◌, ◌++◌, ◌&&◌, codes, refl, sym, ap, inl, inr, arith}
use Rattle.std.specs.Prelude.{◌⊎◌, slice_index}
use Rattle.std.specs.Str.{bytes_eq}
use Rattle.std.proofs.lemmas.Slice.Eq.{bytes_eq-Decides}
use Rattle.reading.specs.Keyword.{keyword_or}
use Rattle.reading.specs.Pattern.{Pattern, Matches}
use Rattle.reading.specs.Word.{Token}
use Rattle.wiring_file.specs.declared.sort.Sort.{Sort}
use Rattle.wiring_file.specs.declared.sort.Sort.TheVariants.{Semicolon, Open, Close, Plus, Minus, Other}
use Rattle.wiring_file.specs.Sort.{keywords, sort_of, sort_of_text}
use Rattle.wiring_file.specs.Rule.{is_name, is_number, is_via, in_turn, before}
use Rattle.wiring_file.proofs.Digits.{IsNumberWord, no_true}

-- ## sorts

-- The text is not this keyword, or the keyword's sort is of the class.
abbrev Passes : (Sort → Bool) → List ℕ → List (List ℕ × Sort) → Type 0
Passes p text [] = Unit {0}
Passes p text (k ∷ ks) = ((bytes_eq text k.0 ≡ false) ⊎ (p k.1 ≡ true)) × Passes p text ks

choose : (p : Sort → Bool) (b : Bool) (x y : Sort) → (b ≡ false) ⊎ (p x ≡ true) → p y ≡ true → p (if b then x else y) ≡ true
choose p true x y (inl e) k = absurd (no_true e)
choose p true x y (inr e) k = e
choose p false x y h k = k

keyword_all : (p : Sort → Bool) (text : List ℕ) (kws : List (List ℕ × Sort)) (other : Sort) → p other ≡ true → Passes p text kws → p (keyword_or kws other text) ≡ true
keyword_all p text [] other o h = o
keyword_all p text (k ∷ ks) other o h = choose p (bytes_eq text k.0) k.1 (keyword_or ks other text) h.0 (keyword_all p text ks other o h.1)

two : (a b : Bool) → (a && b) ≡ true → (a ≡ true) × (b ≡ true)
two true true h = (refl, refl)
two true false h = absurd (no_true (sym h))
two false b h = absurd (no_true (sym h))

abbrev all_of : (Sort → Bool) → List (List ℕ × Sort) → Bool
all_of p [] = true
all_of p (k ∷ ks) = p k.1 && all_of p ks

all_pass : (p : Sort → Bool) (text : List ℕ) (kws : List (List ℕ × Sort)) → all_of p kws ≡ true → Passes p text kws
all_pass p text [] h = tt
all_pass p text (k ∷ ks) h = let t = two (p k.1) (all_of p ks) h in (inr t.0, all_pass p text ks t.1)

other_by : (a b : List ℕ) (is : Bool) → bytes_eq a b ≡ is → (a ≡ b → ⊥) → bytes_eq a b ≡ false
other_by a b true e h = absurd (h ((bytes_eq-Decides a b).0 e))
other_by a b false e h = e

other_word : (text word : List ℕ) → (text ≡ word → ⊥) → bytes_eq text word ≡ false
other_word text word h = other_by text word (bytes_eq text word) refl h

-- A word that begins with another byte is another word.
pub begins_other : (text word : List ℕ) → (slice_index text 0 ≡ slice_index word 0 → ⊥) → text ≡ word → ⊥
begins_other text word h e = h (ap (λ z. slice_index z 0) e)

-- What stands after the marks `;`, `(` and `)`.
abbrev rest : List (List ℕ × Sort)
rest = (codes "+", Plus) ∷ (codes "-", Minus) ∷ keywords

pub number_sort : (text : List ℕ) → IsNumberWord text → is_number (sort_of_text text) ≡ true
number_sort text word =
    let low : 45 ≤ slice_index text 0 = word.low in
    let high : slice_index text 0 ≤ 57 = word.high in
    keyword_all is_number text ((codes ";", Semicolon) ∷ (codes "(", Open) ∷ (codes ")", Close) ∷ rest) Other refl (
      inl (other_word text (codes ";") (begins_other text (codes ";") (λ e. omega arith))),
      (
        inl (other_word text (codes "(") (begins_other text (codes "(") (λ e. omega arith))),
        (inl (other_word text (codes ")") (begins_other text (codes ")") (λ e. omega arith))), all_pass is_number text rest refl),
      ),
    )

pub name_sort : (text : List ℕ) → (text ≡ codes ";" → ⊥) → is_name (sort_of_text text) ≡ true
name_sort text other =
    keyword_all is_name text ((codes ";", Semicolon) ∷ (codes "(", Open) ∷ (codes ")", Close) ∷ rest) Other refl
    (inl (other_word text (codes ";") other), (inr refl, (inr refl, all_pass is_name text rest refl)))

pub via_sort : (text : List ℕ) → (text ≡ codes ";" → ⊥) → (text ≡ codes "(" → ⊥) → is_via (sort_of_text text) ≡ true
via_sort text other point =
    keyword_all is_via text ((codes ";", Semicolon) ∷ (codes "(", Open) ∷ (codes ")", Close) ∷ rest) Other refl
    (inl (other_word text (codes ";") other), (inl (other_word text (codes "(") point), (inr refl, all_pass is_via text rest refl)))

-- ## words of classes, one after the other

abbrev pub AreOf : List (Sort → Bool) → List Token → Type 0
AreOf [] [] = Unit {0}
AreOf (class ∷ classes) (t ∷ ts) = (class (sort_of t) ≡ true) × AreOf classes ts
AreOf _ _ = ⊥

pub in_turn_match : (classes : List (Sort → Bool)) (ts : List Token) → AreOf classes ts → Matches sort_of (in_turn classes) ts
in_turn_match [] [] h = refl
in_turn_match (c ∷ []) (t ∷ []) h = (t, h.0, refl)
in_turn_match (c ∷ d ∷ classes) (t ∷ ts) h = (t ∷ [], ts, (t, h.0, refl), in_turn_match (d ∷ classes) ts h.1, refl)
in_turn_match (c ∷ []) (t ∷ u ∷ ts) h = absurd h.1
in_turn_match [] (t ∷ ts) h = absurd h
in_turn_match (c ∷ classes) [] h = absurd h

pub before_match : (classes : List (Sort → Bool)) (p : Pattern Sort) (ts more : List Token) → AreOf classes ts → Matches sort_of p more → Matches sort_of (before classes p) (ts ++ more)
before_match [] p [] more h k = k
before_match (c ∷ classes) p (t ∷ ts) more h k = (t ∷ [], ts ++ more, (t, h.0, refl), before_match classes p ts more h.1 k, refl)
before_match [] p (t ∷ ts) more h k = absurd h
before_match (c ∷ classes) p [] more h k = absurd h
