-- Points that are asked for in turn, and what is answered in another order.
use Rattle.std.proofs.Common.{◌≡◌, ◌⊎◌, inl, inr, ℕ, ◌+◌, ◌<◌, ◌≤◌, List, [], ◌∷◌, ◌++◌, map, take, set, length, get_or, Contains, refl, sym, subst, ap, ◌∙◌, arith}
use Rattle.std.specs.Prelude.{pos}
use Rattle.std.specs.List.Sorted.{IsPermutation}
use Rattle.std.proofs.lemmas.Bool.{cases_lt, cases_eq}
use Rattle.std.proofs.lemmas.List.{length-map, get_or-map, get_or-set_same, get_or-set_other, get_or_append_left, get_or_default, length_push, map_push, ext_get_or}
use Rattle.std.proofs.lemmas.List.Elements.{Contains-get_or}
use Rattle.std.proofs.lemmas.List.Sorted.{Contains-permutation, IsPermutation-sym}
use Rattle.grid_network.specs.declared.key.Key.{Key}
use Rattle.grid_network.specs.declared.question.Question.{Question}
use Rattle.grid_network.specs.inside.Steps.{AreInTurn}
use Rattle.grid_network.proofs.Growing.{map_more}

seam : {X : Type 0} (xs : List X) (y d : X) → get_or (xs ++ y ∷ []) (length xs) d ≡ y
seam [] y d = refl
seam (x ∷ xs) y d = seam xs y d

-- ---- in turn

pub in_turn_none : (questions : List Question) → questions ≡ [] → AreInTurn questions
in_turn_none questions none i d within = let long = ap (λ l. length l) none in absurd (omega (arith, within, long))

pub in_turn_more : (old new : List Question) (key : Key) → AreInTurn old → new ≡ old ++ record { key = key; at = length old } ∷ [] → AreInTurn new
in_turn_more old new key before pushed = subst AreInTurn (sym pushed) grown
  where
    one : Question
    one = record { key = key; at = length old }

    by : (i : ℕ) (d : Question) → i < length (old ++ one ∷ []) → ((i < length old) ⊎ (length old ≤ i)) → (get_or (old ++ one ∷ []) i d).at ≡ i
    by i d within (inl h) = ap (λ q. q.at) (get_or_append_left old (one ∷ []) d i h) ∙ before i d h
    by i d within (inr h) =
        let long = length_push old one in
        let last : length old ≡ i = omega (arith, within, long, h) in
        subst (λ (j : ℕ). (get_or (old ++ one ∷ []) j d).at ≡ j) last (ap (λ q. q.at) (seam old one d))

    grown : AreInTurn (old ++ one ∷ [])
    grown i d within = by i d within (cases_lt i (length old))

pub keys_more : {X : Type 0} (f : X → Key) (xs : List X) (i : ℕ) (d : X) (old new : List Question) (q : Question) → i < length xs
    → map (λ q. q.key) old ≡ map f (take i xs) → new ≡ old ++ q ∷ [] → q.key ≡ f (get_or xs i d) → map (λ q. q.key) new ≡ map f (take (i + 1) xs)
keys_more f xs i d old new q within before pushed is =
    map_more f xs i d (map (λ q. q.key) old) (map (λ q. q.key) new) q.key within before (ap (map (λ q. q.key)) pushed ∙ map_push (λ q. q.key) old q) is

twice : {X Y Z : Type 0} (f : X → Y) (g : Y → Z) (xs : List X) → map g (map f xs) ≡ map (λ x. g (f x)) xs
twice f g [] = refl
twice f g (x ∷ xs) = ap (λ l. g (f x) ∷ l) (twice f g xs)

-- what is made of the points that are asked for is made of what they are the points of
pub made_of_keys : {X : Type 0} (g : Key → ℕ) (f : X → Key) (questions : List Question) (xs : List X) → map (λ q. q.key) questions ≡ map f xs → map (λ q. g q.key) questions ≡ map (λ x. g (f x)) xs
made_of_keys g f questions xs asked = sym (twice (λ q. q.key) g questions) ∙ ap (map g) asked ∙ twice f g xs

-- two questions at one place are one
one_place : (questions : List Question) (q r : Question) → AreInTurn questions → Contains questions q → Contains questions r → q.at ≡ r.at → q ≡ r
one_place questions q r turn (i, within, e) (j, within', f) same =
    let at_i : q.at ≡ i = sym (ap (λ q. q.at) e) ∙ turn i q within in
    let at_j : r.at ≡ j = sym (ap (λ q. q.at) f) ∙ turn j r within' in
    let places : i ≡ j = sym at_i ∙ same ∙ at_j in
    sym e ∙ ap (λ (k : ℕ). get_or questions k q) places ∙ get_or_default questions j q r within' ∙ f

-- ---- answers, each at the place of its question

-- each of the first n questions has its answer at its place
abbrev pub AreAnswered : (Key → ℕ) → List Question → List ℕ → ℕ → Type 0
AreAnswered f asked numbers n = (k : ℕ) (d : Question) → k < n → k < length asked → get_or numbers (get_or asked k d).at 0 ≡ f (get_or asked k d).key

-- a question that is asked in another order has a place below their count
pub place_within : (questions asked : List Question) (k : ℕ) (d : Question) → AreInTurn questions → IsPermutation questions asked → k < length asked → (get_or asked k d).at < length questions
place_within questions asked k d turn moved within = by (Contains-permutation asked questions (get_or asked k d) (IsPermutation-sym questions asked moved) (Contains-get_or asked k d within))
  where
    by : Contains questions (get_or asked k d) → (get_or asked k d).at < length questions
    by (i, below, e) = let at : (get_or asked k d).at ≡ i = sym (ap (λ q. q.at) e) ∙ turn i (get_or asked k d) below in omega (arith, at, below)

pub answered_more : (f : Key → ℕ) (questions asked : List Question) (numbers : List ℕ) (i : ℕ) (e : Question) → AreInTurn questions → IsPermutation questions asked → length numbers ≡ length questions
    → i < length asked → AreAnswered f asked numbers i → AreAnswered f asked (set numbers (get_or asked i e).at (f (get_or asked i e).key)) (i + 1)
answered_more f questions asked numbers i e turn moved count within before k d below inside = by (cases_eq (get_or asked k d).at (get_or asked i e).at)
  where
    now : Question
    now = get_or asked i e

    fits : now.at < length numbers
    fits = let h : now.at < length questions = place_within questions asked i e turn moved within in omega (arith, h, count)

    is_asked : (j : ℕ) (c : Question) → j < length asked → Contains questions (get_or asked j c)
    is_asked j c h = Contains-permutation asked questions (get_or asked j c) (IsPermutation-sym questions asked moved) (Contains-get_or asked j c h)

    -- it is an earlier question, at another place
    earlier : ((get_or asked k d).at ≡ now.at → ⊥) → k < i
    earlier apart = other (cases_lt k i)
      where
        other : ((k < i) ⊎ (i ≤ k)) → k < i
        other (inl h) = h
        other (inr h) =
            let same : k ≡ i = omega (arith, h, below) in
            absurd (apart (ap (λ q. q.at) (ap (λ (j : ℕ). get_or asked j d) same ∙ get_or_default asked i d e within)))

    by : (((get_or asked k d).at ≡ now.at) ⊎ ((get_or asked k d).at ≡ now.at → ⊥)) → get_or (set numbers now.at (f now.key)) (get_or asked k d).at 0 ≡ f (get_or asked k d).key
    by (inl same) =
        let one : get_or asked k d ≡ now = one_place questions (get_or asked k d) now turn (is_asked k d inside) (is_asked i e within) same in
        ap (λ (j : ℕ). get_or (set numbers now.at (f now.key)) j 0) same ∙ get_or-set_same numbers now.at (f now.key) 0 fits ∙ sym (ap (λ q. f q.key) one)
    by (inr apart) = get_or-set_other numbers now.at (get_or asked k d).at (f now.key) 0 apart ∙ before k d (earlier apart) inside

pub all_answered : (f : Key → ℕ) (questions asked : List Question) (numbers : List ℕ) (n : ℕ) → AreInTurn questions → IsPermutation questions asked → length numbers ≡ length questions → length asked ≤ n
    → AreAnswered f asked numbers n → numbers ≡ map (λ q. f q.key) questions
all_answered f questions asked numbers n turn moved count all answered =
    ext_get_or 0 numbers (map (λ q. f q.key) questions) (count ∙ sym (length-map questions (λ q. f q.key))) (λ i within. at i (omega (arith, within, count)))
  where
    at : (i : ℕ) → i < length questions → get_or numbers i 0 ≡ get_or (map (λ q. f q.key) questions) i 0
    at i within = found (Contains-permutation questions asked q moved (Contains-get_or questions i none within))
      where
        none : Question
        none = record { key = record { net = 0; layer = 0; x = pos 0; y = pos 0 }; at = 0 }

        q : Question
        q = get_or questions i none

        found : Contains asked q → get_or numbers i 0 ≡ get_or (map (λ q. f q.key) questions) i 0
        found (k, below, e) =
            let place : q.at ≡ i = turn i none within in
            let told = answered k q (omega (arith, below, all)) below in
            ap (λ (j : ℕ). get_or numbers j 0) (sym place ∙ sym (ap (λ r. r.at) e)) ∙ told ∙ ap (λ r. f r.key) e ∙ sym (get_or-map (λ q. f q.key) questions i none 0 within)
