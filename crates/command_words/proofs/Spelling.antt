-- Words that set options: which settings they are is known from the front.
use Rattle.std.proofs.Common.{◌≡◌, ◌≢◌, inl, inr, ℕ, zero, suc, Bool, ◌==◌, not, ◌+◌, ◌-◌, ◌<◌, ◌≤◌, All, List, [], ◌∷◌, ◌++◌, length, take, drop, get_or, Contains, true, false, refl, sym, ◌∙◌, ap, subst, arith}
use Rattle.std.specs.List.{list_all}
use Rattle.std.specs.Str.{bytes_eq}
use Rattle.std.specs.Borrow.{Bor}
use Rattle.std.proofs.lemmas.List.{take_all, take_more, length-drop, length-map, map-append, get_or-map, drop-map}
use Rattle.std.proofs.lemmas.Slice.Eq.{bytes_eq-Decides}
use Rattle.std.proofs.lemmas.List.Elements.{All-nil, All-cons, All-contains, Contains-get_or, Contains-push_cases}
use Rattle.clap.proofs.CutLemmas.{Lacks}
use Rattle.command_words.specs.Setting.{Sets, AreSettings}
use Rattle.command_words.specs.inside.Parsed.{has_no_equals}
use Rattle.command_words.specs.inside.Split.{texts}
use Rattle.command_words.proofs.Truth.{two}

abbrev pub HasNoEquals : List ℕ → Type 0
HasNoEquals text = Lacks 61 text

abbrev pub plain_list : List (List ℕ) → Bool
plain_list options = list_all has_no_equals options

plain_byte : (byte : ℕ) → not (byte == 61) ≡ true → byte ≢ 61
plain_byte byte h = grind (arith, h)

pub text_plain : (text : List ℕ) → has_no_equals text ≡ true → HasNoEquals text
text_plain [] h i k = absurd (omega arith)
text_plain (x ∷ xs) h zero k = plain_byte x (two (not (x == 61)) (has_no_equals xs) h).0
text_plain (x ∷ xs) h (suc i) k = text_plain xs (two (not (x == 61)) (has_no_equals xs) h).1 i (omega arith)

all_plain : (options : List (List ℕ)) → plain_list options ≡ true → All HasNoEquals options
all_plain [] h = All-nil HasNoEquals
all_plain (x ∷ xs) h = let t = two (has_no_equals x) (plain_list xs) h in All-cons HasNoEquals x xs (text_plain x t.0) (all_plain xs t.1)

pub plain : (options : List (List ℕ)) → plain_list options ≡ true → (option : List ℕ) → Contains options option → HasNoEquals option
plain options h option known = All-contains HasNoEquals options option (all_plain options h) known

tail_no_equals : (x : ℕ) (xs : List ℕ) → HasNoEquals (x ∷ xs) → HasNoEquals xs
tail_no_equals x xs h = λ i k. h (suc i) (omega arith)

-- A text is cut at its first `=` in one way.
cut_once : (a b c d : List ℕ) → HasNoEquals a → HasNoEquals c → a ++ (61 ∷ b) ≡ c ++ (61 ∷ d) → (a ≡ c) × (b ≡ d)
cut_once [] b [] d h k e = (refl, (let t : 61 ∷ b ≡ 61 ∷ d = e in cc))
cut_once [] b (x ∷ c) d h k e = absurd (k 0 (omega arith) (let t : 61 ∷ b ≡ x ∷ (c ++ (61 ∷ d)) = e in cc))
cut_once (x ∷ a) b [] d h k e = absurd (h 0 (omega arith) (let t : x ∷ (a ++ (61 ∷ b)) ≡ 61 ∷ d = e in cc))
cut_once (x ∷ a) b (y ∷ c) d h k e =
    let heads : x ≡ y = (let t : x ∷ (a ++ (61 ∷ b)) ≡ y ∷ (c ++ (61 ∷ d)) = e in cc) in
    let tails : a ++ (61 ∷ b) ≡ c ++ (61 ∷ d) = (let t : x ∷ (a ++ (61 ∷ b)) ≡ y ∷ (c ++ (61 ∷ d)) = e in cc) in
    let more = cut_once a b c d (tail_no_equals x a h) (tail_no_equals y c k) tails in
    (ap (λ z. z ∷ a) heads ∙ ap (λ z. y ∷ z) more.0, more.1)

-- A text without `=` is not cut.
no_cut : (a c d : List ℕ) → HasNoEquals a → a ≡ c ++ (61 ∷ d) → ⊥
no_cut [] [] d h e = absurd (let t : [] ≡ 61 ∷ d = e in cc)
no_cut [] (x ∷ c) d h e = absurd (let t : [] ≡ x ∷ (c ++ (61 ∷ d)) = e in cc)
no_cut (x ∷ a) [] d h e = h 0 (omega arith) (let t : x ∷ a ≡ 61 ∷ d = e in cc)
no_cut (x ∷ a) (y ∷ c) d h e = no_cut a c d (tail_no_equals x a h) (let t : x ∷ a ≡ y ∷ (c ++ (61 ∷ d)) = e in cc)

heads_are : {A : Type 0} (x y : A) (xs ys : List A) → x ∷ xs ≡ y ∷ ys → (x ≡ y) × (xs ≡ ys)
heads_are x y xs ys e = ((let t : x ∷ xs ≡ y ∷ ys = e in cc), (let t : x ∷ xs ≡ y ∷ ys = e in cc))

not_empty : {A : Type 0} (x : A) (xs : List A) → [] ≡ x ∷ xs → ⊥
not_empty x xs e = absurd (let t : [] ≡ x ∷ xs = e in cc)

-- The first setting of words is one.
pub one_setting : (o v p w : List ℕ) (words r s : List (List ℕ)) → HasNoEquals o → HasNoEquals p → Sets o v words r → Sets p w words s →
    (o ≡ p) × (v ≡ w) × (r ≡ s)
one_setting o v p w words r s h k a b = elim a.spelled [
  | inl e ↦ elim b.spelled [
    | inl f ↦
        let t = heads_are o p (v ∷ r) (w ∷ s) (sym e ∙ f) in
        let u = heads_are v w r s t.1 in
        (t.0, u.0, u.1)
    | inr f ↦ absurd (no_cut o p w h (heads_are o (p ++ (61 ∷ w)) (v ∷ r) s (sym e ∙ f)).0)
  ]
  | inr e ↦ elim b.spelled [
    | inl f ↦ absurd (no_cut p o v k (heads_are p (o ++ (61 ∷ v)) (w ∷ s) r (sym f ∙ e)).0)
    | inr f ↦
        let t = heads_are (o ++ (61 ∷ v)) (p ++ (61 ∷ w)) r s (sym e ∙ f) in
        let u = cut_once o v p w h k t.0 in
        (u.0, u.1, t.1)
  ]
]

pub none_sets : (option value : List ℕ) (others : List (List ℕ)) → Sets option value [] others → ⊥
none_sets option value others h = elim h.spelled [ inl e ↦ not_empty option (value ∷ others) e | inr e ↦ not_empty (option ++ (61 ∷ value)) others e ]

abbrev pair_with : List ℕ → List ℕ → List ℕ × List ℕ
pair_with a b = (a, b)

pub settings_once : (options words : List (List ℕ)) (a b : List (List ℕ × List ℕ)) → ((option : List ℕ) → Contains options option → HasNoEquals option) →
    AreSettings options a words → AreSettings options b words → a ≡ b
settings_once options words [] [] plain h k = refl
settings_once options words [] (y ∷ b) plain h k = absurd (none_sets y.0 y.1 k.0 (subst (λ z. Sets y.0 y.1 z k.0) h k.2))
settings_once options words (x ∷ a) [] plain h k = absurd (none_sets x.0 x.1 h.0 (subst (λ z. Sets x.0 x.1 z h.0) k h.2))
settings_once options words (x ∷ a) (y ∷ b) plain h k =
    let same = one_setting x.0 x.1 y.0 y.1 words h.0 k.0 (plain x.0 h.1) (plain y.0 k.1) h.2 k.2 in
    let pair : x ≡ y = ap (λ z. pair_with z x.1) same.0 ∙ ap (λ z. pair_with y.0 z) same.1 in
    ap (λ z. z ∷ a) pair ∙ ap (λ z. y ∷ z) (settings_once options h.0 a b plain h.3 (subst (λ z. AreSettings options b z) (sym same.2) k.3))

-- ## words of the machine

pub text_at : (words : List (Bor (List ℕ))) (i : ℕ) (d : Bor (List ℕ)) → i < length words → get_or (texts words) i [] ≡ (get_or words i d).now
text_at words i d h = get_or-map (λ word. word.now) words i d [] h

front_one : (words : List (List ℕ)) → 0 < length words → words ≡ get_or words 0 [] ∷ drop 1 words
front_one [] h = absurd (omega arith)
front_one (x ∷ words) h = refl

pub first_word : (words : List (Bor (List ℕ))) (d : Bor (List ℕ)) → 0 < length words → texts words ≡ (get_or words 0 d).now ∷ drop 1 (texts words)
first_word words d h = front_one (texts words) (let n = length-map words (λ word. word.now) in omega arith) ∙ ap (λ z. z ∷ drop 1 (texts words)) (text_at words 0 d h)

-- ## options

pub option_more : (options : List (Bor (List ℕ))) (i : ℕ) (d : Bor (List ℕ)) → i < length options → texts (take (i + 1) options) ≡ texts (take i options) ++ (get_or options i d).now ∷ []
option_more options i d h = ap texts (take_more options i d h) ∙ map-append (λ word. word.now) (take i options) (get_or options i d ∷ [])

pub option_found : (options : List (Bor (List ℕ))) (i : ℕ) (d : Bor (List ℕ)) (word : List ℕ) → i < length options → bytes_eq (get_or options i d).now word ≡ true → Contains (texts options) word
option_found options i d word h e =
    subst (λ z. Contains (texts options) z) (text_at options i d h ∙ (bytes_eq-Decides (get_or options i d).now word).0 e)
    (Contains-get_or (texts options) i [] (let n = length-map options (λ word. word.now) in omega arith))

pub option_missed : (options : List (Bor (List ℕ))) (i : ℕ) (d : Bor (List ℕ)) (word : List ℕ) → i < length options → (Contains (texts (take i options)) word → ⊥) → bytes_eq (get_or options i d).now word ≡ false →
    Contains (texts (take (i + 1) options)) word → ⊥
option_missed options i d word h none e there =
    elim (Contains-push_cases (texts (take i options)) (get_or options i d).now word (subst (λ z. Contains z word) (option_more options i d h) there)) [
      | inl before ↦ none before
      | inr same ↦ absurd (let t : false ≡ true = sym e ∙ (bytes_eq-Decides (get_or options i d).now word).1 same in cc)
    ]

pub option_none : (options : List (Bor (List ℕ))) (i : ℕ) (word : List ℕ) → length options ≤ i → (Contains (texts (take i options)) word → ⊥) → Contains (texts options) word → ⊥
option_none options i word h none there = none (subst (λ z. Contains (texts z) word) (sym (take_all i options h)) there)

-- What follows the words of a setting.
pub others_are : (others : List (Bor (List ℕ))) (count : ℕ) → texts (take (length others - count) (drop count others)) ≡ drop count (texts others)
others_are others count =
    ap texts (take_all (length others - count) (drop count others) (omega (arith, length-drop count others))) ∙ sym (drop-map (λ word. word.now) count others)
