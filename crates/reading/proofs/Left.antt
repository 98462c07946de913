-- What is left of a pattern after a word is what may follow the word.
use Rattle.std.proofs.Common.{◌≡◌, ℕ, zero, suc, Bool, true, false, cond, not, ◌&&◌, ◌||◌, List, [], ◌∷◌, ◌++◌, length, refl, sym, ◌∙◌, ap, subst, append_assoc, arith, length-append, ◌⊎◌, inl, inr, slice_get, Some, None}
use Rattle.std.specs.List.{AllByRecursion}
use Rattle.std.proofs.lemmas.List.{append-nil}
use Rattle.reading.specs.Pattern.{Pattern, Never, Empty, One, Then, Or, Many, joined, Matches}
use Rattle.reading.specs.Tests.{skips, first, apart, meet, solid, closes, HasSamples, IsEach}
use Rattle.reading.specs.inside.Left.{seq, alt, left}
use Rattle.reading.proofs.Run.{compare, nothing_left}

pub both : (a b : Bool) → (a && b) ≡ true → (a ≡ true) × (b ≡ true)
both true true h = (refl, refl)
both true false h = (refl, h)
both false b h = absurd (let t : false ≡ true = h in cc)

pub either : (a b : Bool) → (a || b) ≡ true → (a ≡ true) ⊎ (b ≡ true)
either true b h = inl refl
either false b h = inr h

pub not-true : (a : Bool) → not a ≡ true → a ≡ false
not-true true h = absurd (let t : false ≡ true = h in cc)
not-true false h = refl

-- ## no words

pub skips-to : {W S : Type 0} (sort : W → S) (p : Pattern S) → skips p ≡ true → Matches sort p []
skips-to sort Never h = absurd (let t : false ≡ true = h in cc)
skips-to sort Empty h = refl
skips-to sort (One class) h = absurd (let t : false ≡ true = h in cc)
skips-to sort (Then p q) h = let t = both (skips p) (skips q) h in ([], [], skips-to sort p t.0, skips-to sort q t.1, refl)
skips-to sort (Or p q) h = elim (either (skips p) (skips q) h) [ inl t ↦ inl (skips-to sort p t) | inr t ↦ inr (skips-to sort q t) ]
skips-to sort (Many p) h = ([], tt, refl)

no-words : {W : Type 0} (x y : List W) → [] ≡ x ++ y → (x ≡ []) × (y ≡ [])
no-words [] y h = (refl, sym h)
no-words (c ∷ x) y h = absurd (let n : 0 ≡ length (c ∷ (x ++ y)) = ap length h in omega arith)

or-true : (a b : Bool) → b ≡ true → (a || b) ≡ true
or-true true b h = refl
or-true false b h = h

or-left : (a b : Bool) → a ≡ true → (a || b) ≡ true
or-left true b h = refl
or-left false b h = absurd (let t : false ≡ true = h in cc)

and-true : (a b : Bool) → a ≡ true → b ≡ true → (a && b) ≡ true
and-true true b h k = k
and-true false b h k = h

pub skips-of : {W S : Type 0} (sort : W → S) (p : Pattern S) → Matches sort p [] → skips p ≡ true
skips-of sort Never h = absurd h
skips-of sort Empty h = refl
skips-of sort (One class) h = absurd (let n : [] ≡ h.0 ∷ [] = h.2 in cc)
skips-of {W} sort (Then p q) h =
    let t = no-words h.0 h.1 h.4 in
    and-true (skips p) (skips q) (skips-of sort p (subst (λ z. Matches sort p z) t.0 h.2)) (skips-of sort q (subst (λ z. Matches sort q z) t.1 h.3))
skips-of sort (Or p q) h = elim h [ inl t ↦ or-left (skips p) (skips q) (skips-of sort p t) | inr t ↦ or-true (skips p) (skips q) (skips-of sort q t) ]
skips-of sort (Many p) h = refl

-- ## the two ways to join

pub seq-to : {W S : Type 0} (sort : W → S) (p q : Pattern S) (x y : List W) → Matches sort p x → Matches sort q y → Matches sort (seq p q) (x ++ y)
seq-to sort Never q x y h k = h
seq-to {W} sort Empty q x y h k = subst (λ (z : List W). Matches sort q (z ++ y)) (sym h) k
seq-to sort p q x y h k = (x, y, h, k, refl)

abbrev Split : {W S : Type 0} → (W → S) → Pattern S → Pattern S → List W → Type 0
Split {W} sort p q words = (x : List W) × (y : List W) × Matches sort p x × Matches sort q y × (words ≡ x ++ y)

pub seq-from : {W S : Type 0} (sort : W → S) (p q : Pattern S) (words : List W) → Matches sort (seq p q) words → Split sort p q words
seq-from sort Never q words h = absurd h
seq-from sort Empty q words h = ([], words, refl, h, refl)
seq-from sort p q words h = h

pub alt-left : {W S : Type 0} (sort : W → S) (p q : Pattern S) (words : List W) → Matches sort p words → Matches sort (alt p q) words
alt-left sort Never q words h = absurd h
alt-left sort p Never words h = h
alt-left sort p q words h = inl h

pub alt-right : {W S : Type 0} (sort : W → S) (p q : Pattern S) (words : List W) → Matches sort q words → Matches sort (alt p q) words
alt-right sort Never q words h = h
alt-right sort p Never words h = absurd h
alt-right sort p q words h = inr h

pub alt-from : {W S : Type 0} (sort : W → S) (p q : Pattern S) (words : List W) → Matches sort (alt p q) words → Matches sort p words ⊎ Matches sort q words
alt-from sort Never q words h = inr h
alt-from sort p Never words h = inl h
alt-from sort p q words h = h

-- ## after a word

one-to : {W S : Type 0} (sort : W → S) (class : S → Bool) (w : W) (words : List W) (b : Bool) → class (sort w) ≡ b →
    Matches sort (cond b Empty Never) words → Matches sort (One class) (w ∷ words)
one-to {W} sort class w words true e h = (w, e, ap (λ (z : List W). w ∷ z) h)
one-to sort class w words false e h = absurd h

then-part : {W S : Type 0} (sort : W → S) (p q : Pattern S) (w : W) (words : List W) →
    ((x : List W) → Matches sort (left (sort w) p) x → Matches sort p (w ∷ x)) →
    Matches sort (seq (left (sort w) p) q) words → Matches sort (Then p q) (w ∷ words)
then-part {W} sort p q w words to h =
    let t = seq-from sort (left (sort w) p) q words h in
    (w ∷ t.0, t.1, to t.0 t.2, t.3, ap (λ (z : List W). w ∷ z) t.4)

then-to : {W S : Type 0} (sort : W → S) (p q : Pattern S) (w : W) (words : List W) →
    ((x : List W) → Matches sort (left (sort w) p) x → Matches sort p (w ∷ x)) →
    ((x : List W) → Matches sort (left (sort w) q) x → Matches sort q (w ∷ x)) → (b : Bool) → skips p ≡ b →
    Matches sort (cond b (alt (seq (left (sort w) p) q) (left (sort w) q)) (seq (left (sort w) p) q)) words → Matches sort (Then p q) (w ∷ words)
then-to sort p q w words to to_q false e h = then-part sort p q w words to h
then-to sort p q w words to to_q true e h =
    elim (alt-from sort (seq (left (sort w) p) q) (left (sort w) q) words h) [
      | inl t ↦ then-part sort p q w words to t
      | inr t ↦ ([], w ∷ words, skips-to sort p e, to_q words t, refl)
    ]

pub left-to : {W S : Type 0} (sort : W → S) (p : Pattern S) (w : W) (words : List W) → Matches sort (left (sort w) p) words → Matches sort p (w ∷ words)
left-to sort Never w words h = h
left-to sort Empty w words h = absurd h
left-to sort (One class) w words h = one-to sort class w words (class (sort w)) refl h
left-to sort (Then p q) w words h = then-to sort p q w words (left-to sort p w) (left-to sort q w) (skips p) refl h
left-to sort (Or p q) w words h =
    elim (alt-from sort (left (sort w) p) (left (sort w) q) words h) [ inl t ↦ inl (left-to sort p w words t) | inr t ↦ inr (left-to sort q w words t) ]
left-to {W} sort (Many p) w words h =
    let t = seq-from sort (left (sort w) p) (Many p) words h in
    ((w ∷ t.0) ∷ t.3.0, (left-to sort p w t.0 t.2, t.3.1), ap (λ (z : List W). w ∷ z) (t.4 ∙ ap (λ z. t.0 ++ z) t.3.2))

-- A repetition that begins with a word: its first part that is not empty does.
abbrev Turn : {W S : Type 0} → (W → S) → Pattern S → W → List W → Type 0
Turn {W} sort p w words = (x : List W) × (y : List W) × Matches sort p (w ∷ x) × Matches sort (Many p) y × (words ≡ x ++ y)

turn : {W S : Type 0} (sort : W → S) (p : Pattern S) (w : W) (words : List W) (parts : List (List W)) →
    AllByRecursion (Matches sort p) parts → w ∷ words ≡ joined parts → Turn sort p w words
turn sort p w words [] h e = absurd (let n : length (w ∷ words) ≡ 0 = ap length e in omega arith)
turn sort p w words ([] ∷ parts) h e = turn sort p w words parts h.1 e
turn {W} sort p w words ((v ∷ x) ∷ parts) h e =
    let head : v ≡ w = cc in
    let tail : words ≡ x ++ joined parts = cc in
    (x, joined parts, subst (λ z. Matches sort p (z ∷ x)) head h.0, (parts, h.1, refl), tail)

then-pick : {W S : Type 0} (sort : W → S) (p q : Pattern S) (w : W) (words : List W) → Matches sort (seq (left (sort w) p) q) words → (b : Bool) →
    Matches sort (cond b (alt (seq (left (sort w) p) q) (left (sort w) q)) (seq (left (sort w) p) q)) words
then-pick sort p q w words m true = alt-left sort (seq (left (sort w) p) q) (left (sort w) q) words m
then-pick sort p q w words m false = m

then-from : {W S : Type 0} (sort : W → S) (p q : Pattern S) (w : W) (words : List W) →
    ((x : List W) → Matches sort p (w ∷ x) → Matches sort (left (sort w) p) x) →
    ((x : List W) → Matches sort q (w ∷ x) → Matches sort (left (sort w) q) x) →
    (x y : List W) → Matches sort p x → Matches sort q y → w ∷ words ≡ x ++ y → (b : Bool) → skips p ≡ b →
    Matches sort (cond b (alt (seq (left (sort w) p) q) (left (sort w) q)) (seq (left (sort w) p) q)) words
then-from sort p q w words from from_q [] y h k e false skip =
    absurd (let t : true ≡ false = sym (skips-of sort p h) ∙ skip in cc)
then-from sort p q w words from from_q [] y h k e true skip =
    alt-right sort (seq (left (sort w) p) q) (left (sort w) q) words (from_q words (subst (λ z. Matches sort q z) (sym e) k))
then-from {W} sort p q w words from from_q (v ∷ x) y h k e b skip =
    let head : v ≡ w = cc in
    let tail : words ≡ x ++ y = cc in
    let m : Matches sort (seq (left (sort w) p) q) words =
    subst (λ z. Matches sort (seq (left (sort w) p) q) z) (sym tail)
    (seq-to sort (left (sort w) p) q x y (from x (subst (λ z. Matches sort p (z ∷ x)) head h)) k) in
    then-pick sort p q w words m b

one-from : {W S : Type 0} (sort : W → S) (class : S → Bool) (w v : W) (words : List W) → class (sort v) ≡ true → w ∷ words ≡ v ∷ [] →
    (b : Bool) → class (sort w) ≡ b → Matches sort (cond b Empty Never) words
one-from sort class w v words m e true b = cc
one-from sort class w v words m e false b = absurd (let head : w ≡ v = cc in let t : true ≡ false = sym m ∙ ap (λ z. class (sort z)) (sym head) ∙ b in cc)

pub left-from : {W S : Type 0} (sort : W → S) (p : Pattern S) (w : W) (words : List W) → Matches sort p (w ∷ words) → Matches sort (left (sort w) p) words
left-from sort Never w words h = h
left-from sort Empty w words h = absurd (let n : length (w ∷ words) ≡ 0 = ap length h in omega arith)
left-from sort (One class) w words h = one-from sort class w h.0 words h.1 h.2 (class (sort w)) refl
left-from sort (Then p q) w words h =
    then-from sort p q w words (left-from sort p w) (left-from sort q w) h.0 h.1 h.2 h.3 h.4 (skips p) refl
left-from sort (Or p q) w words h =
    elim h [
      | inl t ↦ alt-left sort (left (sort w) p) (left (sort w) q) words (left-from sort p w words t)
      | inr t ↦ alt-right sort (left (sort w) p) (left (sort w) q) words (left-from sort q w words t)
    ]
left-from {W} sort (Many p) w words h =
    let t = turn sort p w words h.0 h.1 h.2 in
    subst (λ z. Matches sort (seq (left (sort w) p) (Many p)) z) (sym t.4) (seq-to sort (left (sort w) p) (Many p) t.0 t.1 (left-from sort p w t.0 t.2) t.3)

-- ## first words

first-then : {W S : Type 0} (sort : W → S) (p q : Pattern S) (w : W) (words : List W) →
    ((x : List W) → Matches sort p (w ∷ x) → first (sort w) p ≡ true) → ((x : List W) → Matches sort q (w ∷ x) → first (sort w) q ≡ true) →
    (x y : List W) → Matches sort p x → Matches sort q y → w ∷ words ≡ x ++ y → (first (sort w) p || (skips p && first (sort w) q)) ≡ true
first-then sort p q w words f g [] y h k e =
    or-true (first (sort w) p) (skips p && first (sort w) q)
    (and-true (skips p) (first (sort w) q) (skips-of sort p h) (g words (subst (λ z. Matches sort q z) (sym e) k)))
first-then sort p q w words f g (v ∷ x) y h k e =
    let head : v ≡ w = cc in
    or-left (first (sort w) p) (skips p && first (sort w) q) (f x (subst (λ z. Matches sort p (z ∷ x)) head h))

pub first-is : {W S : Type 0} (sort : W → S) (p : Pattern S) (w : W) (words : List W) → Matches sort p (w ∷ words) → first (sort w) p ≡ true
first-is sort Never w words h = absurd h
first-is sort Empty w words h = absurd (let n : length (w ∷ words) ≡ 0 = ap length h in omega arith)
first-is sort (One class) w words h = let head : w ≡ h.0 = (let e : w ∷ words ≡ h.0 ∷ [] = h.2 in cc) in ap (λ z. class (sort z)) head ∙ h.1
first-is sort (Then p q) w words h = first-then sort p q w words (first-is sort p w) (first-is sort q w) h.0 h.1 h.2 h.3 h.4
first-is sort (Or p q) w words h =
    elim h [
      | inl t ↦ or-left (first (sort w) p) (first (sort w) q) (first-is sort p w words t)
      | inr t ↦ or-true (first (sort w) p) (first (sort w) q) (first-is sort q w words t)
    ]
first-is sort (Many p) w words h = let t = turn sort p w words h.0 h.1 h.2 in first-is sort p w t.0 t.2

-- ## what words there are

sample : {W S : Type 0} (sort : W → S) (sorts : List S) (u class : S → Bool) → HasSamples sort u → meet sorts u class ≡ true → (w : W) × (class (sort w) ≡ true)
sample sort [] u class all h = absurd (let t : false ≡ true = h in cc)
sample sort (x ∷ sorts) u class all h = elim (either (u x && class x) (meet sorts u class) h) [
  | inl t ↦ let k = both (u x) (class x) t in let s = all x k.0 in (s.0, ap class s.1 ∙ k.1)
  | inr t ↦ sample sort sorts u class all t
]

pub live : {W S : Type 0} (sort : W → S) (n : List S) (u : S → Bool) → HasSamples sort u → (p : Pattern S) → solid n u p ≡ true → (words : List W) × Matches sort p words
live sort n u all Never h = absurd (let t : false ≡ true = h in cc)
live sort n u all Empty h = ([], refl)
live sort n u all (One class) h = let s = sample sort n u class all h in (s.0 ∷ [], (s.0, s.1, refl))
live sort n u all (Then p q) h =
    let t = both (solid n u p) (solid n u q) h in
    let x = live sort n u all p t.0 in
    let y = live sort n u all q t.1 in
    (x.0 ++ y.0, (x.0, y.0, x.1, y.1, refl))
live sort n u all (Or p q) h = let t = both (solid n u p) (solid n u q) h in let x = live sort n u all p t.0 in (x.0, inl x.1)
live sort n u all (Many p) h = ([], ([], tt, refl))

-- What is left has words in each part, or has none at all.
abbrev pub IsNeat : {S : Type 0} → List S → (S → Bool) → Pattern S → Type 0
IsNeat n u p = (p ≡ Never) ⊎ (solid n u p ≡ true)

seq-solid : {S : Type 0} (n : List S) (u : S → Bool) (p q : Pattern S) → solid n u p ≡ true → solid n u q ≡ true → solid n u (seq p q) ≡ true
seq-solid n u Never q h k = h
seq-solid n u Empty q h k = k
seq-solid n u p q h k = and-true (solid n u p) (solid n u q) h k

seq-neat : {S : Type 0} (n : List S) (u : S → Bool) (p q : Pattern S) → IsNeat n u p → solid n u q ≡ true → IsNeat n u (seq p q)
seq-neat n u p q h k = elim h [ inl t ↦ inl (ap (λ z. seq z q) t) | inr t ↦ inr (seq-solid n u p q t k) ]

alt-solid : {S : Type 0} (n : List S) (u : S → Bool) (p q : Pattern S) → solid n u p ≡ true → solid n u q ≡ true → solid n u (alt p q) ≡ true
alt-solid n u Never q h k = k
alt-solid n u p Never h k = h
alt-solid n u p q h k = and-true (solid n u p) (solid n u q) h k

pub alt-none : {S : Type 0} (p : Pattern S) → alt p Never ≡ p
alt-none Never = refl
alt-none p = refl

alt-neat : {S : Type 0} (n : List S) (u : S → Bool) (p q : Pattern S) → IsNeat n u p → IsNeat n u q → IsNeat n u (alt p q)
alt-neat n u p q h k = elim h [
  | inl t ↦ elim k [ inl e ↦ inl (ap (λ z. alt z q) t ∙ e) | inr e ↦ inr (ap (λ z. solid n u (alt z q)) t ∙ e) ]
  | inr t ↦ elim k [
    | inl e ↦ inr (ap (λ z. solid n u (alt p z)) e ∙ ap (λ z. solid n u z) (alt-none p) ∙ t)
    | inr e ↦ inr (alt-solid n u p q t e)
  ]
]

cond-neat : {S : Type 0} (n : List S) (u : S → Bool) (b : Bool) (p q : Pattern S) → IsNeat n u p → IsNeat n u q → IsNeat n u (cond b p q)
cond-neat n u true p q h k = h
cond-neat n u false p q h k = k

pub left-neat : {S : Type 0} (n : List S) (u : S → Bool) (s : S) (p : Pattern S) → solid n u p ≡ true → IsNeat n u (left s p)
left-neat n u s Never h = inl refl
left-neat n u s Empty h = inl refl
left-neat n u s (One class) h = cond-neat n u (class s) Empty Never (inr refl) (inl refl)
left-neat n u s (Then p q) h =
    let t = both (solid n u p) (solid n u q) h in
    let x = seq-neat n u (left s p) q (left-neat n u s p t.0) t.1 in
    cond-neat n u (skips p) (alt (seq (left s p) q) (left s q)) (seq (left s p) q) (alt-neat n u (seq (left s p) q) (left s q) x (left-neat n u s q t.1)) x
left-neat n u s (Or p q) h =
    let t = both (solid n u p) (solid n u q) h in alt-neat n u (left s p) (left s q) (left-neat n u s p t.0) (left-neat n u s q t.1)
left-neat n u s (Many p) h = seq-neat n u (left s p) (Many p) (left-neat n u s p h) h

-- ## no words of the pattern begin others

abbrev pub IsClosed : {W S : Type 0} → (W → S) → Pattern S → Type 0
IsClosed {W} sort p = (u x : List W) → Matches sort p u → Matches sort p (u ++ x) → x ≡ []

apart-at : {S : Type 0} (all : List S) (p q : Pattern S) → apart all p q ≡ true → (s : S) (i : ℕ) → slice_get all i ≡ Some s → first s p ≡ true → first s q ≡ true → ⊥
apart-at [] p q h s i e a b = let t : None ≡ Some s = e in cc
apart-at (x ∷ all) p q h s zero e a b =
    let t = both (not (first x p && first x q)) (apart all p q) h in
    let same : x ≡ s = (let k : Some x ≡ Some s = e in cc) in
    let f : (first x p && first x q) ≡ false = not-true (first x p && first x q) t.0 in
    let g : (first x p && first x q) ≡ true = and-true (first x p) (first x q) (ap (λ z. first z p) same ∙ a) (ap (λ z. first z q) same ∙ b) in
    let c : true ≡ false = sym g ∙ f in cc
apart-at (x ∷ all) p q h s (suc i) e a b =
    let t = both (not (first x p && first x q)) (apart all p q) h in apart-at all p q t.1 s i e a b

apart-is : {S : Type 0} (all : List S) → IsEach all → (p q : Pattern S) → apart all p q ≡ true → (s : S) → first s p ≡ true → first s q ≡ true → ⊥
apart-is all each p q h s a b = let t = each s in apart-at all p q h s t.0 t.1 a b

-- Words of two patterns that no sort begins both of are not alike in front.
not-alike : {W S : Type 0} (sort : W → S) (n : List S) → IsEach n → (p q : Pattern S) → apart n p q ≡ true →
    (x y r t : List W) → Matches sort p x → Matches sort q y → skips p ≡ false → skips q ≡ false → x ++ r ≡ y ++ t → ⊥
not-alike sort n below p q h [] y r t a b sp sq e = let c : true ≡ false = sym (skips-of sort p a) ∙ sp in cc
not-alike sort n below p q h (v ∷ x) [] r t a b sp sq e = let c : true ≡ false = sym (skips-of sort q b) ∙ sq in cc
not-alike sort n below p q h (v ∷ x) (w ∷ y) r t a b sp sq e =
    let head : v ≡ w = cc in
    apart-is n below p q h (sort v) (first-is sort p v x a) (ap (λ z. first (sort z) q) head ∙ first-is sort q w y b)

one-closed : {W S : Type 0} (sort : W → S) (class : S → Bool) → IsClosed sort (One class)
one-closed {W} sort class u x a b =
    let n : length (u ++ x) ≡ 1 = ap length b.2 in
    let m : length u ≡ 1 = ap length a.2 in
    nothing_left x (omega (arith, length-append u x))

-- Of two fronts of one list that a closed pattern has, each is the other.
same-front : {W S : Type 0} (sort : W → S) (p : Pattern S) → IsClosed sort p → (x y r t : List W) → Matches sort p x → Matches sort p y → x ++ r ≡ y ++ t → (x ≡ y) × (r ≡ t)
same-front {W} sort p c x y r t a b e = elim (compare x y r t e) [
  | inl k ↦
      let z : k.0 ≡ [] = c x k.0 a (subst (λ z. Matches sort p z) k.1 b) in
      (sym (k.1 ∙ ap (λ z. x ++ z) z ∙ append-nil x), k.2 ∙ ap (λ (z : List W). z ++ t) z)
  | inr k ↦
      let z : k.0 ≡ [] = c y k.0 b (subst (λ z. Matches sort p z) k.1 a) in
      (k.1 ∙ ap (λ z. y ++ z) z ∙ append-nil y, sym (k.2 ∙ ap (λ (z : List W). z ++ r) z))
]

then-closed : {W S : Type 0} (sort : W → S) (p q : Pattern S) → IsClosed sort p → IsClosed sort q → IsClosed sort (Then p q)
then-closed {W} sort p q cp cq u z a b =
    let e : a.0 ++ (a.1 ++ z) ≡ b.0 ++ b.1 = sym (append_assoc a.0 a.1 z) ∙ ap (λ (y : List W). y ++ z) (sym a.4) ∙ b.4 in
    let k = same-front sort p cp a.0 b.0 (a.1 ++ z) b.1 a.2 b.2 e in
    cq a.1 z a.3 (subst (λ y. Matches sort q y) (sym k.1) b.3)

-- A repetition, then words that no repetition begins with.
turns-closed : {W S : Type 0} (sort : W → S) (n : List S) → IsEach n → (p q : Pattern S) →
    IsClosed sort p → skips p ≡ false → IsClosed sort q → skips q ≡ false → apart n p q ≡ true →
    (xs ys : List (List W)) (x y z : List W) → AllByRecursion (Matches sort p) xs → AllByRecursion (Matches sort p) ys →
    Matches sort q x → Matches sort q y → joined xs ++ (x ++ z) ≡ joined ys ++ y → z ≡ []
turns-closed sort n below p q cp sp cq sq ap_ [] [] x y z hx hy a b e = cq x z a (subst (λ k. Matches sort q k) (sym e) b)
turns-closed sort n below p q cp sp cq sq ap_ [] (v ∷ ys) x y z hx hy a b e =
    absurd (not-alike sort n below p q ap_ v x (joined ys ++ y) z hy.0 a sp sq (sym (e ∙ append_assoc v (joined ys) y)))
turns-closed sort n below p q cp sp cq sq ap_ (u ∷ xs) [] x y z hx hy a b e =
    absurd (not-alike sort n below p q ap_ u y (joined xs ++ (x ++ z)) [] hx.0 b sp sq (sym (append_assoc u (joined xs) (x ++ z)) ∙ e ∙ sym (append-nil y)))
turns-closed sort n below p q cp sp cq sq ap_ (u ∷ xs) (v ∷ ys) x y z hx hy a b e =
    let k = same-front sort p cp u v (joined xs ++ (x ++ z)) (joined ys ++ y) hx.0 hy.0
    (sym (append_assoc u (joined xs) (x ++ z)) ∙ e ∙ append_assoc v (joined ys) y) in
    turns-closed sort n below p q cp sp cq sq ap_ xs ys x y z hx.1 hy.1 a b k.1

many-closed : {W S : Type 0} (sort : W → S) (n : List S) → IsEach n → (p q : Pattern S) →
    IsClosed sort p → skips p ≡ false → IsClosed sort q → skips q ≡ false → apart n p q ≡ true → IsClosed sort (Then (Many p) q)
many-closed {W} sort n below p q cp sp cq sq ap_ u z a b =
    let e : joined a.2.0 ++ (a.1 ++ z) ≡ joined b.2.0 ++ b.1 =
    ap (λ (y : List W). y ++ (a.1 ++ z)) (sym a.2.2) ∙ sym (append_assoc a.0 a.1 z) ∙ ap (λ (y : List W). y ++ z) (sym a.4) ∙ b.4
    ∙ ap (λ (y : List W). y ++ b.1) b.2.2 in
    turns-closed sort n below p q cp sp cq sq ap_ a.2.0 b.2.0 a.1 b.1 z a.2.1 b.2.1 a.3 b.3 e

or-closed : {W S : Type 0} (sort : W → S) (n : List S) → IsEach n → (p q : Pattern S) →
    IsClosed sort p → skips p ≡ false → IsClosed sort q → skips q ≡ false → apart n p q ≡ true → IsClosed sort (Or p q)
or-closed {W} sort n below p q cp sp cq sq ap_ u z a b = elim a [
  | inl k ↦ elim b [
    | inl m ↦ cp u z k m
    | inr m ↦ absurd (not-alike sort n below p q ap_ u (u ++ z) z [] k m sp sq (sym (append-nil (u ++ z))))
  ]
  | inr k ↦ elim b [
    | inl m ↦ absurd (not-alike sort n below p q ap_ (u ++ z) u [] z m k sp sq (append-nil (u ++ z)))
    | inr m ↦ cq u z k m
  ]
]

-- The four parts of a test.
pub record Parts {S : Type 0} (n : List S) (p q : Pattern S) : Type 0 where
  pub left_closes : closes n p ≡ true
  pub left_some : skips p ≡ false
  pub right_closes : closes n q ≡ true
  pub right_some : skips q ≡ false
  pub is : apart n p q ≡ true

parts : {S : Type 0} (n : List S) (p q : Pattern S) → (closes n p && not (skips p) && closes n q && not (skips q) && apart n p q) ≡ true → Parts n p q
parts n p q h =
    let a = both (closes n p && not (skips p) && closes n q && not (skips q)) (apart n p q) h in
    let b = both (closes n p && not (skips p) && closes n q) (not (skips q)) a.0 in
    let c = both (closes n p && not (skips p)) (closes n q) b.0 in
    let d = both (closes n p) (not (skips p)) c.0 in
    record { left_closes = d.0; left_some = not-true (skips p) d.1; right_closes = c.1; right_some = not-true (skips q) b.1; is = a.1 }

pub closed : {W S : Type 0} (sort : W → S) (n : List S) → IsEach n → (p : Pattern S) → closes n p ≡ true → IsClosed sort p
closed sort n below Never h = λ u x a b. absurd a
closed {W} sort n below Empty h = λ u x a b. (no-words u x (sym b)).1
closed sort n below (One class) h = one-closed sort class
closed sort n below (Then (Many p) q) h =
    let t = parts n p q h in
    many-closed sort n below p q (closed sort n below p t.left_closes) t.left_some (closed sort n below q t.right_closes) t.right_some t.is
closed sort n below (Then p q) h =
    let t = both (closes n p) (closes n q) h in then-closed sort p q (closed sort n below p t.0) (closed sort n below q t.1)
closed sort n below (Or p q) h =
    let t = parts n p q h in
    or-closed sort n below p q (closed sort n below p t.left_closes) t.left_some (closed sort n below q t.right_closes) t.right_some t.is
closed sort n below (Many p) h = absurd (let t : false ≡ true = h in cc)
