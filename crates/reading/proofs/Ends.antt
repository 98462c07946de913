-- Units that end a text, and what of the text is read.
use Rattle.std.proofs.Common.{◌≡◌, ℕ, ◌+◌, ◌<◌, ◌≤◌, Bool, true, false, List, [], ◌∷◌, ◌++◌, length, take, refl, sym, ◌∙◌, ap, subst, append_assoc, arith, length-append, inl, inr}
use Rattle.std.proofs.lemmas.List.{append-nil, take-append-le}
use Rattle.std.proofs.lemmas.Bool.{cases_lt}
use Rattle.reading.specs.Pattern.{Matches, joined}
use Rattle.reading.specs.Reading.{Format, Text, Follows, IsStart, HasFault, IsEnding, GoesPast}
use Rattle.reading.proofs.Run.{compare, last-by, follows-split}
use Rattle.reading.proofs.Sofar.{Sofar, Next, here}

no_ending : (b : Bool) → b ≡ true → b ≡ false → ⊥
no_ending b h k = cc

-- A text that has not begun has not ended.
pub begun-past : {W S K : Type 0} (f : Format W S K) → f.ends [] ≡ false → (text : Text W) → GoesPast f text 0
begun-past f begun text [] e = absurd (no_ending (f.ends []) e.ends begun)
begun-past f begun text (u ∷ us) e = let some : 0 < length u = e.whole.0 in omega (arith, length-append u (joined us))

pub never-past : {W S K : Type 0} (f : Format W S K) → ((units : List (List W)) → f.ends units ≡ false) → (text : Text W) (n : ℕ) → GoesPast f text n
never-past f never text n units e = absurd (no_ending (f.ends units) e.ends (never units))

pub less-past : {W S K : Type 0} (f : Format W S K) (text : Text W) (m n : ℕ) → GoesPast f text n → m ≤ n → GoesPast f text m
less-past f text m n past le units e = let lt : n < length (joined units) = past units e in omega arith

pub take-front : {X : Type 0} (xs ys : List X) → take (length xs) (xs ++ ys) ≡ xs
take-front [] ys = refl
take-front (x ∷ xs) ys = ap (λ z. x ∷ z) (take-front xs ys)

pub take-same : {X : Type 0} (xs ys zs : List X) (n : ℕ) → n ≤ length xs → take n (xs ++ ys) ≡ take n (xs ++ zs)
take-same xs ys zs n h = take-append-le n xs ys h ∙ sym (take-append-le n xs zs h)

-- Units that end the text with the next word are those so far and the one that is whole with it.
next-ending : {W S K : Type 0} (f : Format W S K) (text : Text W) (i : ℕ) (units : List (List W)) (part : List W) (w : W) →
    Sofar f text.words i units part → Next text.words i w → GoesPast f text i → (others : List (List W)) → IsEnding f text others →
    length (joined others) ≤ i + 1 → others ≡ units ++ (part ++ w ∷ []) ∷ []
next-ending {W} f text i units part w o n past others e le =
    let lt : i < length (joined others) = past others e in
    let count : length (joined others) ≡ i + 1 = omega arith in
    let words : joined others ≡ take (i + 1) text.words =
    sym (take-front (joined others) e.rest) ∙ ap (λ (z : List W). take (length (joined others)) z) (sym e.is) ∙ ap (λ z. take z text.words) count in
    last-by f units part w o.run others e.whole (words ∙ here f text.words i units part w o n)

pub open-past : {W S K : Type 0} (f : Format W S K) (text : Text W) (i : ℕ) (units : List (List W)) (part : List W) (w : W) →
    Sofar f text.words i units part → Next text.words i w → GoesPast f text i → (Matches (f.sort units) (f.follow units) (part ++ w ∷ []) → ⊥) →
    GoesPast f text (i + 1)
open-past f text i units part w o n past partly others e = elim (cases_lt (i + 1) (length (joined others))) [
  | inl lt ↦ lt
  | inr le ↦
      let same = next-ending f text i units part w o n past others e le in
      absurd (partly (follows-split f [] units ((part ++ w ∷ []) ∷ []) (subst (λ z. Follows f [] z) same e.whole)).1.1)
]

pub whole-past : {W S K : Type 0} (f : Format W S K) (text : Text W) (i : ℕ) (units : List (List W)) (part : List W) (w : W) →
    Sofar f text.words i units part → Next text.words i w → GoesPast f text i → f.ends (units ++ (part ++ w ∷ []) ∷ []) ≡ false →
    GoesPast f text (i + 1)
whole-past f text i units part w o n past none others e = elim (cases_lt (i + 1) (length (joined others))) [
  | inl lt ↦ lt
  | inr le ↦
      let same = next-ending f text i units part w o n past others e le in
      absurd (no_ending (f.ends others) e.ends (ap (λ z. f.ends z) same ∙ none))
]

-- ## no unit begins another

-- No whole unit begins a longer one.
abbrev pub Shut : {W S K : Type 0} → Format W S K → Type 0
Shut {W} f = (units : List (List W)) (u x : List W) → Matches (f.sort units) (f.follow units) u → Matches (f.sort units) (f.follow units) (u ++ x) → x ≡ []

-- A start that goes past whole units has at least as many words in whole units.
pub start-past : {W S K : Type 0} (f : Format W S K) → Shut f → (before us : List (List W)) (y : List W) → Follows f before us → 0 < length y →
    (vs : List (List W)) (p more : List W) → Follows f before vs → Matches (f.sort (before ++ vs)) (f.follow (before ++ vs)) (p ++ more) →
    joined us ++ y ≡ joined vs ++ p → length (joined us) ≤ length (joined vs)
start-past f shut before [] y h some vs p more k m e = omega arith
start-past {W} f shut before (u ∷ us) y h some [] p more k m e =
    let whole : Matches (f.sort before) (f.follow before) (u ++ ((joined us ++ y) ++ more)) =
    subst (λ z. Matches (f.sort before) (f.follow before) z) (ap (λ (z : List W). z ++ more) (sym e ∙ append_assoc u (joined us) y) ∙ append_assoc u (joined us ++ y) more)
    (subst (λ z. Matches (f.sort z) (f.follow z) (p ++ more)) (append-nil before) m) in
    let none : length ((joined us ++ y) ++ more) ≡ 0 = ap length (shut before u ((joined us ++ y) ++ more) h.1 whole) in
    absurd (omega (arith, length-append (joined us ++ y) more, length-append (joined us) y))
start-past {W} f shut before (u ∷ us) y h some (v ∷ vs) p more k m e =
    let parts : u ++ (joined us ++ y) ≡ v ++ (joined vs ++ p) = sym (append_assoc u (joined us) y) ∙ e ∙ append_assoc v (joined vs) p in
    let rest = λ (same : u ≡ v) (tail : joined us ++ y ≡ joined vs ++ p).
    let le : length (joined us) ≤ length (joined vs) =
    start-past f shut (before ++ u ∷ []) us y h.2 some vs p more (subst (λ z. Follows f (before ++ z ∷ []) vs) (sym same) k.2)
    (subst (λ z. Matches (f.sort z) (f.follow z) (p ++ more)) (sym (append_assoc before (v ∷ []) vs) ∙ ap (λ (z : List W). (before ++ z ∷ []) ++ vs) (sym same)) m) tail in
    let count : length u ≡ length v = ap length same in
    let all : length (u ++ joined us) ≤ length (v ++ joined vs) = omega (arith, length-append u (joined us), length-append v (joined vs)) in all in
    elim (compare u v (joined us ++ y) (joined vs ++ p) parts) [
      | inl t ↦
          let none : t.0 ≡ [] = shut before u t.0 h.1 (subst (λ z. Matches (f.sort before) (f.follow before) z) t.1 k.1) in
          rest (sym (t.1 ∙ ap (λ z. u ++ z) none ∙ append-nil u)) (t.2 ∙ ap (λ (z : List W). z ++ (joined vs ++ p)) none)
      | inr t ↦
          let none : t.0 ≡ [] = shut before v t.0 k.1 (subst (λ z. Matches (f.sort before) (f.follow before) z) t.1 h.1) in
          rest (t.1 ∙ ap (λ z. v ++ z) none ∙ append-nil v) (sym (t.2 ∙ ap (λ (z : List W). z ++ (joined us ++ y)) none))
    ]

-- The same words so far in another text.
pub sofar-other : {W S K : Type 0} (f : Format W S K) (text other front rest more : List W) (units : List (List W)) (part : List W) →
    text ≡ front ++ rest → other ≡ front ++ more → Sofar f text (length front) units part → Sofar f other (length front) units part
sofar-other {W} f text other front rest more units part a b o =
    let same = λ (n : ℕ) (le : n ≤ length front).
    let e : take n text ≡ take n other = ap (λ (z : List W). take n z) a ∙ take-same front rest more n le ∙ ap (λ (z : List W). take n z) (sym b) in e in
    record {
      run = o.run;
      is = sym (same (length front) (omega arith)) ∙ o.is;
      starts = λ m h. subst (λ z. IsStart f z) (same (m + 1) (omega arith)) (o.starts m h);
      clean = λ m h n k s. o.clean m h n k (subst (λ z. HasFault f z n k) (sym (same (m + 1) (omega arith))) s);
    }
