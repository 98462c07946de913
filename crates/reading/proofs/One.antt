-- A text, as far as it is read, has one result.
use Rattle.std.proofs.Common.{◌≡◌, ℕ, zero, suc, ◌+◌, ◌-◌, ◌<◌, ◌≤◌, List, [], ◌∷◌, ◌++◌, length, take, drop, Some, refl, sym, ◌∙◌, ap, subst, arith, length-append, inl, inr}
use Rattle.std.proofs.lemmas.Bool.{cases_lt}
use Rattle.std.proofs.Math.Seq.{take-add}
use Rattle.outside.specs.declared.place.Place.{Place}
use Rattle.reading.specs.declared.refusal.Cause.{Cause}
use Rattle.reading.specs.declared.refusal.Cause.TheVariants.{Syntax, Lex, Fault}
use Rattle.reading.specs.Pattern.{Pattern, Matches, joined}
use Rattle.reading.specs.Tests.{IsEach}
use Rattle.reading.specs.Reading.{Format, Text, IsStart, HasFault, CauseAt, IsRefused, IsRead, IsEnding, GoesPast, EndsFirst}
use Rattle.reading.specs.Word.{Token, place_in, end_after, ended_text}
use Rattle.reading.specs.Grammar.{IsRegular}
use Rattle.reading.specs.Outcome.{Hears, IsRefusedAt, IsReadAs}
use Rattle.reading.proofs.Left.{closed}
use Rattle.reading.proofs.Sofar.{along, refused-one, read-one, not-both}
use Rattle.reading.proofs.Ends.{Shut, start-past, take-front, take-same}

pub shut-regular : {S C K : Type 0} (all : List S) (pattern : C → Pattern S) (f : Format Token S K) → IsEach all → IsRegular all pattern f → Shut f
shut-regular all pattern f each r units u x m n =
    closed (f.sort units) all each (pattern (r.place units)) (r.units (r.place units)).closes u x
    (subst (λ z. Matches (f.sort units) z u) (r.follow units) m)
    (subst (λ z. Matches (f.sort units) z (u ++ x)) (r.follow units) n)

-- The words of units that end the text.
front-words : {S K : Type 0} (f : Format Token S K) (text : Text Token) (units : List (List Token)) → IsEnding f text units →
    (n : ℕ) → n ≤ length (joined units) → take n text.words ≡ take n (ended_text (joined units)).words
front-words f text units e n le =
    ap (λ (z : List Token). take n z) e.is ∙ take-same (joined units) e.rest (end_after (joined units) ∷ []) n le

drop-front : (xs ys : List Token) → drop (length xs) (xs ++ ys) ≡ ys
drop-front [] ys = refl
drop-front (x ∷ xs) ys = drop-front xs ys

take-past : (xs all ys : List Token) (n : ℕ) → all ≡ xs ++ ys → length xs ≤ n → take n all ≡ xs ++ take (n - length xs) ys
take-past xs all ys n e le =
    let count : n ≡ length xs + (n - length xs) = omega arith in
    ap (λ (z : List Token). take n z) e ∙ ap (λ z. take z (xs ++ ys)) count ∙ take-add (length xs) (n - length xs) (xs ++ ys)
    ∙ ap (λ (z : List Token). z ++ take (n - length xs) (drop (length xs) (xs ++ ys))) (take-front xs ys)
    ∙ ap (λ (z : List Token). xs ++ take (n - length xs) z) (drop-front xs ys)

some-taken : (n : ℕ) (xs : List Token) → 0 < n → 0 < length xs → 0 < length (take n xs)
some-taken zero xs h k = absurd (omega arith)
some-taken (suc n) [] h k = absurd (omega arith)
some-taken (suc n) (x ∷ xs) h k = omega arith

-- What makes the whole text refused before its end makes it refused as far as it is read.
cause-ended : {S K : Type 0} (f : Format Token S K) → Shut f → (text : Text Token) (units : List (List Token)) → IsEnding f text units →
    (n : ℕ) → n < length (joined units) → (c : Cause K) → CauseAt f text n c → CauseAt f (ended_text (joined units)) n c
cause-ended f shut text units e n lt Syntax c = (
  omega (arith, length-append (joined units) (end_after (joined units) ∷ [])),
  λ m h. subst (λ z. IsStart f z) (front-words f text units e (m + 1) (omega arith)) (c.1 m h),
  λ s. c.2 (subst (λ z. IsStart f z) (sym (front-words f text units e (n + 1) (omega arith))) s),
)
cause-ended f shut text units e n lt (Lex kind) c =
    let at : n ≡ length text.words = c.0 in
    let all : length text.words ≡ length (joined units ++ e.rest) = ap length e.is in
    absurd (omega (arith, length-append (joined units) e.rest))
cause-ended {K = K} f shut text units e n lt (Fault k) c = elim (cases_lt c.0 (length (joined units))) [
  | inl short ↦ (
    c.0,
    omega (arith, length-append (joined units) (end_after (joined units) ∷ [])),
    subst (λ z. HasFault f z n k) (front-words f text units e (c.0 + 1) (omega arith)) c.2,
  )
  | inr long ↦
      let m : ℕ = c.0 in
      let within : m < length text.words = c.1 in
      let all : length text.words ≡ length (joined units ++ e.rest) = ap length e.is in
      let more : List Token = take (m + 1 - length (joined units)) e.rest in
      let words : take (m + 1) text.words ≡ joined units ++ more =
      take-past (joined units) text.words e.rest (m + 1) e.is (omega arith) in
      let s = (along f (take (m + 1) text.words) (joined units ++ more) words c.2.0) in
      let st = s.0 in
      let some : 0 < length more = some-taken (m + 1 - length (joined units)) e.rest (omega arith) (omega (arith, length-append (joined units) e.rest)) in
      let le : length (joined units) ≤ length (joined st.units) = start-past f shut [] units more e.whole some st.units st.part st.begins.0 st.whole st.begins.1 st.is in
      let same : length (joined st.units) ≡ length (joined c.2.0.units) = ap (λ (z : List (List Token)). length (joined z)) s.1 in
      let at : n ≡ length (joined c.2.0.units) + c.2.1 = c.2.3 in
      absurd (omega arith)
]

-- ## one result

same-words : {S K : Type 0} (f : Format Token S K) (text : Text Token) (us vs : List (List Token)) → IsEnding f text us → IsEnding f text vs →
    EndsFirst f text us → EndsFirst f text vs → joined us ≡ joined vs
same-words f text us vs a b first_a first_b =
    let le : length (joined us) ≤ length (joined vs) = first_a vs b in
    let ge : length (joined vs) ≤ length (joined us) = first_b us a in
    let count : length (joined us) ≡ length (joined vs) = omega arith in
    sym (take-front (joined us) a.rest) ∙ ap (λ (z : List Token). take (length (joined us)) z) (sym a.is) ∙ ap (λ z. take z text.words) count
    ∙ ap (λ (z : List Token). take (length (joined vs)) z) b.is ∙ take-front (joined vs) b.rest

-- Two refusals of what is read: they stand at one word of one text.
abbrev Alike : {K : Type 0} → Text Token → Text Token → ℕ → ℕ → Cause K → Cause K → Type 0
Alike {K} one two n m c d = (one ≡ two) × (n ≡ m) × (c ≡ d)

refusals-alike : {S K : Type 0} (f : Format Token S K) → Shut f → (text one two : Text Token) (n m : ℕ) (c d : Cause K) →
    Hears f text n one → Hears f text m two → IsRefused f one n c → IsRefused f two m d → Alike one two n m c d
refusals-alike f shut text one two n m c d (inl a) (inl b) h k =
    let r = refused-one f text n m c d (subst (λ z. IsRefused f z n c) a.1 h) (subst (λ z. IsRefused f z m d) b.1 k) in (a.1 ∙ sym b.1, r.0, r.1)
refusals-alike f shut text one two n m c d (inr a) (inr b) h k =
    let words = same-words f text a.0 b.0 a.1 b.1 a.2 b.2 in
    let same : one ≡ two = a.4 ∙ ap ended_text words ∙ sym b.4 in
    let r = refused-one f two n m c d (subst (λ z. IsRefused f z n c) same h) k in (same, r.0, r.1)
refusals-alike f shut text one two n m c d (inl a) (inr b) h k =
    let lt : n < length (joined b.0) = a.0 b.0 b.1 in
    let is : CauseAt f two n c = subst (λ z. CauseAt f z n c) (sym b.4) (cause-ended f shut text b.0 b.1 n lt c (subst (λ z. CauseAt f z n c) a.1 h.is)) in
    let least : m ≤ n = k.least n c is in
    let past : length (joined b.0) ≤ m = b.3 in
    absurd (omega arith)
refusals-alike f shut text one two n m c d (inr a) (inl b) h k =
    let lt : m < length (joined a.0) = b.0 a.0 a.1 in
    let is : CauseAt f one m d = subst (λ z. CauseAt f z m d) (sym a.4) (cause-ended f shut text a.0 a.1 m lt d (subst (λ z. CauseAt f z m d) b.1 k.is)) in
    let least : n ≤ m = h.least m d is in
    let past : length (joined a.0) ≤ n = a.3 in
    absurd (omega arith)

some-same : {A : Type 0} (x y : A) → Some x ≡ Some y → x ≡ y
some-same x y h = cc

pub refused-at-one : {S K : Type 0} (f : Format Token S K) → Shut f → (text : Text Token) (p q : Place) (c d : Cause K) →
    IsRefusedAt f text p c → IsRefusedAt f text q d → (p ≡ q) × (c ≡ d)
refused-at-one f shut text p q c d h k =
    let e = refusals-alike f shut text h.1 k.1 h.0 k.0 c d h.2 k.2 h.3 k.3 in
    let place : Some p ≡ Some q = sym h.4 ∙ ap (λ (z : Text Token). place_in z.words z.refused h.0) e.0 ∙ ap (λ z. place_in k.1.words k.1.refused z) e.1 ∙ k.4 in
    (some-same p q place, e.2)

-- A text that is read whole has no units that end it before.
past-all : {S K : Type 0} (f : Format Token S K) (text one : Text Token) (units : List (List Token)) → (GoesPast f text (length one.words) × (one ≡ text)) → IsEnding f text units → ⊥
past-all f text one units a e =
    let lt : length one.words < length (joined units) = a.0 units e in
    let same : length one.words ≡ length text.words = ap (λ (z : Text Token). length z.words) a.1 in
    let all : length text.words ≡ length (joined units ++ e.rest) = ap length e.is in
    omega (arith, length-append (joined units) e.rest)

reads-alike : {S K : Type 0} (f : Format Token S K) (text one two : Text Token) → Hears f text (length one.words) one → Hears f text (length two.words) two → one ≡ two
reads-alike f text one two (inl a) (inl b) = a.1 ∙ sym b.1
reads-alike f text one two (inr a) (inr b) = a.4 ∙ ap ended_text (same-words f text a.0 b.0 a.1 b.1 a.2 b.2) ∙ sym b.4
reads-alike f text one two (inl a) (inr b) = absurd (past-all f text one b.0 a b.1)
reads-alike f text one two (inr a) (inl b) = absurd (past-all f text two a.0 b a.1)

pub read-as-one : {S K : Type 0} (f : Format Token S K) (text : Text Token) (us vs : List (List Token)) → IsReadAs f text us → IsReadAs f text vs → us ≡ vs
read-as-one f text us vs h k = read-one f k.0 us vs (subst (λ z. IsRead f z us) (reads-alike f text h.0 k.0 h.1 k.1) h.2) k.2

not-both-heard : {S K : Type 0} (f : Format Token S K) → Shut f → (text one two : Text Token) (us : List (List Token)) (n : ℕ) (c : Cause K) →
    Hears f text (length one.words) one → Hears f text n two → IsRead f one us → IsRefused f two n c → ⊥
not-both-heard f shut text one two us n c (inl a) (inl b) h k = not-both f two us n c (subst (λ z. IsRead f z us) (a.1 ∙ sym b.1) h) k
not-both-heard f shut text one two us n c (inr a) (inr b) h k =
    not-both f two us n c (subst (λ z. IsRead f z us) (a.4 ∙ ap ended_text (same-words f text a.0 b.0 a.1 b.1 a.2 b.2) ∙ sym b.4) h) k
not-both-heard f shut text one two us n c (inl a) (inr b) h k = past-all f text one b.0 a b.1
not-both-heard f shut text one two us n c (inr a) (inl b) h k =
    h.clean n c (subst (λ z. CauseAt f z n c) (sym a.4) (cause-ended f shut text a.0 a.1 n (b.0 a.0 a.1) c (subst (λ z. CauseAt f z n c) b.1 k.is)))

pub not-both-at : {S K : Type 0} (f : Format Token S K) → Shut f → (text : Text Token) (us : List (List Token)) (p : Place) (c : Cause K) → IsReadAs f text us → IsRefusedAt f text p c → ⊥
not-both-at f shut text us p c h k = not-both-heard f shut text h.0 k.1 us k.0 c h.1 k.2 h.2 k.3
