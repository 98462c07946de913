-- The first words of a text that nothing refuses yet, and what one more word makes of them.
use Rattle.std.proofs.Common.{◌≡◌, ℕ, ◌+◌, ◌-◌, ◌<◌, ◌≤◌, List, [], ◌∷◌, ◌++◌, length, take, drop, Some, None, refl, sym, ◌∙◌, ap, subst, append_assoc, arith, length-append, below_more, inl, inr}
use Rattle.std.proofs.lemmas.List.{append-nil, length-take}
use Rattle.std.proofs.lemmas.Bool.{cases_lt}
use Rattle.std.proofs.Math.Seq.{take-add, take-length}
use Rattle.reading.specs.Pattern.{Matches, Begins, joined}
use Rattle.reading.specs.declared.refusal.Cause.{Cause}
use Rattle.reading.specs.declared.refusal.Cause.TheVariants.{Syntax, Lex, Fault}
use Rattle.text_lex.specs.declared.word.LexError.{LexError}
use Rattle.reading.specs.declared.refusal.Found.{Found}
use Rattle.reading.specs.Reading.{Format, Text, IsFine, IsOrderly, Start, IsStart, HasFault, CauseAt, IsRefused, IsRead}
use Rattle.reading.proofs.Run.{joined-append, joined_more, Run, run-start, alone, make, run-open, run-close, Ends, later, Later}

pub record Sofar {W S K : Type 0} (f : Format W S K) (text : List W) (i : ℕ) (units : List (List W)) (part : List W) : Type 0 where
  pub run : Run f units part
  pub is : take i text ≡ joined units ++ part
  pub starts : (m : ℕ) → m < i → IsStart f (take (m + 1) text)
  pub clean : (m : ℕ) → m < i → (n : ℕ) (k : K) → HasFault f (take (m + 1) text) n k → ⊥

pub sofar-start : {W S K : Type 0} (f : Format W S K) (text : List W) → Sofar f text 0 [] []
sofar-start f text = record {
  run = run-start f;
  is = refl;
  starts = λ m h. absurd (omega arith);
  clean = λ m h n k s. absurd (omega arith);
}

-- The next word.
pub record Next {W : Type 0} (text : List W) (i : ℕ) (w : W) : Type 0 where
  pub within : i < length text
  pub is : take (i + 1) text ≡ take i text ++ w ∷ []

-- The same start of equal words.
pub along : {W S K : Type 0} (f : Format W S K) (words other : List W) → words ≡ other → (s : Start f [] words) →
    (t : Start f [] other) × (t.units ≡ s.units) × (t.part ≡ s.part)
along f words other e s =
    (record { units = s.units; part = s.part; whole = s.whole; begins = s.begins; some = s.some; is = sym e ∙ s.is }, refl, refl)

pub here : {W S K : Type 0} (f : Format W S K) (text : List W) (i : ℕ) (units : List (List W)) (part : List W) (w : W) →
    Sofar f text i units part → Next text i w → take (i + 1) text ≡ joined units ++ (part ++ w ∷ [])
here {W} f text i units part w s n = n.is ∙ ap (λ (z : List W). z ++ w ∷ []) s.is ∙ append_assoc (joined units) part (w ∷ [])

-- Any start of these words has these units and this part.
at_start : {W S K : Type 0} (f : Format W S K) (text : List W) (i : ℕ) (units : List (List W)) (part : List W) (w : W) →
    Sofar f text i units part → Next text i w → (s : IsStart f (take (i + 1) text)) → (s.units ≡ units) × (s.part ≡ part ++ w ∷ [])
at_start f text i units part w o n s =
    let t = along f (take (i + 1) text) (joined units ++ (part ++ w ∷ [])) (here f text i units part w o n) s in
    let a = alone f units part w o.run t.0 in
    (sym t.1 ∙ a.0, sym t.2 ∙ a.1)

is-start : {W S K : Type 0} (f : Format W S K) (text : List W) (i : ℕ) (units : List (List W)) (part : List W) (w : W) →
    Sofar f text i units part → Next text i w → Begins (f.sort units) (f.follow units) (part ++ w ∷ []) →
    (s : IsStart f (take (i + 1) text)) × (s.units ≡ units) × (s.part ≡ part ++ w ∷ [])
is-start f text i units part w o n b =
    along f (joined units ++ (part ++ w ∷ [])) (take (i + 1) text) (sym (here f text i units part w o n)) (make f units part w o.run b)

no-fault : {W S K : Type 0} (f : Format W S K) (text : List W) (i : ℕ) (units : List (List W)) (part : List W) (w : W) →
    Sofar f text i units part → Next text i w → IsFine f units (part ++ w ∷ []) → (n : ℕ) (k : K) → HasFault f (take (i + 1) text) n k → ⊥
no-fault f text i units part w o n fine m k h =
    let a = at_start f text i units part w o n h.0 in
    let p : h.0.units ≡ units = a.0 in
    let q : h.0.part ≡ part ++ w ∷ [] = a.1 in
    fine (record { at = h.1; kind = k }) (subst (λ z. f.fault units z (record { at = h.1; kind = k })) q (subst (λ z. f.fault z h.0.part (record { at = h.1; kind = k })) p h.2))

more-words : {W S K : Type 0} (f : Format W S K) (text : List W) (i : ℕ) (units : List (List W)) (part : List W) (w : W) →
    Sofar f text i units part → Next text i w → Begins (f.sort units) (f.follow units) (part ++ w ∷ []) → IsFine f units (part ++ w ∷ []) →
    (others : List (List W)) (rest : List W) → Run f others rest → joined others ++ rest ≡ joined units ++ (part ++ w ∷ []) →
    Sofar f text (i + 1) others rest
more-words f text i units part w o n b fine others rest r e = record {
  run = r;
  is = here f text i units part w o n ∙ sym e;
  starts = below_more _ _ o.starts (is-start f text i units part w o n b).0;
  clean = below_more _ _ o.clean (no-fault f text i units part w o n fine);
}

-- The unit goes on.
pub sofar-open : {W S K : Type 0} (f : Format W S K) (text : List W) (i : ℕ) (units : List (List W)) (part : List W) (w : W) →
    Sofar f text i units part → Next text i w → Begins (f.sort units) (f.follow units) (part ++ w ∷ []) → IsFine f units (part ++ w ∷ []) →
    (Matches (f.sort units) (f.follow units) (part ++ w ∷ []) → ⊥) → Sofar f text (i + 1) units (part ++ w ∷ [])
sofar-open f text i units part w o n b fine partly =
    more-words f text i units part w o n b fine units (part ++ w ∷ []) (run-open f units part w o.run partly) refl

-- The unit is whole.
pub sofar-close : {W S K : Type 0} (f : Format W S K) (text : List W) (i : ℕ) (units : List (List W)) (part : List W) (w : W) →
    Sofar f text i units part → Next text i w → IsFine f units (part ++ w ∷ []) →
    Matches (f.sort units) (f.follow units) (part ++ w ∷ []) → Ends (f.sort units) (f.follow units) (part ++ w ∷ []) → Sofar f text (i + 1) (units ++ (part ++ w ∷ []) ∷ []) []
sofar-close {W} f text i units part w o n fine m ends =
    let u : List W = part ++ w ∷ [] in
    more-words f text i units part w o n ([], subst (λ z. Matches (f.sort units) (f.follow units) z) (sym (append-nil u)) m) fine
    (units ++ u ∷ []) [] (run-close f units part w o.run m ends)
    (append-nil (joined (units ++ u ∷ [])) ∙ joined_more units u)

-- The words up to a later one.
longer : {W S K : Type 0} (f : Format W S K) (text : List W) (i j : ℕ) (units : List (List W)) (part : List W) (w : W) →
    Sofar f text i units part → Next text i w → i ≤ j →
    take (j + 1) text ≡ joined units ++ (part ++ w ∷ take (j - i) (drop (i + 1) text))
longer {W} f text i j units part w o n le =
    let more : List W = take (j - i) (drop (i + 1) text) in
    let step : j + 1 ≡ (i + 1) + (j - i) = omega arith in
    ap (λ k. take k text) step ∙ take-add (i + 1) (j - i) text ∙ ap (λ (z : List W). z ++ more) (here f text i units part w o n)
    ∙ append_assoc (joined units) (part ++ w ∷ []) more ∙ ap (λ z. joined units ++ z) (append_assoc part (w ∷ []) more)

-- What a start of more words has, beside these units and this part.
abbrev Beyond : {W S K : Type 0} → Format W S K → List (List W) → List W → W → List W → List (List W) → List W → Type 0
Beyond {W} f units part w more all last =
    (us : List (List W)) × (p : List W) × (all ≡ units ++ us) × (last ≡ p) × Later f units part w more us p

beyond : {W S K : Type 0} (f : Format W S K) (text : List W) (i j : ℕ) (units : List (List W)) (part : List W) (w : W) →
    Sofar f text i units part → Next text i w → i ≤ j → (s : IsStart f (take (j + 1) text)) →
    Beyond f units part w (take (j - i) (drop (i + 1) text)) s.units s.part
beyond f text i j units part w o n le s =
    let t = along f (take (j + 1) text) _ (longer f text i j units part w o n le) s in
    let k = later f units part w _ o.run t.0 in
    (k.0, k.1, sym t.1 ∙ k.2, sym t.2 ∙ k.3, k.4)

-- ## Syntax

-- No start of the text goes past the word.
stuck : {W S K : Type 0} (f : Format W S K) (text : List W) (i : ℕ) (units : List (List W)) (part : List W) (w : W) →
    Sofar f text i units part → Next text i w → (Begins (f.sort units) (f.follow units) (part ++ w ∷ []) → ⊥) →
    (j : ℕ) → i ≤ j → IsStart f (take (j + 1) text) → ⊥
stuck f text i units part w o n dead j le s = dead (beyond f text i j units part w o n le s).4.begins

no-kind : {W S K : Type 0} (f : Format W S K) (text : Text W) (i : ℕ) (units : List (List W)) (part : List W) (w : W) →
    Sofar f text.words i units part → Next text.words i w → (Begins (f.sort units) (f.follow units) (part ++ w ∷ []) → ⊥) →
    (m : ℕ) (k : K) → CauseAt f text m (Fault k) → ⊥
no-kind f text i units part w o n dead m k c =
    elim (cases_lt c.0 i) [
      | inl lt ↦ o.clean c.0 lt m k c.2
      | inr le ↦ stuck f text.words i units part w o n dead c.0 le c.2.0
    ]

syntax-least : {W S K : Type 0} (f : Format W S K) (text : Text W) (i : ℕ) (units : List (List W)) (part : List W) (w : W) →
    Sofar f text.words i units part → Next text.words i w → (Begins (f.sort units) (f.follow units) (part ++ w ∷ []) → ⊥) →
    (m : ℕ) (other : Cause K) → CauseAt f text m other → i ≤ m
syntax-least f text i units part w o n dead m Syntax c =
    elim (cases_lt m i) [ inl lt ↦ absurd (c.2 (o.starts m lt)) | inr le ↦ le ]
syntax-least f text i units part w o n dead m (Lex kind) c = let within : i < length text.words = n.within in let at : m ≡ length text.words = c.0 in omega arith
syntax-least f text i units part w o n dead m (Fault k) c = absurd (no-kind f text i units part w o n dead m k c)

syntax-one : {W S K : Type 0} (f : Format W S K) (text : Text W) (i : ℕ) (units : List (List W)) (part : List W) (w : W) →
    Sofar f text.words i units part → Next text.words i w → (Begins (f.sort units) (f.follow units) (part ++ w ∷ []) → ⊥) →
    (other : Cause K) → CauseAt f text i other → other ≡ Syntax
syntax-one f text i units part w o n dead Syntax c = refl
syntax-one f text i units part w o n dead (Lex kind) c = let within : i < length text.words = n.within in let at : i ≡ length text.words = c.0 in absurd (omega arith)
syntax-one f text i units part w o n dead (Fault k) c = absurd (no-kind f text i units part w o n dead i k c)

pub refuse-syntax : {W S K : Type 0} (f : Format W S K) (text : Text W) (i : ℕ) (units : List (List W)) (part : List W) (w : W) →
    Sofar f text.words i units part → Next text.words i w → (Begins (f.sort units) (f.follow units) (part ++ w ∷ []) → ⊥) → IsRefused f text i Syntax
refuse-syntax f text i units part w o n dead = record {
  is = (n.within, o.starts, stuck f text.words i units part w o n dead i (omega arith));
  least = syntax-least f text i units part w o n dead;
  one = syntax-one f text i units part w o n dead;
}

-- ## a fault

-- The fault that these words show, and where it stands.
pub record Shows {W S K : Type 0} (f : Format W S K) (units : List (List W)) (part : List W) (w : W) (a : Found K) : Type 0 where
  pub begins : Begins (f.sort units) (f.follow units) (part ++ w ∷ [])
  pub is : f.fault units (part ++ w ∷ []) a

-- A fault that more words show is not earlier, and at the same word it is the same.
later-fault : {W S K : Type 0} (f : Format W S K) (text : List W) (i : ℕ) (units : List (List W)) (part : List W) (w : W) (a : Found K) →
    IsOrderly f → Sofar f text i units part → Next text i w → Shows f units part w a → (j : ℕ) → i ≤ j → (m : ℕ) (k : K) → HasFault f (take (j + 1) text) m k →
    (length (joined units) + a.at ≤ m) × (m ≡ length (joined units) + a.at → k ≡ a.kind)
later-fault {W} {K = K} f text i units part w a orderly o n sh j le m k h =
    let s = h.0 in
    let b = beyond f text i j units part w o n le s in
    let all : s.units ≡ units ++ b.0 = b.2 in
    let near : a.at < length (part ++ w ∷ []) = orderly.near units (part ++ w ∷ []) a sh.begins sh.is in
    let size : length (joined s.units) ≡ length (joined units ++ joined b.0) = ap (λ (z : List (List W)). length (joined z)) all ∙ ap length (joined-append units b.0) in
    let place : m ≡ length (joined s.units) + h.1 = h.3 in
    elim b.4.where_ [
      | inl q ↦
          let more : List W = take (j - i) (drop (i + 1) text) in
          let same : s.units ≡ units = all ∙ ap (λ z. units ++ z) q.0 ∙ append-nil units in
          let last : s.part ≡ (part ++ w ∷ []) ++ more = b.3 ∙ q.1 ∙ sym (append_assoc part (w ∷ []) more) in
          let e : f.fault units ((part ++ w ∷ []) ++ more) (record { at = h.1; kind = k }) =
          subst (λ z. f.fault units z (record { at = h.1; kind = k })) last (subst (λ z. f.fault z s.part (record { at = h.1; kind = k })) same h.2) in
          let begins : Begins (f.sort units) (f.follow units) ((part ++ w ∷ []) ++ more) =
          subst (λ z. Begins (f.sort units) (f.follow units) z) last (subst (λ z. Begins (f.sort z) (f.follow z) s.part) same s.begins) in
          let order = orderly.order units (part ++ w ∷ []) more a (record { at = h.1; kind = k }) begins sh.is e in
          let le : a.at ≤ h.1 = order.0 in
          let len : length (joined s.units) ≡ length (joined units) = ap (λ (z : List (List W)). length (joined z)) same in
          (omega arith, λ p. order.1 (omega arith))
      | inr past ↦
          let long : length part < length (joined b.0) = past in
          let lt : length (joined units) + a.at < m = omega (arith, length-append (joined units) (joined b.0), length-append part (w ∷ [])) in
          (omega arith, λ p. absurd (omega arith))
    ]

fault-least : {W S K : Type 0} (f : Format W S K) (text : Text W) (i : ℕ) (units : List (List W)) (part : List W) (w : W) (a : Found K) →
    IsOrderly f → Sofar f text.words i units part → Next text.words i w → Shows f units part w a →
    (m : ℕ) (other : Cause K) → CauseAt f text m other → (length (joined units) + a.at ≤ m) × (m ≡ length (joined units) + a.at → other ≡ Fault a.kind)
fault-least {W} f text i units part w a orderly o n sh m Syntax c =
    let near : a.at < length (part ++ w ∷ []) = orderly.near units (part ++ w ∷ []) a sh.begins sh.is in
    let size : length (take i text.words) ≡ length (joined units ++ part) = ap length o.is in
    let within : i < length text.words = n.within in
    let lt : length (joined units) + a.at ≤ i = omega (arith, length-append (joined units) part, length-append part (w ∷ []), length-take i text.words) in
    elim (cases_lt m (i + 1)) [
      | inl lt ↦ absurd (c.2 (below_more _ _ o.starts (is-start f text.words i units part w o n sh.begins).0 m lt))
      | inr le ↦ (omega arith, λ p. absurd (omega arith))
    ]
fault-least {W} f text i units part w a orderly o n sh m (Lex kind) c =
    let near : a.at < length (part ++ w ∷ []) = orderly.near units (part ++ w ∷ []) a sh.begins sh.is in
    let size : length (take i text.words) ≡ length (joined units ++ part) = ap length o.is in
    let within : i < length text.words = n.within in
    let at : m ≡ length text.words = c.0 in
    let lt : length (joined units) + a.at ≤ i = omega (arith, length-append (joined units) part, length-append part (w ∷ []), length-take i text.words) in
    (omega arith, λ p. absurd (omega arith))
fault-least {W} {K = K} f text i units part w a orderly o n sh m (Fault k) c =
    elim (cases_lt c.0 i) [
      | inl lt ↦ absurd (o.clean c.0 lt m k c.2)
      | inr le ↦
          let t = later-fault f text.words i units part w a orderly o n sh c.0 le m k c.2 in
          (t.0, λ p. ap (λ (z : K). Fault z) (t.1 p))
    ]

pub refuse-fault : {W S K : Type 0} (f : Format W S K) (text : Text W) (i : ℕ) (units : List (List W)) (part : List W) (w : W) (a : Found K) →
    IsOrderly f → Sofar f text.words i units part → Next text.words i w → Shows f units part w a → IsRefused f text (length (joined units) + a.at) (Fault a.kind)
refuse-fault f text i units part w a orderly o n sh =
    let s = is-start f text.words i units part w o n sh.begins in
    let u : s.0.units ≡ units = s.1 in
    let p : s.0.part ≡ part ++ w ∷ [] = s.2 in
    let is : f.fault s.0.units s.0.part a = subst (λ z. f.fault z s.0.part a) (sym u) (subst (λ z. f.fault units z a) (sym p) sh.is) in
    record {
      is = (i, n.within, (s.0, a.at, is, ap (λ z. length (joined z) + a.at) (sym u)));
      least = λ m other c. (fault-least f text i units part w a orderly o n sh m other c).0;
      one = λ other c. (fault-least f text i units part w a orderly o n sh _ other c).1 refl;
    }

-- ## the whole text

no-cause : {W S K : Type 0} (f : Format W S K) (text : Text W) (units : List (List W)) (part : List W) →
    Sofar f text.words (length text.words) units part → text.refused ≡ None → (n : ℕ) (cause : Cause K) → CauseAt f text n cause → ⊥
no-cause f text units part o none n Syntax c = c.2 (o.starts n c.0)
no-cause f text units part o none n (Lex kind) c = let e : Some c.1 ≡ None = sym c.2 ∙ none in cc
no-cause f text units part o none n (Fault k) c = o.clean c.0 c.1 n k c.2

pub read-whole : {W S K : Type 0} (f : Format W S K) (text : Text W) (units : List (List W)) →
    Sofar f text.words (length text.words) units [] → text.refused ≡ None → IsRead f text units
read-whole f text units o none =
    let e : text.words ≡ joined units = sym (take-length text.words) ∙ o.is ∙ append-nil (joined units) in
    record {
      whole = o.run.whole;
      is = e;
      only = λ others h p. o.run.last others h (sym p ∙ e);
      clean = no-cause f text units [] o none;
    }

-- ## a word that is refused for itself

lex-least : {W S K : Type 0} (f : Format W S K) (text : Text W) (units : List (List W)) (part : List W) →
    Sofar f text.words (length text.words) units part → (m : ℕ) (other : Cause K) → CauseAt f text m other → length text.words ≤ m
lex-least f text units part o m Syntax c = absurd (c.2 (o.starts m c.0))
lex-least f text units part o m (Lex kind) c = let at : m ≡ length text.words = c.0 in omega arith
lex-least f text units part o m (Fault k) c = absurd (o.clean c.0 c.1 m k c.2)

lex-one : {W S K : Type 0} (f : Format W S K) (text : Text W) (units : List (List W)) (part : List W) (error : LexError) →
    Sofar f text.words (length text.words) units part → text.refused ≡ Some error → (other : Cause K) → CauseAt f text (length text.words) other → other ≡ Lex error.kind
lex-one f text units part error o e Syntax c = absurd (c.2 (o.starts _ c.0))
lex-one f text units part error o e (Lex kind) c =
    let t : Some c.1 ≡ Some error = sym c.2 ∙ e in
    let same : c.1 ≡ error = cc in
    ap (λ z. Lex z) (c.3 ∙ ap (λ (z : LexError). z.kind) same)
lex-one f text units part error o e (Fault k) c = absurd (o.clean c.0 c.1 _ k c.2)

pub refuse-lex : {W S K : Type 0} (f : Format W S K) (text : Text W) (units : List (List W)) (part : List W) (error : LexError) →
    Sofar f text.words (length text.words) units part → text.refused ≡ Some error → IsRefused f text (length text.words) (Lex error.kind)
refuse-lex f text units part error o e = record {
  is = (refl, error, e, refl);
  least = lex-least f text units part o;
  one = lex-one f text units part error o e;
}

-- ## a text has at most one result

pub refused-one : {W S K : Type 0} (f : Format W S K) (text : Text W) (n m : ℕ) (c d : Cause K) →
    IsRefused f text n c → IsRefused f text m d → (n ≡ m) × (c ≡ d)
refused-one f text n m c d a b =
    let p : n ≤ m = a.least m d b.is in
    let q : m ≤ n = b.least n c a.is in
    let e : n ≡ m = omega arith in
    (e, b.one c (subst (λ z. CauseAt f text z c) e a.is))

pub read-one : {W S K : Type 0} (f : Format W S K) (text : Text W) (us vs : List (List W)) → IsRead f text us → IsRead f text vs → us ≡ vs
read-one f text us vs a b = b.only us a.whole a.is

pub not-both : {W S K : Type 0} (f : Format W S K) (text : Text W) (us : List (List W)) (n : ℕ) (c : Cause K) → IsRead f text us → IsRefused f text n c → ⊥
not-both f text us n c a b = a.clean n c b.is
