-- How many words whole units have.
use Rattle.std.proofs.Common.{◌≡◌, ◌≢◌, ◌⊎◌, ℕ, ℤ, ◌+◌, ◌<◌, ◌==◌, Bool, true, false, List, [], ◌∷◌, ◌++◌, length, map, refl, sym, ◌∙◌, ap, subst, arith, inl, inr, length-append}
use Rattle.std.proofs.lemmas.List.{length-map}
use Rattle.reading.specs.declared.word.Heard.{Heard}
use Rattle.reading.specs.Grammar.{AreHeard, IsTaken}
use Rattle.reading.specs.Pattern.{Pattern, Matches}
use Rattle.reading.specs.Word.{Token, heard_token}
use Rattle.wiring_file.specs.declared.held.Held.{Held}
use Rattle.wiring_file.specs.declared.section.Section.{Section}
use Rattle.wiring_file.specs.declared.sort.Sort.{Sort}
use Rattle.wiring_file.specs.declared.sort.Sort.TheVariants.{Minus, End, Open, Close}
use Rattle.wiring_file.specs.declared.section.Section.TheVariants as sections
use Rattle.wiring_file.specs.Sort.{the, sort_of}
use Rattle.wiring_file.specs.Rule.{in_turn, before, counted, via, end_of, is_number, line_front, line_back, pattern}
use Rattle.wiring_file.specs.Unit.{sort_at, is_entry, is_place}
use Rattle.wiring_file.specs.Format.{format}
use Rattle.wiring_file.specs.Standing.{standing}
use Rattle.wiring_file.specs.inside.Held.{Holds}
use Rattle.wiring_file.specs.inside.Value.{says}

in_turn_length : (classes : List (Sort → Bool)) (ts : List Token) → Matches sort_of (in_turn classes) ts → length ts ≡ length classes
in_turn_length [] ts h = ap length h
in_turn_length (c ∷ []) ts h = ap length h.2
in_turn_length (c ∷ d ∷ classes) ts h =
    let rest = in_turn_length (d ∷ classes) h.1 h.3 in
    let one = ap length h.2.2 in
    let all = ap length h.4 in
    omega (arith, length-append h.0 h.1)

before_length : (classes : List (Sort → Bool)) (p : Pattern Sort) (ts : List Token) → Matches sort_of (before classes p) ts →
    (more : List Token) × Matches sort_of p more × (length ts ≡ length classes + length more)
before_length [] p ts h = (ts, h, omega arith)
before_length (c ∷ classes) p ts h =
    let rest = before_length classes p h.1 h.3 in
    let one = ap length h.2.2 in
    let all = ap length h.4 in
    let many = rest.2 in
    (rest.0, rest.1, omega (arith, length-append h.0 h.1))

first_of : (t : Token) (x y ts : List Token) → ts ≡ x ++ y → x ≡ t ∷ [] → sort_at 0 ts ≡ sort_of t
first_of t x y ts all one = ap (λ z. sort_at 0 z) (all ∙ ap (λ z. z ++ y) one)

not_minus : (sort : Sort) → the End sort ≡ true → the Minus sort ≡ true → ⊥
not_minus End h k = cc
not_minus sort h k = cc

-- An entry of the vias is one.
pub via_long : (ts : List Token) → Matches sort_of (pattern sections.Vias) ts → is_entry ts ≡ true → length ts ≡ 29
via_long ts (inl h) entry = in_turn_length via ts h
via_long ts (inr h) entry =
    let first = first_of h.2.0 h.0 h.1 ts h.4 h.2.2 in
    absurd (not_minus (sort_at 0 ts) (ap (the End) first ∙ h.2.1) entry)

-- A line of wiring has 10 words or 13.
line_by : (ts more : List Token) → length ts ≡ 9 + length more → Matches sort_of line_back more → is_place ts ≡ false → length ts ≡ 13
line_by ts more many (inl h) other = let rest : length more ≡ 4 = in_turn_length (the Open ∷ is_number ∷ is_number ∷ the Close ∷ []) more h in omega arith
line_by ts more many (inr h) other =
    let one = ap length h.2 in
    let ten : length ts ≡ 10 = omega arith in
    absurd (let t : true ≡ false = sym (ap (λ n. n == 10) ten) ∙ other in cc)

pub wire_long : (ts : List Token) → Matches sort_of (pattern sections.Line) ts → is_place ts ≡ false → length ts ≡ 13
wire_long ts h other = let rest = before_length line_front line_back ts h in line_by ts rest.0 rest.2 rest.1 other

-- ## a whole unit of this section

module _ (units : List (List Token)) (unit : List (Heard ℤ)) (old : Held) (held : Holds units old) (X : Section) (e : old.section ≡ X) where
  here : (standing units).section ≡ X
  here = sym held.section ∙ e

  -- What its words say.
  pub heard_here : AreHeard (says (standing units).section) [] unit → AreHeard (says X) [] unit
  heard_here h = subst (λ z. AreHeard (says z) [] unit) here h

  pub matches_here : IsTaken format units (map heard_token unit) → Matches sort_of (pattern X) (map heard_token unit)
  matches_here taken = subst (λ z. Matches sort_of (pattern z) (map heard_token unit)) here taken.matches

  -- How many they are.
  pub many_here : (n : ℕ) → length (map heard_token unit) ≡ n → length unit ≡ n
  many_here n h = sym (length-map unit heard_token) ∙ h

-- The head of a list has three words.
pub head_long : (word : Sort) (ts : List Token) → Matches sort_of (in_turn (counted word)) ts → length ts ≡ 3
head_long word ts h = in_turn_length (counted word) ts h
