-- Whole units without a fault are the one way to take a text apart.
use Rattle.std.proofs.Common.{◌≡◌, suc, ◌+◌, ◌<◌, ◌≤◌, ◌⊎◌, Bool, true, false, List, [], ◌∷◌, ◌++◌, length, take, None, refl, sym, ◌∙◌, ap, subst, append_assoc, inl, inr, arith, length-append}
use Rattle.std.proofs.lemmas.List.{append-nil}
use Rattle.reading.specs.Pattern.{Matches, joined}
use Rattle.reading.specs.Reading.{Format, Text, Follows, IsRead, IsEnding, EndsFirst}
use Rattle.reading.specs.Word.{Token, end_after, ended_text}
use Rattle.reading.specs.Grammar.{NoneShows}
use Rattle.reading.specs.Taken.{AreTaken}
use Rattle.reading.specs.Outcome.{IsReadAs}
use Rattle.reading.proofs.Ends.{Shut, take-front, never-past}
use Rattle.reading.proofs.Run.{compare, joined_more}
use Rattle.reading.proofs.Sofar.{Sofar, Next, sofar-start, sofar-open, sofar-close, read-whole}

take-next : {X : Type 0} (xs ys : List X) (x : X) → take (length xs + 1) (xs ++ x ∷ ys) ≡ xs ++ x ∷ []
take-next [] ys x = refl
take-next (z ∷ xs) ys x =
    let e : suc (length xs) + 1 ≡ suc (length xs + 1) = omega arith in
    ap (λ n. take n (z ∷ (xs ++ x ∷ ys))) e ∙ ap (λ y. z ∷ y) (take-next xs ys x)

size-next : {X : Type 0} (xs ys : List X) (x : X) → length xs < length (xs ++ x ∷ ys)
size-next xs ys x = omega (arith, length-append xs (x ∷ ys))

longer : {X : Type 0} (xs : List X) (x : X) → length xs + 1 ≡ length (xs ++ x ∷ [])
longer xs x = omega (arith, length-append xs (x ∷ []))

next-at : (text front more : List Token) (w : Token) → text ≡ front ++ w ∷ more → Next text (length front) w
next-at text front more w e = record {
  within = subst (λ z. length front < length z) (sym e) (size-next front more w);
  is = subst (λ z. take (length front + 1) z ≡ take (length front) z ++ w ∷ []) (sym e)
      (take-next front more w ∙ ap (λ z. z ++ w ∷ []) (sym (take-front front (w ∷ more))));
}

not-nil : (v : Token) (more : List Token) → v ∷ more ≡ [] → ⊥
not-nil v more h = let n : length (v ∷ more) ≡ 0 = ap length h in omega arith

-- The words of a unit in turn, after those of it that have been read.
unit-read : {S K : Type 0} (f : Format Token S K) → Shut f → (text front : List Token) (w : Token) (more rest : List Token)
    (units : List (List Token)) (part : List Token) → text ≡ front ++ ((w ∷ more) ++ rest) → Sofar f text (length front) units part →
    Matches (f.sort units) (f.follow units) (part ++ w ∷ more) → NoneShows f units part (w ∷ more) →
    Sofar f text (length (front ++ w ∷ more)) (units ++ (part ++ w ∷ more) ∷ []) []
unit-read f shut text front w [] rest units part e o m fine =
    subst (λ z. Sofar f text z (units ++ (part ++ w ∷ []) ∷ []) []) (longer front w)
    (sofar-close f text (length front) units part w o (next-at text front rest w e) fine.0 m (λ x n. shut units (part ++ w ∷ []) x m n))
unit-read {S} {K} f shut text front w (v ∷ more) rest units part e o m fine =
    let same : (part ++ w ∷ []) ++ v ∷ more ≡ part ++ w ∷ v ∷ more = append_assoc part (w ∷ []) (v ∷ more) in
    let whole : Matches (f.sort units) (f.follow units) ((part ++ w ∷ []) ++ v ∷ more) =
    subst (λ z. Matches (f.sort units) (f.follow units) z) (sym same) m in
    let open_ = sofar-open f text (length front) units part w o (next-at text front ((v ∷ more) ++ rest) w e) (v ∷ more, whole) fine.0
    (λ n. not-nil v more (shut units (part ++ w ∷ []) (v ∷ more) n whole)) in
    let all = unit-read f shut text (front ++ w ∷ []) v more rest units (part ++ w ∷ [])
    (e ∙ sym (append_assoc front (w ∷ []) ((v ∷ more) ++ rest)))
    (subst (λ z. Sofar f text z units (part ++ w ∷ [])) (longer front w) open_) whole fine.1 in
    subst (λ (z : List Token). Sofar f text (length z) (units ++ (part ++ w ∷ v ∷ more) ∷ []) []) (append_assoc front (w ∷ []) (v ∷ more))
    (subst (λ (z : List Token). Sofar f text (length ((front ++ w ∷ []) ++ v ∷ more)) (units ++ z ∷ []) []) same all)

no-word : (A : Type 0) → 0 < length {A = A} [] → ⊥
no-word A h = omega arith

-- The units in turn, after those that have been read.
units-read : {S K : Type 0} (f : Format Token S K) → Shut f → (text front : List Token) (before us : List (List Token)) →
    text ≡ front ++ joined us → Sofar f text (length front) before [] → AreTaken f before us →
    Sofar f text (length text) (before ++ us) []
units-read f shut text front before [] e o h =
    subst (λ (z : List Token). Sofar f text (length z) (before ++ []) []) (sym (e ∙ append-nil front))
    (subst (λ (z : List (List Token)). Sofar f text (length front) z []) (sym (append-nil before)) o)
units-read f shut text front before ([] ∷ us) e o h = absurd (no-word Token h.0)
units-read f shut text front before ((w ∷ more) ∷ us) e o h =
    let u : List Token = w ∷ more in
    subst (λ (z : List (List Token)). Sofar f text (length text) z []) (append_assoc before (u ∷ []) us)
    (units-read f shut text (front ++ u) (before ++ u ∷ []) us (e ∙ sym (append_assoc front u (joined us)))
    (unit-read f shut text front w more (joined us) before [] e o h.1.matches h.1.fine) h.2)

-- Whole units without a fault, up to the end of a text of which no word is refused for itself.
pub units-are-read : {S K : Type 0} (f : Format Token S K) → Shut f → (text : Text Token) (units : List (List Token)) →
    AreTaken f [] units → text.words ≡ joined units → text.refused ≡ None → IsRead f text units
units-are-read f shut text units h e none =
    read-whole f text units (units-read f shut text.words [] [] units e (sofar-start f text.words) h) none

-- Where units end no text, all of it is read.
pub units-are-read-as : {S K : Type 0} (f : Format Token S K) → Shut f → ((units : List (List Token)) → f.ends units ≡ false) →
    (text : Text Token) (units : List (List Token)) → AreTaken f [] units → text.words ≡ joined units → text.refused ≡ None → IsReadAs f text units
units-are-read-as f shut never text units h e none =
    (text, inl (never-past f never text (length text.words), refl), units-are-read f shut text units h e none)

-- ## units that end a text

pub taken-follow : {S K : Type 0} (f : Format Token S K) (before us more : List (List Token)) → AreTaken f before (us ++ more) → Follows f before us
taken-follow f before [] more h = tt
taken-follow f before (u ∷ us) more h = (h.0, h.1.matches, taken-follow f (before ++ u ∷ []) us more h.2)

-- Two units with which the same words begin are one.
same-unit : {S K : Type 0} (f : Format Token S K) → Shut f → (before : List (List Token)) (u v x y : List Token) →
    Matches (f.sort before) (f.follow before) u → Matches (f.sort before) (f.follow before) v → u ++ x ≡ v ++ y → (u ≡ v) × (x ≡ y)
same-unit f shut before u v x y m n e = elim (compare u v x y e) [
  | inl t ↦
      let none : t.0 ≡ [] = shut before u t.0 m (subst (λ z. Matches (f.sort before) (f.follow before) z) t.1 n) in
      (sym (t.1 ∙ ap (λ z. u ++ z) none ∙ append-nil u), t.2 ∙ ap (λ (z : List Token). z ++ y) none)
  | inr t ↦
      let none : t.0 ≡ [] = shut before v t.0 n (subst (λ z. Matches (f.sort before) (f.follow before) z) t.1 m) in
      (t.1 ∙ ap (λ z. v ++ z) none ∙ append-nil v, sym (t.2 ∙ ap (λ (z : List Token). z ++ x) none))
]

-- Of two lists of units of one text the one is the front of the other.
front-of : {S K : Type 0} (f : Format Token S K) → Shut f → (before us vs : List (List Token)) (a b : List Token) →
    Follows f before us → Follows f before vs → joined us ++ a ≡ joined vs ++ b →
    ((more : List (List Token)) × (us ≡ vs ++ more)) ⊎ (length (joined us) ≤ length (joined vs))
front-of f shut before us [] a b h k e = inl (us, refl)
front-of f shut before [] (v ∷ vs) a b h k e = inr (omega arith)
front-of f shut before (u ∷ us) (v ∷ vs) a b h k e =
    let parts : u ++ (joined us ++ a) ≡ v ++ (joined vs ++ b) = sym (append_assoc u (joined us) a) ∙ e ∙ append_assoc v (joined vs) b in
    let same = same-unit f shut before u v (joined us ++ a) (joined vs ++ b) h.1 k.1 parts in
    let size : length u ≡ length v = ap length same.0 in
    elim (front-of f shut (before ++ u ∷ []) us vs a b h.2 (subst (λ z. Follows f (before ++ z ∷ []) vs) (sym same.0) k.2) same.1) [
      | inl t ↦ inl (t.0, ap (λ z. u ∷ z) t.1 ∙ ap (λ z. z ∷ (vs ++ t.0)) same.0)
      | inr le ↦
          let short : length (joined us) ≤ length (joined vs) = le in
          inr (omega (arith, length-append u (joined us), length-append v (joined vs)))
    ]

no-end : (b : Bool) → b ≡ true → b ≡ false → ⊥
no-end b h k = cc

-- No front of these units ends the text.
abbrev pub NoneBefore : {S K : Type 0} → Format Token S K → List (List Token) → Type 0
NoneBefore f units = (front : List (List Token)) (w : List Token) (back : List (List Token)) → units ≡ front ++ w ∷ back → f.ends front ≡ false

first-by : {S K : Type 0} (f : Format Token S K) (units others more : List (List Token)) → NoneBefore f units → f.ends others ≡ true →
    units ≡ others ++ more → length (joined units) ≤ length (joined others)
first-by f units others [] none ends e =
    let same : length (joined units) ≡ length (joined others) = ap (λ (z : List (List Token)). length (joined z)) (e ∙ append-nil others) in omega arith
first-by f units others (w ∷ back) none ends e = absurd (no-end (f.ends others) ends (none others w back e))

ends-first : {S K : Type 0} (f : Format Token S K) → Shut f → (text : Text Token) (units : List (List Token)) (rest : List Token) →
    Follows f [] units → text.words ≡ joined units ++ rest → NoneBefore f units → EndsFirst f text units
ends-first f shut text units rest h e none others k =
    elim (front-of f shut [] units others rest k.rest h k.whole (sym e ∙ k.is)) [
      | inl t ↦ first-by f units others t.0 none k.ends t.1
      | inr le ↦ le
    ]

-- The units that end a text, and then its end.
abbrev pub with-end : List (List Token) → List (List Token)
with-end units = units ++ (end_after (joined units) ∷ []) ∷ []

pub units-are-read-to-end : {S K : Type 0} (f : Format Token S K) → Shut f → (text : Text Token) (units : List (List Token)) (rest : List Token) →
    AreTaken f [] (with-end units) → text.words ≡ joined units ++ rest → f.ends units ≡ true → NoneBefore f units → IsReadAs f text (with-end units)
units-are-read-to-end f shut text units rest h e ends none =
    let whole : Follows f [] units = taken-follow f [] units ((end_after (joined units) ∷ []) ∷ []) h in
    let ending : IsEnding f text units = record { whole = whole; ends = ends; rest = rest; is = e } in (
      ended_text (joined units),
      inr (
        units,
        ending,
        ends-first f shut text units rest whole e none,
        omega (arith, length-append (joined units) (end_after (joined units) ∷ [])),
        refl,
      ),
      units-are-read f shut (ended_text (joined units)) (with-end units) h (sym (joined_more units (end_after (joined units) ∷ []))) refl,
    )
