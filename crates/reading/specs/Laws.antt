-- What formats need for their laws: faults at the last word and at earlier ones, rules that are tested by a
-- computation, blocks, and that a text has one record.
use Rattle.std.proofs.Common.{◌≡◌, ℕ, zero, suc, ◌+◌, ◌<◌, ◌≤◌, ◌⊎◌, inl, inr, Bool, true, false, if◌then◌else◌, not, ◌&&◌, List, [], ◌∷◌, ◌++◌, length, get_or, slice_get, map, Option, Some, None, Result, Ok, Err, refl, sym, ◌∙◌, ap, subst, arith, length-append}
use Rattle.std.proofs.lemmas.List.{append-nil}
use Rattle.std.specs.Option.{unwrap_or}
use Rattle.outside.specs.declared.place.Place.{Place}
use Rattle.text_lex.specs.declared.word.Mode.{Mode}
use Rattle.text_lex.specs.Split.{Split, IsSplit}
use Rattle.reading.specs.declared.error.ReadError.{ReadError}
use Rattle.reading.specs.declared.refusal.Cause.{Cause}
use Rattle.reading.specs.declared.refusal.Found.{Found}
use Rattle.reading.specs.declared.rule.Rule.{Rule, Nothing, One, Other, Then', Or', Many'}
use Rattle.reading.specs.Pattern.{Pattern}
use Rattle.reading.specs.Pattern as patterns
use Rattle.reading.specs.Rule.{listed_in, IsRule}
use Rattle.reading.specs.Reading.{Format, Text, IsFine, IsOrderly}
use Rattle.reading.specs.Word.{Token, heard_token, seen_text}
use Rattle.reading.specs.declared.word.Heard.{Heard}
use Rattle.reading.specs.Outcome.{IsReadAs, IsRefusedAt}
use Rattle.reading.specs.Error.{Kinds, kind_of, ReadsRecord, Agree}
use Rattle.reading.specs.Fault.{FindsValue, told_at}
use Rattle.reading.specs.Grammar.{AreHeard, Tells}
use Rattle.reading.specs.Blocks.{Block, before_head, blocks, with_unit}

-- A sort that stands in the list of all, which is that of the sorts of these words, is the sort of one of them.
pub sampled : {S : Type 0} (sort_of : Token → S) (samples : List Token) (all : List S) (n : ℕ) (sort : S) →
    map sort_of samples ≡ all → slice_get all n ≡ Some sort → (w : Token) × (sort_of w ≡ sort)
sampled {S} sort_of samples all n sort are stands =
    found samples n (subst (λ (sorts : List S). slice_get sorts n ≡ Some sort) (sym are) stands)
  where
    found : (words : List Token) (k : ℕ) → slice_get (map sort_of words) k ≡ Some sort → (w : Token) × (sort_of w ≡ sort)
    found [] k h = absurd (cc)
    found (w ∷ words) zero h = (w, ap (λ (o : Option S). unwrap_or o sort) h)
    found (w ∷ words) (suc k) h = found words k h

-- Each fault stands at the last word that shows it, and the words of a unit show at most one.
pub record IsImmediate {W S K : Type 0} (f : Format W S K) : Type 0 where
  pub last : (units : List (List W)) (part : List W) (a : Found K) → f.fault units part a → a.at + 1 ≡ length part
  pub one : (units : List (List W)) (part : List W) (a b : Found K) → f.fault units part a → f.fault units part b →
      b.kind ≡ a.kind

nothing : {W : Type 0} (x : List W) → length x ≡ 0 → x ≡ []
nothing [] h = refl
nothing (y ∷ x) h = absurd (omega arith)

same-kind : {W S K : Type 0} (f : Format W S K) → IsImmediate f →
    (units : List (List W)) (part more : List W) (a b : Found K) →
    f.fault units part a → f.fault units (part ++ more) b → length more ≡ 0 → b.kind ≡ a.kind
same-kind f now units part more a b h k e =
    now.one units part a b h (subst (λ z. f.fault units z b) (ap (λ z. part ++ z) (nothing more e) ∙ append-nil part) k)

pub immediate : {W S K : Type 0} (f : Format W S K) → IsImmediate f → IsOrderly f
immediate f now = record {
  near = λ units part a begins h. omega (arith, now.last units part a h);
  order = λ units part more a b begins h k. (
    omega (arith, now.last units part a h, now.last units (part ++ more) b k, length-append part more),
    λ e. same-kind f now units part more a b h k
        (omega (arith, now.last units part a h, now.last units (part ++ more) b k, length-append part more)),
  );
}

-- ## rules

-- Whether two tests are the same.
abbrev pub same_test : Bool → Bool → Bool
same_test true b = b
same_test false b = not b

-- Whether two classes have the same of these sorts.
abbrev pub same_class : {S : Type 0} → List S → (S → Bool) → (S → Bool) → Bool
same_class [] a b = true
same_class (s ∷ sorts) a b = same_test (a s) (b s) && same_class sorts a b

-- Whether the rule is the pattern, where these are all sorts.
abbrev pub is_rule : {S : Type 0} → (S → ℕ) → List S → Rule S → Pattern S → Bool
is_rule number all Nothing patterns.Never = true
is_rule number all (One sorts) (patterns.One class) = same_class all (listed_in number sorts.now) class
is_rule number all (Other sorts) (patterns.One class) = same_class all (λ s. not (listed_in number sorts.now s)) class
is_rule number all (Then' a x b y) (patterns.Then p q) = is_rule number all x p && is_rule number all y q
is_rule number all (Or' a x b y) (patterns.Or p q) = is_rule number all x p && is_rule number all y q
is_rule number all (Many' a x) (patterns.Many p) = is_rule number all x p
is_rule number all rule p = false

two : (a b : Bool) → (a && b) ≡ true → (a ≡ true) × (b ≡ true)
two true true h = (refl, refl)
two true false h = (refl, h)
two false b h = absurd (let t : false ≡ true = h in cc)

same-test : (a b : Bool) → same_test a b ≡ true → a ≡ b
same-test true b h = sym h
same-test false false h = refl
same-test false true h = absurd (let t : false ≡ true = h in cc)

same-at : {S : Type 0} (all : List S) (a b : S → Bool) → same_class all a b ≡ true → (s : S) (i : ℕ) →
    slice_get all i ≡ Some s → a s ≡ b s
same-at [] a b h s i e = absurd (let t : None ≡ Some s = e in cc)
same-at (x ∷ all) a b h s zero e =
    let same : x ≡ s = (let t : Some x ≡ Some s = e in cc) in
    subst (λ z. a z ≡ b z) same (same-test (a x) (b x) (two (same_test (a x) (b x)) (same_class all a b) h).0)
same-at (x ∷ all) a b h s (suc i) e = same-at all a b (two (same_test (a x) (b x)) (same_class all a b) h).1 s i e

no : false ≡ true → ⊥
no h = cc

pub rule-is : {S : Type 0} (number : S → ℕ) (all : List S) → ((x : S) → slice_get all (number x) ≡ Some x) →
    (rule : Rule S) (p : Pattern S) → is_rule number all rule p ≡ true → IsRule number rule p
rule-is number all each Nothing patterns.Never h = tt
rule-is number all each (One sorts) (patterns.One class) h =
    λ s. same-at all (listed_in number sorts.now) class h s (number s) (each s)
rule-is number all each (Other sorts) (patterns.One class) h =
    λ s. same-at all (λ s. not (listed_in number sorts.now s)) class h s (number s) (each s)
rule-is number all each (Then' a x b y) (patterns.Then p q) h =
    let t = two (is_rule number all x p) (is_rule number all y q) h in
    (rule-is number all each x p t.0, rule-is number all each y q t.1)
rule-is number all each (Or' a x b y) (patterns.Or p q) h =
    let t = two (is_rule number all x p) (is_rule number all y q) h in
    (rule-is number all each x p t.0, rule-is number all each y q t.1)
rule-is number all each (Many' a x) (patterns.Many p) h = rule-is number all each x p h
rule-is number all each rule p h = absurd (no h)

-- ## blocks

-- The units before the first head, with one more in front.
abbrev before_by : {W : Type 0} → Bool → List W → List (List W) → List (List W)
before_by head unit before = if head then [] else (unit ∷ before)

-- The blocks, with one more unit in front.
abbrev blocks_by : {W : Type 0} → Bool → List W → List (List W) → List (Block W) → List (Block W)
blocks_by head unit before rest = if head then (record { head = unit; body = before } ∷ rest) else rest

before-more : {W : Type 0} (head : Bool) (u unit : List W) (before more : List (List W)) (rest : List (Block W)) →
    (rest ≡ [] → more ≡ before ++ unit ∷ []) → blocks_by head u before rest ≡ [] →
    before_by head u more ≡ before_by head u before ++ unit ∷ []
before-more true u unit before more rest later none = cc
before-more false u unit before more rest later none = ap (λ z. u ∷ z) (later none)

before-none : {W : Type 0} (is_head : List W → Bool) (units : List (List W)) (unit : List W) → is_head unit ≡ false →
    blocks is_head units ≡ [] →
    before_head is_head (units ++ unit ∷ []) ≡ before_head is_head units ++ unit ∷ []
before-none is_head [] unit body none = ap (λ z. before_by z unit []) body
before-none is_head (u ∷ us) unit body none =
    before-more (is_head u) u unit (before_head is_head us) (before_head is_head (us ++ unit ∷ []))
    (blocks is_head us) (before-none is_head us unit body) none

before-kept : {W : Type 0} (head : Bool) (u : List W) (before more : List (List W)) (rest : List (Block W))
    (b : Block W) (bs : List (Block W)) →
    ((c : Block W) (cs : List (Block W)) → rest ≡ c ∷ cs → more ≡ before) → blocks_by head u before rest ≡ b ∷ bs →
    before_by head u more ≡ before_by head u before
before-kept true u before more rest b bs later some = refl
before-kept false u before more rest b bs later some = ap (λ z. u ∷ z) (later b bs some)

before-some : {W : Type 0} (is_head : List W → Bool) (units : List (List W)) (unit : List W) (b : Block W)
    (bs : List (Block W)) → blocks is_head units ≡ b ∷ bs →
    before_head is_head (units ++ unit ∷ []) ≡ before_head is_head units
before-some is_head [] unit b bs some = cc
before-some is_head (u ∷ us) unit b bs some =
    before-kept (is_head u) u (before_head is_head us) (before_head is_head (us ++ unit ∷ []))
    (blocks is_head us) b bs (before-some is_head us unit) some

before-ended : {W : Type 0} (is_head : List W → Bool) (units : List (List W)) (unit : List W) → is_head unit ≡ true →
    before_head is_head (units ++ unit ∷ []) ≡ before_head is_head units
before-ended is_head [] unit head = ap (λ z. before_by z unit []) head
before-ended is_head (u ∷ us) unit head = ap (λ z. before_by (is_head u) u z) (before-ended is_head us unit head)

blocks-spread : {W : Type 0} (head : Bool) (u : List W) (before : List (List W)) (rest more : List (Block W)) →
    blocks_by head u before (rest ++ more) ≡ blocks_by head u before rest ++ more
blocks-spread true u before rest more = refl
blocks-spread false u before rest more = refl

-- One more head begins a block without a body.
pub blocks-head : {W : Type 0} (is_head : List W → Bool) (units : List (List W)) (unit : List W) → is_head unit ≡ true →
    blocks is_head (units ++ unit ∷ []) ≡ blocks is_head units ++ record { head = unit; body = [] } ∷ []
blocks-head is_head [] unit head = ap (λ z. blocks_by z unit [] []) head
blocks-head is_head (u ∷ us) unit head =
    ap (λ z. blocks_by (is_head u) u z (blocks is_head (us ++ unit ∷ []))) (before-ended is_head us unit head)
    ∙ ap (λ z. blocks_by (is_head u) u (before_head is_head us) z) (blocks-head is_head us unit head)
    ∙ blocks-spread (is_head u) u (before_head is_head us) (blocks is_head us) (record { head = unit; body = [] } ∷ [])

body-step : {W : Type 0} (head : Bool) (u unit : List W) (before more : List (List W))
    (rest others : List (Block W)) → others ≡ with_unit rest unit →
    (rest ≡ [] → more ≡ before ++ unit ∷ []) → ((b : Block W) (bs : List (Block W)) → rest ≡ b ∷ bs → more ≡ before) →
    blocks_by head u more others ≡ with_unit (blocks_by head u before rest) unit
body-step false u unit before more rest others e none some = e
body-step true u unit before more [] others e none some =
    ap (λ z. blocks_by true u z others) (none refl) ∙ ap (λ z. blocks_by true u (before ++ unit ∷ []) z) e
body-step true u unit before more (b ∷ bs) others e none some =
    ap (λ z. blocks_by true u z others) (some b bs refl) ∙ ap (λ z. blocks_by true u before z) e

-- One more unit that is no head stands in the body of the last block.
pub blocks-body : {W : Type 0} (is_head : List W → Bool) (units : List (List W)) (unit : List W) →
    is_head unit ≡ false →
    blocks is_head (units ++ unit ∷ []) ≡ with_unit (blocks is_head units) unit
blocks-body is_head [] unit body = ap (λ z. blocks_by z unit [] []) body
blocks-body is_head (u ∷ us) unit body =
    body-step (is_head u) u unit (before_head is_head us) (before_head is_head (us ++ unit ∷ [])) (blocks is_head us)
    (blocks is_head (us ++ unit ∷ []))
    (blocks-body is_head us unit body) (before-none is_head us unit body) (before-some is_head us unit)

-- ## faults that a later word shows

-- Each fault stands at a word of its unit: at the last one, or at an earlier one where no fewer words show a fault. The
-- words of a unit show at most one.
pub record IsLate {W S K : Type 0} (f : Format W S K) : Type 0 where
  pub near : (units : List (List W)) (part : List W) (a : Found K) → f.fault units part a → a.at < length part
  pub alone : (units : List (List W)) (part : List W) (a : Found K) → f.fault units part a →
      (a.at + 1 ≡ length part) ⊎ ((front more : List W) → part ≡ front ++ more → 0 < length more → IsFine f units front)
  pub one : (units : List (List W)) (part : List W) (a b : Found K) → f.fault units part a → f.fault units part b →
      (b.at ≡ a.at) × (b.kind ≡ a.kind)

late-same : {W S K : Type 0} (f : Format W S K) → IsLate f → (units : List (List W)) (part : List W) (a b : Found K) →
    f.fault units part a → f.fault units (part ++ []) b → (a.at ≤ b.at) × (a.at ≡ b.at → b.kind ≡ a.kind)
late-same f now units part a b h k =
    let e = now.one units part a b h (subst (λ z. f.fault units z b) (append-nil part) k) in
    let at : b.at ≡ a.at = e.0 in
    (omega arith, λ same. e.1)

late-order : {W S K : Type 0} (f : Format W S K) → IsLate f →
    (units : List (List W)) (part more : List W) (a b : Found K) →
    f.fault units part a → f.fault units (part ++ more) b → (a.at ≤ b.at) × (a.at ≡ b.at → b.kind ≡ a.kind)
late-order f now units part [] a b h k = late-same f now units part a b h k
late-order f now units part (w ∷ more) a b h k = elim (now.alone units (part ++ w ∷ more) b k) [
  | inl last ↦
      let near : a.at < length part = now.near units part a h in
      let lt : a.at < b.at = omega (arith, length-append part (w ∷ more)) in
      (omega arith, λ same. absurd (omega arith))
  | inr first ↦ absurd (first part (w ∷ more) refl (omega arith) a h)
]

pub late : {W S K : Type 0} (f : Format W S K) → IsLate f → IsOrderly f
late f now = record {
  near = λ units part a begins h. now.near units part a h;
  order = λ units part more a b begins h k. late-order f now units part more a b h k;
}

-- What is found at a word is what the words tell, where all faults of these words stand there.
pub tell-at : {S K V : Type 0} (f : Format Token S K) (tells : List Token → V → Type 0) (units : List (List Token))
    (part : List Token) (n : ℕ) (shows : K → Type 0) (says : V → Type 0) →
    ((a : Found K) → f.fault units part a → (a.at ≡ n) × shows a.kind) →
    ((kind : K) → shows kind → f.fault units part (record { at = n; kind = kind })) →
    ((value : V) → says value → tells part value) →
    (told : Result V K) → FindsValue shows says told → Tells f tells units part (told_at n told)
tell-at f tells units part n shows says there back value (Ok v) h = ((λ a k. h.0 a.kind (there a k).1), value v h.1)
tell-at f tells units part n shows says there back value (Err kind) h = back kind h

-- What a match on the words before tells: the same with the list that they are, where the answer is what is found at
-- their end.
pub tell-heard : {S K V : Type 0} (f : Format Token S K) (tells : List Token → V → Type 0) (units : List (List Token))
    (before list : List (Heard V)) (word : Token) (n : ℕ) (shows : K → Type 0) (says : V → Type 0) (told : Result V K)
    (result : Result V (Found K)) → before ≡ list → result ≡ told_at n told →
    ((a : Found K) → f.fault units (map heard_token list ++ word ∷ []) a → (a.at ≡ n) × shows a.kind) →
    ((kind : K) → shows kind →
    f.fault units (map heard_token list ++ word ∷ []) (record { at = n; kind = kind })) →
    ((value : V) → says value → tells (map heard_token list ++ word ∷ []) value) →
    FindsValue shows says told → Tells f tells units (map heard_token before ++ word ∷ []) result
tell-heard f tells units before list word n shows says told result e r there back value h =
    subst (λ z. Tells f tells units (map heard_token z ++ word ∷ []) result) (sym e)
    (subst (λ z. Tells f tells units (map heard_token list ++ word ∷ []) z) (sym r)
    (tell-at f tells units (map heard_token list ++ word ∷ []) n shows says there back value told h))

-- ## lists by their lengths, as a match on a slice gives them; the default is that of the slice's accesses

pub no-items : {X : Type 0} (xs : List X) → length xs < 1 → xs ≡ []
no-items [] h = refl
no-items (x ∷ xs) h = absurd (omega arith)

pub one-item : {X : Type 0} (d : X) (xs : List X) → 1 ≤ length xs → length xs < 2 → xs ≡ get_or xs 0 d ∷ []
one-item d [] h k = absurd (omega arith)
one-item d (x ∷ xs) h k = ap (λ z. x ∷ z) (no-items xs (omega arith))

pub two-items : {X : Type 0} (d : X) (xs : List X) → 2 ≤ length xs → length xs < 3 → xs ≡ get_or xs 0 d ∷ get_or xs 1 d ∷ []
two-items d [] h k = absurd (omega arith)
two-items d (x ∷ xs) h k = ap (λ z. x ∷ z) (one-item d xs (omega arith) (omega arith))

pub three-items : {X : Type 0} (d : X) (xs : List X) → 3 ≤ length xs → length xs < 4 →
    xs ≡ get_or xs 0 d ∷ get_or xs 1 d ∷ get_or xs 2 d ∷ []
three-items d [] h k = absurd (omega arith)
three-items d (x ∷ xs) h k = ap (λ z. x ∷ z) (two-items d xs (omega arith) (omega arith))

pub four-items : {X : Type 0} (d : X) (xs : List X) → 4 ≤ length xs → length xs < 5 →
    xs ≡ get_or xs 0 d ∷ get_or xs 1 d ∷ get_or xs 2 d ∷ get_or xs 3 d ∷ []
four-items d [] h k = absurd (omega arith)
four-items d (x ∷ xs) h k = ap (λ z. x ∷ z) (three-items d xs (omega arith) (omega arith))

pub five-items : {X : Type 0} (d : X) (xs : List X) → 5 ≤ length xs → length xs < 6 →
    xs ≡ get_or xs 0 d ∷ get_or xs 1 d ∷ get_or xs 2 d ∷ get_or xs 3 d ∷ get_or xs 4 d ∷ []
five-items d [] h k = absurd (omega arith)
five-items d (x ∷ xs) h k = ap (λ z. x ∷ z) (four-items d xs (omega arith) (omega arith))

pub six-items : {X : Type 0} (d : X) (xs : List X) → 6 ≤ length xs → length xs < 7 →
    xs ≡ get_or xs 0 d ∷ get_or xs 1 d ∷ get_or xs 2 d ∷ get_or xs 3 d ∷ get_or xs 4 d ∷ get_or xs 5 d ∷ []
six-items d [] h k = absurd (omega arith)
six-items d (x ∷ xs) h k = ap (λ z. x ∷ z) (five-items d xs (omega arith) (omega arith))

-- What is heard is said of each list that the words are.
pub heard-as : {V : Type 0} (says : List Token → V → Type 0) (unit list : List (Heard V)) → unit ≡ list →
    AreHeard says [] unit → AreHeard says [] list
heard-as says unit list e h = subst (λ z. AreHeard says [] z) e h

-- ## one record

same-error : {K : Type 0} (a b : ReadError K) → a.place ≡ b.place → a.kind ≡ b.kind → a ≡ b
same-error {K} a b e f =
    let make : Place → K → ReadError K = λ p k. record { place = p; kind = k } in
    ap (λ z. make z a.kind) e ∙ ap (λ z. make b.place z) f

-- A text has one record or one refusal, where it has one list of words, one list of units or one refusal, and the units
-- have one record.
pub one-record : {R S K : Type 0} (kinds : Kinds K) (mode : Mode) (f : Format Token S K)
    (is : List (List Token) → R → Type 0) →
    ((text : List ℕ) (a b : Split) → IsSplit mode text a → IsSplit mode text b → a ≡ b) →
    ((text : Text Token) (a b : List (List Token)) → IsReadAs f text a → IsReadAs f text b → a ≡ b) →
    ((text : Text Token) (p q : Place) (c d : Cause K) → IsRefusedAt f text p c → IsRefusedAt f text q d → (p ≡ q)
    × (c ≡ d)) →
    ((text : Text Token) (units : List (List Token)) (p : Place) (c : Cause K) → IsReadAs f text units →
    IsRefusedAt f text p c → ⊥) →
    ((units : List (List Token)) (a b : R) → is units a → is units b → a ≡ b) →
    (text : List ℕ) (a b : Result R (ReadError K)) → ReadsRecord kinds mode text f is a →
    ReadsRecord kinds mode text f is b → Agree kinds.want a b
one-record kinds mode f is splits reads refuses both told text (Ok a) (Ok b) h k =
    let split = splits text k.0 h.0 k.1 h.1 in
    let there = subst (λ z. IsReadAs f (seen_text z) k.2) split k.3 in
    told h.2 a b h.4 (subst (λ z. is z b) (reads (seen_text h.0) k.2 h.2 there h.3) k.4)
one-record kinds mode f is splits reads refuses both told text (Ok a) (Err b) h (inl k) = k
one-record kinds mode f is splits reads refuses both told text (Ok a) (Err b) h (inr k) =
    absurd (both (seen_text h.0) h.2 b.place k.2 h.3
    (subst (λ z. IsRefusedAt f (seen_text z) b.place k.2) (splits text k.0 h.0 k.1 h.1) k.3))
one-record kinds mode f is splits reads refuses both told text (Err a) (Ok b) (inl h) k = h
one-record kinds mode f is splits reads refuses both told text (Err a) (Ok b) (inr h) k =
    absurd (both (seen_text k.0) k.2 a.place h.2 k.3
    (subst (λ z. IsRefusedAt f (seen_text z) a.place h.2) (splits text h.0 k.0 h.1 k.1) h.3))
one-record kinds mode f is splits reads refuses both told text (Err a) (Err b) (inl h) k =
    λ not_a not_b. absurd (not_a h)
one-record kinds mode f is splits reads refuses both told text (Err a) (Err b) h (inl k) =
    λ not_a not_b. absurd (not_b k)
one-record kinds mode f is splits reads refuses both told text (Err a) (Err b) (inr h) (inr k) = λ not_a not_b.
    let e = refuses (seen_text h.0) a.place b.place h.2 k.2 h.3
    (subst (λ z. IsRefusedAt f (seen_text z) b.place k.2) (splits text k.0 h.0 k.1 h.1) k.3) in
    same-error a b e.0 (sym h.4 ∙ ap (λ z. kind_of kinds z) e.1 ∙ k.4)
