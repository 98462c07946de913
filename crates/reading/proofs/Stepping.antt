-- One word of the loop over a format's words.
use Rattle.std.proofs.Common.{◌≡◌, ℕ, zero, suc, ◌+◌, ◌*◌, ◌<◌, ◌≤◌, true, false, List, [], ◌∷◌, ◌++◌, length, map, slice_get, get_or, set, Option, Some, None, refl, sym, ◌∙◌, ap, subst, append_assoc, arith}
use Rattle.std.proofs.lemmas.List.{append-nil}
use Rattle.std.proofs.lemmas.Option.{slice_get_read}
use Rattle.outside.specs.declared.place.Place.{Place}
use Rattle.reading.specs.declared.word.Form.TheVariants.{End}
use Rattle.reading.specs.declared.word.Heard.{Heard}
use Rattle.reading.specs.declared.refusal.Found.{Found}
use Rattle.reading.specs.declared.patterns.Node.{Node}
use Rattle.reading.specs.declared.machine.Machine.{Machine}
use Rattle.reading.specs.declared.machine.Rest.{Rest}
use Rattle.reading.specs.Pattern.{Pattern, Never, Matches, Begins}
use Rattle.reading.specs.Tests.{skips, IsEach}
use Rattle.reading.specs.inside.Left.{lefts}
use Rattle.reading.specs.inside.Patterns.{IsGraph, Denotes, Grown, Leaves}
use Rattle.reading.specs.inside.Patterns.{IsStanding}
use Rattle.reading.specs.Reading.{Format, IsFine}
use Rattle.reading.specs.Word.{Token, heard_token, place_in}
use Rattle.reading.specs.Reader.{GoesOn, Closes, Faulty}
use Rattle.reading.specs.Grammar.{AreHeard, IsRegular, NoneShows, IsTaken}
use Rattle.reading.specs.inside.Machine.{KnowsLefts, KnowsStarts, HasRows, IsReady, KeepsOthers, TellsNoMore, Notes}
use Rattle.reading.specs.inside.Engine.{StartsAt, StandsAt}
use Rattle.reading.proofs.Left.{closed}
use Rattle.reading.proofs.Graph.{length-extends}
use Rattle.reading.proofs.Rest.{last, lefts-more, rest-never, rest-some, rest-skips, rest-goes_on}
use Rattle.reading.proofs.Tables.{denotes-before, lefts-grown, lefts-kept, starts-grown, lefts-noted, starts-noted}

-- Each value stands at its number.
abbrev pub IsListed : {X : Type 0} → (X → ℕ) → List X → Type 0
IsListed {X} number all = (x : X) → slice_get all (number x) ≡ Some x

pub each-listed : {X : Type 0} (number : X → ℕ) (all : List X) → IsListed number all → IsEach all
each-listed number all h = λ x. (number x, h x)

-- ## the tables

pub known-start : {S C : Type 0} (number : S → ℕ) (section : C → ℕ) (pattern : C → Pattern S) (nodes : List Node) (starts : List (Option ℕ)) (c : C) (i at : ℕ) (r : Option ℕ) →
    KnowsStarts number section pattern nodes starts → i ≡ section c → i < length starts → r ≡ get_or starts i r → r ≡ Some at →
    (at < length nodes) × Denotes number nodes at (pattern c)
known-start number section pattern nodes starts c i at r k e lt read is =
    let there : slice_get starts i ≡ Some r = slice_get_read starts (length starts) i r refl lt read in
    k.is c at (subst (λ z. slice_get starts z ≡ Some (Some at)) e (there ∙ ap (λ z. Some z) is))

-- More patterns, and then rows for them.
ready-wide : {S C : Type 0} (number : S → ℕ) (section : C → ℕ) (pattern : C → Pattern S) (m one wide : Machine) (at : ℕ) → IsReady number section pattern m →
    Grown m.patterns.nodes.items one.patterns.nodes.items at → one.lefts ≡ m.lefts → one.starts ≡ m.starts →
    HasRows wide → TellsNoMore one.lefts.items wide.lefts.items → KeepsOthers one wide → IsReady number section pattern wide
ready-wide number section pattern m one wide at r g left_same starts_same rows tells w =
    let lefts = subst (λ z. KnowsLefts number one.patterns.nodes.items z.items) (sym left_same) (lefts-grown number _ _ at m.lefts.items r.graph g r.lefts) in
    let starts = subst (λ z. KnowsStarts number section pattern one.patterns.nodes.items z.items) (sym starts_same) (starts-grown number section pattern _ _ at m.starts.items g r.starts) in
    record {
      graph = subst (λ z. IsGraph z.nodes.items) (sym w.patterns) g.graph;
      rows = rows;
      lefts = subst (λ z. KnowsLefts number z.nodes.items wide.lefts.items) (sym w.patterns) (lefts-kept number _ _ _ tells lefts);
      starts = subst (λ z. KnowsStarts number section pattern z.nodes.items wide.starts.items) (sym w.patterns) (subst (λ z. KnowsStarts number section pattern one.patterns.nodes.items z.items) (sym w.starts) starts);
    }

pub ready-started : {S C : Type 0} (number : S → ℕ) (section : C → ℕ) (pattern : C → Pattern S) (all : List C) (m one wide two : Machine) (c : C) (i at : ℕ) → IsListed section all →
    IsReady number section pattern m → Grown m.patterns.nodes.items one.patterns.nodes.items at → Denotes number one.patterns.nodes.items at (pattern c) →
    one.lefts ≡ m.lefts → one.starts ≡ m.starts → i ≡ section c → HasRows wide → TellsNoMore one.lefts.items wide.lefts.items → KeepsOthers one wide →
    two.patterns ≡ wide.patterns → two.lefts ≡ wide.lefts → two.starts.items ≡ set wide.starts.items i (Some at) → IsReady number section pattern two
ready-started number section pattern all m one wide two c i at listed r g d left_same starts_same e rows tells w patterns lefts s =
    let ready = ready-wide number section pattern m one wide at r g left_same starts_same rows tells w in
    let within = subst (λ z. at < length z.nodes.items) (sym w.patterns) g.within in
    let there = subst (λ z. Denotes number z.nodes.items at (pattern c)) (sym w.patterns) d in
    let starts = starts-noted number section pattern all wide.patterns.nodes.items wide.starts.items two.starts.items c at listed ready.starts within there (s ∙ ap (λ z. set wide.starts.items z (Some at)) e) in
    record {
      graph = subst (λ z. IsGraph z.nodes.items) (sym patterns) ready.graph;
      rows = subst (λ z. length z.nodes.items * 64 ≤ length two.lefts.items) (sym patterns) (subst (λ z. length wide.patterns.nodes.items * 64 ≤ length z.items) (sym lefts) rows);
      lefts = subst (λ z. KnowsLefts number z.nodes.items two.lefts.items) (sym patterns) (subst (λ z. KnowsLefts number wide.patterns.nodes.items z.items) (sym lefts) ready.lefts);
      starts = subst (λ z. KnowsStarts number section pattern z.nodes.items two.starts.items) (sym patterns) starts;
    }

-- What one more node leads to, where rows are made.
pub grown-wide : (old : List Node) (one wide : Machine) (at : ℕ) → Grown old one.patterns.nodes.items at → KeepsOthers one wide → Grown old wide.patterns.nodes.items at
grown-wide old one wide at g w = subst (λ z. Grown old z.nodes.items at) (sym w.patterns) g

pub ready-noted : {S C : Type 0} (number : S → ℕ) (section : C → ℕ) (pattern : C → Pattern S) (all : List S) (m one wide two : Machine) (sort : S) (i : ℕ) (rest : Rest) → IsListed number all →
    length all ≤ 64 → IsReady number section pattern m → m.at < length m.patterns.nodes.items →
    Leaves number sort m.patterns.nodes.items one.patterns.nodes.items m.at rest.node → IsStanding number one.patterns.nodes.items rest.node rest.standing →
    one.lefts ≡ m.lefts → one.starts ≡ m.starts → one.at ≡ m.at → i ≡ number sort → HasRows wide → TellsNoMore one.lefts.items wide.lefts.items → KeepsOthers one wide →
    Notes wide.lefts.items two.lefts.items (wide.at * 64 + i) rest → length two.lefts.items ≡ length wide.lefts.items → KeepsOthers wide two → IsReady number section pattern two
ready-noted number section pattern all m one wide two sort i rest listed few r within l stands left_same starts_same at_same e rows tells w n count k =
    let ready = ready-wide number section pattern m one wide rest.node r l.grown left_same starts_same rows tells w in
    let known = subst (λ z. KnowsLefts number z.nodes.items wide.lefts.items) w.patterns ready.lefts in
    let noted = subst (λ z. Notes wide.lefts.items two.lefts.items (m.at * 64 + z) rest) e (subst (λ z. Notes wide.lefts.items two.lefts.items (z * 64 + i) rest) (w.at ∙ at_same) n) in
    let lefts = lefts-noted number all one.patterns.nodes.items wide.lefts.items two.lefts.items sort m.at rest listed few known
    (omega (arith, within, length-extends _ _ l.grown.extends)) l.grown.within
    (λ p d. l.is p (denotes-before number _ _ r.graph l.grown.extends m.at p within d)) stands noted in
    record {
      graph = subst (λ z. IsGraph z.nodes.items) (sym k.patterns) ready.graph;
      rows = subst (λ z. length z.nodes.items * 64 ≤ length two.lefts.items) (sym k.patterns) (subst (λ z. length wide.patterns.nodes.items * 64 ≤ z) (sym count) rows);
      lefts = subst (λ z. KnowsLefts number z.nodes.items two.lefts.items) (sym k.patterns) (subst (λ z. KnowsLefts number z.nodes.items two.lefts.items) (sym w.patterns) lefts);
      starts = subst (λ z. KnowsStarts number section pattern z.nodes.items two.starts.items) (sym k.patterns) (subst (λ z. KnowsStarts number section pattern wide.patterns.nodes.items z.items) (sym k.starts) ready.starts);
    }

-- ## the word

-- A reader before a word, and what is left of its pattern after it.
pub record Before {S C K : Type 0} (number : S → ℕ) (all : List S) (pattern : C → Pattern S) (f : Format Token S K) (holds : List (List Token) → Type 0)
    (old new : List Node) (at rest : ℕ) (units : List (List Token)) (part : List Token) (w : Token) : Type 0 where
  pub listed : IsListed number all
  pub regular : IsRegular all pattern f
  pub stands : StandsAt number pattern f holds old at units part
  pub leaves : Leaves number (f.sort units w) old new at rest

pub before : {S C K : Type 0} (number : S → ℕ) (all : List S) (pattern : C → Pattern S) (f : Format Token S K) (holds : List (List Token) → Type 0)
    (old new : List Node) (at rest : ℕ) (units : List (List Token)) (part : List Token) (w : Token) (s : S) →
    IsListed number all → IsRegular all pattern f → s ≡ f.sort units w → StandsAt number pattern f holds old at units part → Leaves number s old new at rest →
    Before number all pattern f holds old new at rest units part w
before number all pattern f holds old new at rest units part w s h r e a l = record {
  listed = h;
  regular = r;
  stands = a;
  leaves = subst (λ z. Leaves number z old new at rest) e l;
}

pub denotes_after : {S C K : Type 0} (number : S → ℕ) (all : List S) (pattern : C → Pattern S) (f : Format Token S K) (holds : List (List Token) → Type 0)
    (old new : List Node) (at rest : ℕ) (units : List (List Token)) (part : List Token) (w : Token) →
    (b : Before number all pattern f holds old new at rest units part w) →
    Denotes number new rest (lefts (f.sort units) (pattern b.stands.section) (part ++ w ∷ []))
denotes_after number all pattern f holds old new at rest units part w b =
    subst (λ z. Denotes number new rest z) (sym (lefts-more (f.sort units) (pattern b.stands.section) part w))
    (b.leaves.is (lefts (f.sort units) (pattern b.stands.section) part) b.stands.rest)

pub step-syntax : {S C K : Type 0} (number : S → ℕ) (all : List S) (pattern : C → Pattern S) (f : Format Token S K) (holds : List (List Token) → Type 0)
    (old new : List Node) (at rest : ℕ) (units : List (List Token)) (part : List Token) (w : Token) →
    Before number all pattern f holds old new at rest units part w → ((p : Pattern S) → Denotes number new rest p → p ≡ Never) →
    Begins (f.sort units) (f.follow units) (part ++ w ∷ []) → ⊥
step-syntax number all pattern f holds old new at rest units part w b never begins =
    rest-never (f.sort units) (pattern b.stands.section) (part ++ w ∷ []) (never _ (denotes_after number all pattern f holds old new at rest units part w b))
    (subst (λ z. Begins (f.sort units) z (part ++ w ∷ [])) b.stands.follow begins)

pub step-begins : {S C K : Type 0} (number : S → ℕ) (all : List S) (pattern : C → Pattern S) (f : Format Token S K) (holds : List (List Token) → Type 0)
    (old new : List Node) (at rest : ℕ) (units : List (List Token)) (part : List Token) (w : Token) →
    Before number all pattern f holds old new at rest units part w → ((p : Pattern S) → Denotes number new rest p → p ≡ Never → ⊥) →
    Begins (f.sort units) (f.follow units) (part ++ w ∷ [])
step-begins number all pattern f holds old new at rest units part w b some =
    let c = b.regular.place units in
    let same : pattern b.stands.section ≡ pattern c = sym b.stands.follow ∙ b.regular.follow units in
    subst (λ z. Begins (f.sort units) z (part ++ w ∷ [])) (sym (b.regular.follow units))
    (rest-some (f.sort units) all (b.regular.usable c) (b.regular.samples units) (pattern c) (part ++ w ∷ [])
    (b.regular.units c).solid (subst (λ z. lefts (f.sort units) z (part ++ w ∷ []) ≡ Never → ⊥) same (some _ (denotes_after number all pattern f holds old new at rest units part w b))))

pub open-not-end : {S C K : Type 0} (number : S → ℕ) (all : List S) (pattern : C → Pattern S) (f : Format Token S K) (holds : List (List Token) → Type 0)
    (old new : List Node) (at rest : ℕ) (units : List (List Token)) (part : List Token) (w : Token) →
    Before number all pattern f holds old new at rest units part w → Begins (f.sort units) (f.follow units) (part ++ w ∷ []) →
    (Matches (f.sort units) (f.follow units) (part ++ w ∷ []) → ⊥) → w.form ≡ End → ⊥
open-not-end number all pattern f holds old new at rest units part w b begins goes_on end =
    let unit = b.regular.units b.stands.section in
    let m : Matches (f.sort units) (pattern b.stands.section) (part ++ w ∷ begins.0) =
    subst (λ z. Matches (f.sort units) (pattern b.stands.section) z) (append_assoc part (w ∷ []) begins.0)
    (subst (λ z. Matches (f.sort units) z ((part ++ w ∷ []) ++ begins.0)) b.stands.follow begins.1) in
    let none : begins.0 ≡ [] = last (f.sort units) b.regular.end (pattern b.stands.section) unit.comes_last part begins.0 w (b.regular.ends units w end) m in
    goes_on (subst (λ z. Matches (f.sort units) (f.follow units) z) (append-nil (part ++ w ∷ []))
    (subst (λ z. Matches (f.sort units) (f.follow units) ((part ++ w ∷ []) ++ z)) none begins.1))

pub none-more : {S K : Type 0} (f : Format Token S K) (units : List (List Token)) (before part : List Token) (w : Token) →
    NoneShows f units before part → IsFine f units ((before ++ part) ++ w ∷ []) → NoneShows f units before (part ++ w ∷ [])
none-more f units before [] w h k = (subst (λ z. IsFine f units (z ++ w ∷ [])) (append-nil before) k, tt)
none-more f units before (v ∷ part) w h k =
    (h.0, none-more f units (before ++ v ∷ []) part w h.1 (subst (λ z. IsFine f units (z ++ w ∷ [])) (sym (append_assoc before (v ∷ []) part)) k))

pub stands-start : {S C K : Type 0} (number : S → ℕ) (pattern : C → Pattern S) (f : Format Token S K) (holds : List (List Token) → Type 0) (nodes : List Node) (at : ℕ) (units : List (List Token)) →
    holds units → StartsAt number pattern f nodes at units → StandsAt number pattern f holds nodes at units []
stands-start number pattern f holds nodes at units h s = record { held = h; section = s.0; follow = s.1; rest = s.2; fine = tt }

pub stands-first : {S C K : Type 0} (number : S → ℕ) (pattern : C → Pattern S) (f : Format Token S K) (holds : List (List Token) → Type 0) (nodes : List Node) (at : ℕ) →
    holds [] → ((units : List (List Token)) → holds units → StartsAt number pattern f nodes at units) → StandsAt number pattern f holds nodes at [] []
stands-first number pattern f holds nodes at h s = stands-start number pattern f holds nodes at [] h (s [] h)

-- The place of a word of a list, and of the one after them.
pub place-before : {V : Type 0} (words : List (Heard V)) (i : ℕ) (heard : Heard V) (w : Token) → heard ≡ get_or words i heard → i < length words →
    place_in (map heard_token words ++ w ∷ []) None i ≡ Some heard.word.place
place-before [] i heard w e h = absurd (omega arith)
place-before {V} (x ∷ words) zero heard w e h = ap (λ (z : Heard V). Some z.word.place) (sym e)
place-before (x ∷ words) (suc i) heard w e h = place-before words i heard w e (omega arith)

pub place-after : {V : Type 0} (words : List (Heard V)) (i : ℕ) (w : Token) → length words ≤ i → i < length words + 1 →
    place_in (map heard_token words ++ w ∷ []) None i ≡ Some w.place
place-after [] zero w h k = refl
place-after [] (suc i) w h k = absurd (omega arith)
place-after (x ∷ words) zero w h k = absurd (omega arith)
place-after (x ∷ words) (suc i) w h k = place-after words i w (omega arith) (omega arith)

-- What is said of a slice is said of what it shows.
pub with-seen : {X : Type 0} (seen unit : List X) (A B : List X → Type 0) → seen ≡ unit → A unit → (A seen → B seen) → B unit
with-seen seen unit A B e a h = subst B e (h (subst A (sym e) a))

pub step-fault : {S K : Type 0} (f : Format Token S K) (units : List (List Token)) (part : List Token) (w : Token) (a : Found K) (place : Place) →
    Begins (f.sort units) (f.follow units) (part ++ w ∷ []) → f.fault units (part ++ w ∷ []) a → place_in (part ++ w ∷ []) None a.at ≡ Some place →
    Faulty f units part w place a.kind
step-fault f units part w a place b is at = record { begins = b; at = a.at; is = is; place_is = at }

pub fault-within : {S C K : Type 0} (number : S → ℕ) (all : List S) (pattern : C → Pattern S) (f : Format Token S K) (holds : List (List Token) → Type 0)
    (old new : List Node) (at rest : ℕ) (units : List (List Token)) (part : List Token) (w : Token) (a : Found K) →
    Before number all pattern f holds old new at rest units part w → Begins (f.sort units) (f.follow units) (part ++ w ∷ []) → f.fault units (part ++ w ∷ []) a → a.at < length (part ++ w ∷ [])
fault-within number all pattern f holds old new at rest units part w a b begins is = b.regular.orderly.near units (part ++ w ∷ []) a begins is

pub step-open : {S C K : Type 0} (number : S → ℕ) (all : List S) (pattern : C → Pattern S) (f : Format Token S K) (holds : List (List Token) → Type 0)
    (old new : List Node) (at rest : ℕ) (units : List (List Token)) (part : List Token) (w : Token) (after : List (List Token) → Type 0) →
    Before number all pattern f holds old new at rest units part w → ((p : Pattern S) → Denotes number new rest p → p ≡ Never → ⊥) →
    ((p : Pattern S) → Denotes number new rest p → false ≡ skips p) → IsFine f units (part ++ w ∷ []) → after units →
    GoesOn f (StandsAt number pattern f after new rest) units part w
step-open number all pattern f holds old new at rest units part w after b some no_skip fine held =
    let d = denotes_after number all pattern f holds old new at rest units part w b in
    let begins = step-begins number all pattern f holds old new at rest units part w b some in
    let goes_on : Matches (f.sort units) (f.follow units) (part ++ w ∷ []) → ⊥ =
    λ m. rest-goes_on (f.sort units) (pattern b.stands.section) (part ++ w ∷ []) (sym (no_skip _ d)) (subst (λ z. Matches (f.sort units) z (part ++ w ∷ [])) b.stands.follow m) in
    record {
      begins = begins;
      partly = goes_on;
      fine = fine;
      not_end = λ end. open-not-end number all pattern f holds old new at rest units part w b begins goes_on end;
      there = record {
        held = held;
        section = b.stands.section;
        follow = b.stands.follow;
        rest = d;
        fine = none-more f units [] part w b.stands.fine fine;
      };
    }

pub step-whole : {S C K : Type 0} (number : S → ℕ) (all : List S) (pattern : C → Pattern S) (f : Format Token S K) (holds : List (List Token) → Type 0)
    (old new : List Node) (at rest : ℕ) (units : List (List Token)) (part : List Token) (w : Token) (after : List (List Token) → Type 0) (later : List Node) (start : ℕ) →
    Before number all pattern f holds old new at rest units part w →
    ((p : Pattern S) → Denotes number new rest p → true ≡ skips p) → IsFine f units (part ++ w ∷ []) →
    (IsTaken f units (part ++ w ∷ []) → after (units ++ (part ++ w ∷ []) ∷ [])) →
    ((us : List (List Token)) → after us → StartsAt number pattern f later start us) →
    Closes f (StandsAt number pattern f after later start) units part w
step-whole number all pattern f holds old new at rest units part w after later start b skip fine take starts =
    let d = denotes_after number all pattern f holds old new at rest units part w b in
    let unit = b.regular.units b.stands.section in
    let m : Matches (f.sort units) (pattern b.stands.section) (part ++ w ∷ []) = rest-skips (f.sort units) (pattern b.stands.section) (part ++ w ∷ []) (sym (skip _ d)) in
    let matches : Matches (f.sort units) (f.follow units) (part ++ w ∷ []) = subst (λ z. Matches (f.sort units) z (part ++ w ∷ [])) (sym b.stands.follow) m in
    let held : after (units ++ (part ++ w ∷ []) ∷ []) = take (record { matches = matches; fine = none-more f units [] part w b.stands.fine fine }) in
    record {
      matches = matches;
      ends = λ x more. closed (f.sort units) all (each-listed number all b.listed) (pattern b.stands.section) unit.closes (part ++ w ∷ []) x m
          (subst (λ z. Matches (f.sort units) z ((part ++ w ∷ []) ++ x)) b.stands.follow more);
      fine = fine;
      there = stands-start number pattern f after later start (units ++ (part ++ w ∷ []) ∷ []) held (starts _ held);
    }

-- One more word of the open unit with what it says.
pub heard-more : {V : Type 0} (says : List Token → V → Type 0) (start : List Token) (unit : List (Heard V)) (last : Heard V) →
    AreHeard says start unit → says ((start ++ map heard_token unit) ++ heard_token last ∷ []) last.value → AreHeard says start (unit ++ last ∷ [])
heard-more says start [] last h k = (subst (λ z. says (z ++ heard_token last ∷ []) last.value) (append-nil start) k, tt)
heard-more says start (x ∷ unit) last h k = (
  h.0,
  heard-more says (start ++ heard_token x ∷ []) unit last h.1
      (subst (λ z. says (z ++ heard_token last ∷ []) last.value) (sym (append_assoc start (heard_token x ∷ []) (map heard_token unit))) k),
)

pub words-more : {V : Type 0} (unit : List (Heard V)) (last : Heard V) → map heard_token (unit ++ last ∷ []) ≡ map heard_token unit ++ heard_token last ∷ []
words-more [] last = refl
words-more (x ∷ unit) last = ap (λ z. heard_token x ∷ z) (words-more unit last)

-- A whole unit with its values is taken.
pub take-heard : {S K V : Type 0} (f : Format Token S K) (says : List Token → V → Type 0) (units : List (List Token)) (unit all : List (Heard V)) (last : Heard V) (after : List (List Token) → Type 0) →
    all ≡ unit ++ last ∷ [] → AreHeard says [] unit → says (map heard_token unit ++ heard_token last ∷ []) last.value →
    (IsTaken f units (map heard_token all) → AreHeard says [] all → after (units ++ map heard_token all ∷ [])) →
    IsTaken f units (map heard_token unit ++ heard_token last ∷ []) → after (units ++ (map heard_token unit ++ heard_token last ∷ []) ∷ [])
take-heard f says units unit all last after e heard said take taken =
    let same : map heard_token all ≡ map heard_token unit ++ heard_token last ∷ [] = ap (λ z. map heard_token z) e ∙ words-more unit last in
    subst (λ z. after (units ++ z ∷ [])) same
    (take (subst (λ z. IsTaken f units z) (sym same) taken) (subst (λ z. AreHeard says [] z) (sym e) (heard-more says [] unit last heard said)))
