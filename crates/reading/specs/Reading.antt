-- What it is to read a text: lists of whole units, starts, faults and refusals.
use Rattle.std.specs.Prelude.{◌≡◌, ℕ, ◌+◌, ◌<◌, ◌≤◌, Bool, true, List, [], ◌∷◌, ◌++◌, length, take, Option, Some}
use Rattle.reading.specs.Pattern.{Pattern, Matches, Begins, joined}
use Rattle.reading.specs.declared.refusal.Found.{Found}
use Rattle.text_lex.specs.declared.word.LexError.{LexError}
use Rattle.reading.specs.declared.refusal.Cause.{Cause}
use Rattle.reading.specs.declared.refusal.Cause.TheVariants.{Syntax, Lex, Fault}

-- A text format over words W of sorts S, with the kinds of refusal K besides Syntax.
pub record Format (W S K : Type 0) : Type 1 where
  -- The sort of a word, after these units.
  pub sort : List (List W) → W → S
  -- Which units may follow these.
  pub follow : List (List W) → Pattern S
  -- After these units, the last of the open unit's words so far shows this fault. Where there are several, it is the
  -- one at the earliest word, and there the first in the order of the kinds. A sign, a range or a count that a pattern
  -- leaves out is a fault too.
  pub fault : List (List W) → List W → Found K → Type 0
  -- Whether these units end the text: nothing after them is read, whatever bytes follow.
  pub ends : List (List W) → Bool

-- The words of the open unit show no fault.
abbrev pub IsFine : {W S K : Type 0} → Format W S K → List (List W) → List W → Type 0
IsFine {K = K} f units part = (a : Found K) → f.fault units part a → ⊥

-- A text in words: all of them, where the end of the text counts as a last one, or those before a word that is refused
-- for itself.
pub record Text (W : Type 0) : Type 0 where
  pub words : List W
  pub refused : Option LexError

-- Each of the units has a word, and may follow those before it.
abbrev pub Follows : {W S K : Type 0} → Format W S K → List (List W) → List (List W) → Type 0
Follows f before [] = Unit {0}
Follows f before (u ∷ us) = (0 < length u) × Matches (f.sort before) (f.follow before) u
    × Follows f (before ++ u ∷ []) us

-- The words, after these units, are whole units and then the first words of one that may follow, at least one word.
pub record Start {W S K : Type 0} (f : Format W S K) (before : List (List W)) (words : List W) : Type 0 where
  pub units : List (List W)
  pub part : List W
  pub whole : Follows f before units
  pub begins : Begins (f.sort (before ++ units)) (f.follow (before ++ units)) part
  pub some : 0 < length part
  pub is : words ≡ joined units ++ part

-- The words are a start of a text.
abbrev pub IsStart : {W S K : Type 0} → Format W S K → List W → Type 0
IsStart f words = Start f [] words

-- The words are a start with the fault of this kind, at the word that has n words before it.
abbrev pub HasFault : {W S K : Type 0} → Format W S K → List W → ℕ → K → Type 0
HasFault f words n k = (s : Start f [] words) × (at : ℕ) × f.fault s.units s.part (record { at = at; kind = k })
    × (n ≡ length (joined s.units) + at)

-- The text is refused at the word that has n words before it: Syntax at the least n such that the first n + 1 words are
-- no start, a kind of the format's where some first words are a start with that fault there, a word that is refused for
-- itself after all others.
abbrev pub CauseAt : {W S K : Type 0} → Format W S K → Text W → ℕ → Cause K → Type 0
CauseAt f text n Syntax =
    (n < length text.words) × ((m : ℕ) → m < n → IsStart f (take (m + 1) text.words))
    × (IsStart f (take (n + 1) text.words) → ⊥)
CauseAt f text n (Lex kind) = (n ≡ length text.words) × (error : LexError) × (text.refused ≡ Some error)
    × (kind ≡ error.kind)
CauseAt f text n (Fault k) = (m : ℕ) × (m < length text.words) × HasFault f (take (m + 1) text.words) n k

-- The one refusal of the text: no cause is earlier, and no other is at that word.
pub record IsRefused {W S K : Type 0} (f : Format W S K) (text : Text W) (n : ℕ) (cause : Cause K) : Type 0 where
  pub is : CauseAt f text n cause
  pub least : (m : ℕ) (other : Cause K) → CauseAt f text m other → n ≤ m
  pub one : (other : Cause K) → CauseAt f text n other → other ≡ cause

-- The text is these whole units up to its end and no others, and nothing refuses it.
pub record IsRead {W S K : Type 0} (f : Format W S K) (text : Text W) (units : List (List W)) : Type 0 where
  pub whole : Follows f [] units
  pub is : text.words ≡ joined units
  pub only : (others : List (List W)) → Follows f [] others → text.words ≡ joined others → others ≡ units
  pub clean : (n : ℕ) (cause : Cause K) → CauseAt f text n cause → ⊥

-- What a format owes of its faults: one of a start stands in its last unit, and the longer that grows the later it
-- stands.
pub record IsOrderly {W S K : Type 0} (f : Format W S K) : Type 0 where
  pub near : (units : List (List W)) (part : List W) (a : Found K) →
      Begins (f.sort units) (f.follow units) part → f.fault units part a → a.at < length part
  pub order : (units : List (List W)) (part more : List W) (a b : Found K) →
      Begins (f.sort units) (f.follow units) (part ++ more) →
      f.fault units part a → f.fault units (part ++ more) b → (a.at ≤ b.at) × (a.at ≡ b.at → b.kind ≡ a.kind)

-- These units stand at the front of the text, and end it.
pub record IsEnding {W S K : Type 0} (f : Format W S K) (text : Text W) (units : List (List W)) : Type 0 where
  pub whole : Follows f [] units
  pub ends : f.ends units ≡ true
  pub rest : List W
  pub is : text.words ≡ joined units ++ rest

-- The text goes on after its word that has n words before it: all units that end it have more words.
abbrev pub GoesPast : {W S K : Type 0} → Format W S K → Text W → ℕ → Type 0
GoesPast {W} f text n = (units : List (List W)) → IsEnding f text units → n < length (joined units)

-- No fewer words of the text are units that end it.
abbrev pub EndsFirst : {W S K : Type 0} → Format W S K → Text W → List (List W) → Type 0
EndsFirst {W} f text units = (others : List (List W)) → IsEnding f text others →
    length (joined units) ≤ length (joined others)
