-- Tests of patterns, which a computation decides: that units end where their words say so.
use Rattle.std.specs.Prelude.{Bool, true, false, ◌&&◌, ◌||◌, not, List, [], ◌∷◌, ◌≡◌, ℕ, slice_get, Some}
use Rattle.reading.specs.Pattern.{Pattern, Never, Empty, One, Then, Or, Many}

-- Whether no words are of the pattern's.
abbrev pub skips : {S : Type 0} → Pattern S → Bool
skips Never = false
skips Empty = true
skips (One class) = false
skips (Then p q) = skips p && skips q
skips (Or p q) = skips p || skips q
skips (Many p) = true

-- Whether some words of the pattern begin with a word of the sort.
abbrev pub first : {S : Type 0} → S → Pattern S → Bool
first s Never = false
first s Empty = false
first s (One class) = class s
first s (Then p q) = first s p || (skips p && first s q)
first s (Or p q) = first s p || first s q
first s (Many p) = first s p

-- None of these sorts begins both.
abbrev pub apart : {S : Type 0} → List S → Pattern S → Pattern S → Bool
apart [] p q = true
apart (s ∷ sorts) p q = not (first s p && first s q) && apart sorts p q

-- One of these sorts is in both classes.
abbrev pub meet : {S : Type 0} → List S → (S → Bool) → (S → Bool) → Bool
meet [] a b = false
meet (s ∷ sorts) a b = (a s && b s) || meet sorts a b

-- No part of the pattern is without words, where the usable ones of the sorts have words.
abbrev pub solid : {S : Type 0} → List S → (S → Bool) → Pattern S → Bool
solid sorts usable Never = false
solid sorts usable Empty = true
solid sorts usable (One class) = meet sorts usable class
solid sorts usable (Then p q) = solid sorts usable p && solid sorts usable q
solid sorts usable (Or p q) = solid sorts usable p && solid sorts usable q
solid sorts usable (Many p) = solid sorts usable p

-- No words of the pattern begin others of it: a repetition and a choice end where the next word says so.
abbrev pub closes : {S : Type 0} → List S → Pattern S → Bool
closes sorts Never = true
closes sorts Empty = true
closes sorts (One class) = true
closes sorts (Then (Many p) q) = closes sorts p && not (skips p) && closes sorts q && not (skips q) && apart sorts p q
closes sorts (Then p q) = closes sorts p && closes sorts q
closes sorts (Or p q) = closes sorts p && not (skips p) && closes sorts q && not (skips q) && apart sorts p q
closes sorts (Many p) = false

-- No word of the sort is in words of the pattern.
abbrev pub avoids : {S : Type 0} → S → Pattern S → Bool
avoids s Never = true
avoids s Empty = true
avoids s (One class) = not (class s)
avoids s (Then p q) = avoids s p && avoids s q
avoids s (Or p q) = avoids s p && avoids s q
avoids s (Many p) = avoids s p

-- A word of the sort can only be the last of the pattern's words.
abbrev pub comes_last : {S : Type 0} → S → Pattern S → Bool
comes_last s Never = true
comes_last s Empty = true
comes_last s (One class) = true
comes_last s (Then p q) = avoids s p && comes_last s q
comes_last s (Or p q) = comes_last s p && comes_last s q
comes_last s (Many p) = avoids s p

-- Each sort is among these.
abbrev pub IsEach : {S : Type 0} → List S → Type 0
IsEach {S} all = (s : S) → (i : ℕ) × (slice_get all i ≡ Some s)

-- Each usable sort has a word.
abbrev pub HasSamples : {W S : Type 0} → (W → S) → (S → Bool) → Type 0
HasSamples {W} {S} sort usable = (s : S) → usable s ≡ true → (w : W) × (sort w ≡ s)
