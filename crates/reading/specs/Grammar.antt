-- What a format supplies.
use Rattle.std.specs.Prelude.{◌≡◌, Bool, true, false, List, ◌⊎◌, [], ◌∷◌, ◌++◌, Option, Some, None, Result, Ok, Err}
use Rattle.reading.specs.Pattern.{Pattern, Never, Matches}
use Rattle.reading.specs.Tests.{solid, closes, comes_last, HasSamples}
use Rattle.reading.specs.declared.word.Form.TheVariants.{End}
use Rattle.reading.specs.Reading.{Format, IsOrderly, IsFine}
use Rattle.reading.specs.Word.{Token, heard_token}
use Rattle.reading.specs.declared.word.Heard.{Heard}
use Rattle.reading.specs.declared.refusal.Found.{Found}

-- A pattern whose units end where their words say so: none begins another, and the end of the text is the last word.
pub record IsUnit {S : Type 0} (sorts : List S) (usable : S → Bool) (end : S) (p : Pattern S) : Type 0 where
  pub solid : (p ≡ Never) ⊎ (solid sorts usable p ≡ true)
  pub closes : closes sorts p ≡ true
  pub comes_last : comes_last end p ≡ true

-- What a format owes: of each section which sorts have words in it, the sort of the end of the text, patterns that end
-- where their words say so, and faults in order.
pub record IsRegular {S C K : Type 0} (sorts : List S) (pattern : C → Pattern S) (f : Format Token S K) : Type 0 where
  pub usable : C → S → Bool
  -- The section after these units.
  pub place : List (List Token) → C
  pub follow : (units : List (List Token)) → f.follow units ≡ pattern (place units)
  pub samples : (units : List (List Token)) → HasSamples (f.sort units) (usable (place units))
  pub end : S
  pub ends : (units : List (List Token)) (w : Token) → w.form ≡ End → f.sort units w ≡ end
  -- A text does not end before its first unit.
  pub begun : f.ends [] ≡ false
  pub units : (c : C) → IsUnit sorts (usable c) end (pattern c)
  pub orderly : IsOrderly f

-- After these words of the open unit none of the next ones shows a fault.
abbrev pub NoneShows : {S K : Type 0} → Format Token S K → List (List Token) → List Token → List Token → Type 0
NoneShows f units before [] = Unit {0}
NoneShows f units before (w ∷ words) = IsFine f units (before ++ w ∷ []) × NoneShows f units (before ++ w ∷ []) words

-- The words are a whole unit after these, and none of them has shown a fault.
pub record IsTaken {S K : Type 0} (f : Format Token S K) (units : List (List Token)) (part : List Token) : Type 0 where
  pub matches : Matches (f.sort units) (f.follow units) part
  pub fine : NoneShows f units [] part

-- After these words of the open unit each of the next ones says the value that was made of it.
abbrev pub AreHeard : {V : Type 0} → (List Token → V → Type 0) → List Token → List (Heard V) → Type 0
AreHeard says before [] = Unit {0}
AreHeard says before (heard ∷ more) =
    says (before ++ heard_token heard ∷ []) heard.value × AreHeard says (before ++ heard_token heard ∷ []) more

-- What the last of the open unit's words so far says, where these words show no fault; or the fault that they show.
abbrev pub Tells : {S K V : Type 0} → Format Token S K → (List Token → V → Type 0) → List (List Token) → List Token →
    Result V (Found K) → Type 0
Tells f says units part (Ok value) = IsFine f units part × says part value
Tells f says units part (Err found) = f.fault units part found
