-- What reading a whole text gives.
use Rattle.std.specs.Prelude.{◌≡◌, ℕ, ◌≤◌, ◌⊎◌, Some, List, length, Result, Ok, Err}
use Rattle.outside.specs.declared.place.Place.{Place}
use Rattle.reading.specs.Pattern.{joined}
use Rattle.reading.specs.declared.refusal.Cause.{Cause}
use Rattle.reading.specs.declared.refusal.Refusal.{Refusal}
use Rattle.reading.specs.Reading.{Format, Text, IsRefused, IsRead, IsEnding, GoesPast, EndsFirst}
use Rattle.reading.specs.Word.{Token, place_in, ended_text, seen_text}
use Rattle.text_lex.specs.declared.word.Mode.{Mode}
use Rattle.text_lex.specs.Split.{Split, IsSplit}
use Rattle.text_lex.specs.declared.word.Mode.TheVariants.{LefDef, Lines}
use Rattle.text_lex.specs.declared.word.LexKind.TheVariants.{BadString}
use Rattle.reading.specs.declared.refusal.Cause.TheVariants.{Lex}
use Rattle.reading.specs.declared.refusal.Refusal.TheVariants as refusals

-- What is read of the text, up to the word that has n words before it: all of it, where it goes on after that word; or
-- up to the first units that end it, and then, one word after them, the end.
abbrev pub Hears : {S K : Type 0} → Format Token S K → Text Token → ℕ → Text Token → Type 0
Hears f text n heard =
    (GoesPast f text n × (heard ≡ text))
    ⊎ ((units : List (List Token)) × IsEnding f text units × EndsFirst f text units × (length (joined units) ≤ n)
    × (heard ≡ ended_text (joined units)))

-- The text, as far as it is read, is refused at the word of this place.
abbrev pub IsRefusedAt : {S K : Type 0} → Format Token S K → Text Token → Place → Cause K → Type 0
IsRefusedAt f text place cause =
    (n : ℕ) × (heard : Text Token) × Hears f text n heard × IsRefused f heard n cause
    × (place_in heard.words heard.refused n ≡ Some place)

-- The text, as far as it is read, is these whole units up to its end.
abbrev pub IsReadAs : {S K : Type 0} → Format Token S K → Text Token → List (List Token) → Type 0
IsReadAs f text units = (heard : Text Token) × Hears f text (length heard.words) heard × IsRead f heard units

-- The one refusal of the text, at its word's place; want of memory aside.
abbrev pub Refuses : {S K : Type 0} → Format Token S K → Text Token → Refusal K → Type 0
Refuses f text refusals.Want = Unit {0}
Refuses f text (refusals.At place cause) = IsRefusedAt f text place cause

-- What reading a whole text gives: the one list of whole units, of which something holds, or the one refusal.
abbrev pub Gives : {A S K : Type 0} → Format Token S K → (List (List Token) → Type 0) → Text Token →
    Result A (Refusal K) → Type 0
Gives f holds text (Ok x) = (units : List (List Token)) × IsReadAs f text units × holds units
Gives f holds text (Err refusal) = Refuses f text refusal

-- What reading the bytes of a text gives, which are split in this mode.
abbrev pub Reads : {A S K : Type 0} → Mode → List ℕ → Format Token S K → (List (List Token) → Type 0) →
    Result A (Refusal K) → Type 0
Reads mode bytes f holds result = (split : Split) × IsSplit mode bytes split × Gives f holds (seen_text split) result

-- The refusals that texts of the mode have: in lines no word is refused for itself, and in LEF and DEF none for a
-- substitution.
abbrev pub FitsMode : {K : Type 0} → Mode → Refusal K → Type 0
FitsMode Lines (refusals.At place (Lex kind)) = ⊥
FitsMode LefDef (refusals.At place (Lex kind)) = kind ≡ BadString
FitsMode mode refusal = Unit {0}
