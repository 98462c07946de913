-- Whole units without a fault, one after the other: what a text is made of that is written to be read.
use Rattle.std.specs.Prelude.{◌<◌, List, [], ◌∷◌, ◌++◌, length}
use Rattle.reading.specs.Grammar.{IsTaken}
use Rattle.reading.specs.Reading.{Format}
use Rattle.reading.specs.Word.{Token}

-- Each of the units has a word, may follow those before it, and none of its words shows a fault.
abbrev pub AreTaken : {S K : Type 0} → Format Token S K → List (List Token) → List (List Token) → Type 0
AreTaken f before [] = Unit {0}
AreTaken f before (u ∷ us) = (0 < length u) × IsTaken f before u × AreTaken f (before ++ u ∷ []) us
