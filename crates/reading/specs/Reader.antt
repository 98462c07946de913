-- What one more word makes of what has been read.
use Rattle.std.specs.Prelude.{◌≡◌, List, [], ◌∷◌, ◌++◌, ℕ, Some, None, Result, Ok, Err}
use Rattle.reading.specs.Pattern.{Matches, Begins}
use Rattle.reading.specs.declared.word.Form.TheVariants.{End}
use Rattle.reading.specs.Reading.{Format, IsFine}
use Rattle.reading.specs.Word.{Token, place_in}
use Rattle.outside.specs.declared.place.Place.{Place}
use Rattle.reading.specs.declared.stop.Step.{Step}
use Rattle.reading.specs.declared.stop.Step.TheVariants.{Open, Whole}
use Rattle.reading.specs.declared.stop.Stop.{Stop}
use Rattle.reading.specs.declared.stop.Stop.TheVariants as stops

-- The unit goes on after the word.
pub record GoesOn {S K : Type 0} (f : Format Token S K) (stands : List (List Token) → List Token → Type 0)
    (units : List (List Token)) (part : List Token) (w : Token) : Type 0 where
  pub begins : Begins (f.sort units) (f.follow units) (part ++ w ∷ [])
  pub partly : Matches (f.sort units) (f.follow units) (part ++ w ∷ []) → ⊥
  pub fine : IsFine f units (part ++ w ∷ [])
  pub not_end : w.form ≡ End → ⊥
  pub there : stands units (part ++ w ∷ [])

-- The unit is whole with the word.
pub record Closes {S K : Type 0} (f : Format Token S K) (stands : List (List Token) → List Token → Type 0)
    (units : List (List Token)) (part : List Token) (w : Token) : Type 0 where
  pub matches : Matches (f.sort units) (f.follow units) (part ++ w ∷ [])
  pub ends : (x : List Token) → Matches (f.sort units) (f.follow units) ((part ++ w ∷ []) ++ x) → x ≡ []
  pub fine : IsFine f units (part ++ w ∷ [])
  pub there : stands (units ++ (part ++ w ∷ []) ∷ []) []

-- The words up to this one show a fault of the word at this place.
pub record Faulty {S K : Type 0} (f : Format Token S K) (units : List (List Token)) (part : List Token) (w : Token)
    (place : Place) (k : K) : Type 0 where
  pub begins : Begins (f.sort units) (f.follow units) (part ++ w ∷ [])
  pub at : ℕ
  pub is : f.fault units (part ++ w ∷ []) (record { at = at; kind = k })
  pub place_is : place_in (part ++ w ∷ []) None at ≡ Some place

-- What the word does to the open unit.
abbrev pub Takes : {S K : Type 0} → Format Token S K → (List (List Token) → List Token → Type 0) →
    List (List Token) → List Token → Token → Result Step (Stop K) → Type 0
Takes f stands units part w (Ok Open) = GoesOn f stands units part w
Takes f stands units part w (Ok Whole) = Closes f stands units part w
Takes f stands units part w (Err stops.Want) = Unit {0}
Takes f stands units part w (Err stops.Syntax) = Begins (f.sort units) (f.follow units) (part ++ w ∷ []) → ⊥
Takes f stands units part w (Err (stops.Fault place k)) = Faulty f units part w place k
