-- Where the engine stands in a text.
use Rattle.std.specs.Prelude.{◌≡◌, ℕ, Bool, false, List, [], ◌∷◌, ◌++◌, Result, Ok, Err}
use Rattle.reading.specs.Reader.{Takes}
use Rattle.reading.specs.declared.patterns.Node.{Node}
use Rattle.reading.specs.Pattern.{Pattern}
use Rattle.reading.specs.inside.Patterns.{Denotes}
use Rattle.reading.specs.Reading.{Format}
use Rattle.reading.specs.Word.{Token}
use Rattle.reading.specs.declared.word.Heard.{Heard}
use Rattle.reading.specs.inside.Left.{lefts}
use Rattle.reading.specs.Grammar.{AreHeard, NoneShows}
use Rattle.reading.specs.declared.stop.Step.{Step}
use Rattle.reading.specs.declared.stop.Step.TheVariants.{Open, Whole}
use Rattle.outside.specs.declared.place.Place.{Place}
use Rattle.reading.specs.declared.stop.Stop.{Stop}
use Rattle.reading.specs.declared.refusal.Cause.TheVariants.{Syntax, Fault}
use Rattle.reading.specs.declared.refusal.Refusal.{Refusal}
use Rattle.reading.specs.declared.refusal.Refusal.TheVariants as refusals
use Rattle.reading.specs.declared.stop.Stop.TheVariants as stops

-- The node of the pattern of what may follow these units.
abbrev pub StartsAt : {S C K : Type 0} → (S → ℕ) → (C → Pattern S) → Format Token S K → List Node → ℕ →
    List (List Token) → Type 0
StartsAt {C = C} number pattern f nodes at units =
    (c : C) × (f.follow units ≡ pattern c) × Denotes number nodes at (pattern c)

-- What the whole units lead to, and that each word of the open unit says the value that was made of it.
abbrev pub HoldsHeard : {V : Type 0} → (List (List Token) → Type 0) → (List (List Token) → List Token → V → Type 0) →
    List (Heard V) → List (List Token) → Type 0
HoldsHeard holds says unit units = holds units × AreHeard (says units) [] unit

-- Where the loop stands: what has been read of the whole units, and what is left of the open one's pattern.
pub record StandsAt {S C K : Type 0} (number : S → ℕ) (pattern : C → Pattern S) (f : Format Token S K)
    (holds : List (List Token) → Type 0)
    (nodes : List Node) (at : ℕ) (units : List (List Token)) (part : List Token) : Type 0 where
  pub held : holds units
  pub section : C
  pub follow : f.follow units ≡ pattern section
  pub rest : Denotes number nodes at (lefts (f.sort units) (pattern section) part)
  pub fine : NoneShows f units [] part

-- The unit's words so far stand after some whole units where the loop stands.
abbrev pub Stands : {S C K : Type 0} → (S → ℕ) → (C → Pattern S) → Format Token S K → (List (List Token) → Type 0) →
    List Node → ℕ → List Token → Type 0
Stands number pattern f holds nodes at part = (units : List (List Token))
    × StandsAt number pattern f holds nodes at units part

-- The words of the open unit after a word.
abbrev pub part_after : Step → List Token → List Token
part_after Open part = part
part_after Whole part = []

-- The refusal at a word of this place.
abbrev pub Names : {K : Type 0} → Place → Stop K → Refusal K → Type 0
Names place stops.Want r = r ≡ refusals.Want
Names place stops.Syntax r = r ≡ refusals.At place Syntax
Names place (stops.Fault at k) r = r ≡ refusals.At at (Fault k)

-- The word makes a unit whole, and the units have ended the text.
abbrev pub ends_by : Step → Bool → Bool
ends_by Open ends = false
ends_by Whole ends = ends

-- What reading the end gives, as the last word of the text.
abbrev pub Finishes : {A S K : Type 0} → Format Token S K → (List (List Token) → List Token → Type 0) →
    List (List Token) → List Token → Token → Result A (Refusal K) → Type 0
Finishes f stands units part w (Ok x) = (step : Step) × Takes f stands units part w (Ok step)
Finishes {K = K} f stands units part w (Err refusal) =
    (stop : Stop K) × Takes f stands units part w (Err stop) × Names w.place stop refusal
