-- The faults of a technology: numbers that are refused, names that stand twice or are not known, tables that do not rise or
-- whose counts differ, sections that end with another name.
use Rattle.std.specs.Prelude.{◌≡◌, ◌<◌, ◌+◌, ◌⊎◌, ℕ, ℤ, ◌≤ℤ◌, Bool, false, List, [], ◌∷◌, map, Contains, Ok, Err}
use Rattle.fixed_decimal.specs.declared.error.DecimalError.TheVariants.{Range}
use Rattle.lef_statements.specs.Word.{is_word}
use Rattle.lef_tech.specs.declared.error.TechKind.{TechKind}
use Rattle.lef_tech.specs.declared.error.TechKind.TheVariants as kinds
use Rattle.lef_tech.specs.declared.question.Question.{Question}
use Rattle.lef_tech.specs.declared.question.Question.TheVariants.{Nothing, Number, Microns, Point, Value, AllValues, NewLayer, NewRule, KnownLayer, OwnName, Used}
use Rattle.lef_tech.specs.declared.state.State.{State}
use Rattle.lef_tech.specs.Known.{name_of}
use Rattle.lef_tech.specs.Number.{place_of}
use Rattle.lef_tech.specs.Question.{question_of}
use Rattle.lef_tech.specs.Shape.{shape_in}
use Rattle.lef_tech.specs.Turn.{state_of}
use Rattle.lef_tech.specs.declared.number.Quantity.{Quantity}
use Rattle.lef_tech.specs.declared.number.Quantity.TheVariants as quantities
use Rattle.number_place.specs.declared.place.Refused.{Refused}
use Rattle.number_place.specs.declared.place.Refused.TheVariants as refusals
use Rattle.number_place.specs.Place.{IsNumberAt}
use Rattle.reading.specs.declared.refusal.Found.{Found}
use Rattle.reading.specs.Word.{Token}

-- The kind of a number that is refused.
abbrev pub refused_kind : Refused → TechKind
refused_kind refusals.Syntax = kinds.Syntax
refused_kind (refusals.Number error) = kinds.Number error

-- The text is refused as a number of this kind, and so this is its kind.
abbrev pub NumberFault : Quantity → List ℕ → TechKind → Type 0
NumberFault quantity text kind = (refused : Refused) × IsNumberAt (place_of quantity) text (Err refused) × (kind ≡ refused_kind refused)

-- The kind of a count that is refused: one out of its range is Syntax.
abbrev pub count_kind : Refused → TechKind
count_kind (refusals.Number Range) = kinds.Syntax
count_kind refused = refused_kind refused

-- The units of a micrometre are refused: they are no whole number, or none from 1 to 20000.
abbrev pub MicronsFault : List ℕ → TechKind → Type 0
MicronsFault text kind =
    (refused : Refused) × IsNumberAt (place_of quantities.Microns) text (Err refused) × (kind ≡ count_kind refused)

-- A point of a table is not above the point before.
abbrev pub StandsBelow : Quantity → List ℕ → List ℕ → Type 0
StandsBelow quantity before point =
    (low : ℤ) × (high : ℤ) × IsNumberAt (place_of quantity) before (Ok low) × IsNumberAt (place_of quantity) point (Ok high) × (high ≤ℤ low)

-- A point of a table is refused.
abbrev pub PointFault : Quantity → List ℕ → List ℕ → TechKind → Type 0
PointFault quantity before point kind =
    NumberFault quantity point kind ⊎ ((kind ≡ kinds.BadTable) × StandsBelow quantity before point)

-- An entry of a table is refused, where so many points have none: none, and it is one too many.
abbrev pub ValueFault : Quantity → ℕ → List ℕ → TechKind → Type 0
ValueFault quantity left text kind =
    NumberFault quantity text kind
    ⊎ ((kind ≡ kinds.BadTable) × (left ≡ 0) × (value : ℤ) × IsNumberAt (place_of quantity) text (Ok value))

-- A table ends before each of its points has an entry.
abbrev pub TableEndFault : ℕ → TechKind → Type 0
TableEndFault left kind = (kind ≡ kinds.BadTable) × (0 < left)

-- The name stands already.
abbrev pub TwiceFault : Type 0 → TechKind → Type 0
TwiceFault Stands kind = (kind ≡ kinds.Twice) × Stands

-- No layer before has the name.
abbrev pub UnknownFault : Type 0 → TechKind → Type 0
UnknownFault Stands kind = (kind ≡ kinds.UnknownLayer) × (¬ Stands)

-- A section ends with another name than its own.
abbrev pub OwnNameFault : Bool → TechKind → Type 0
OwnNameFault is kind = (kind ≡ kinds.Syntax) × (is ≡ false)

-- The last word does not answer the question that is asked of it.
abbrev pub LastFault : State → Token → Question → TechKind → Type 0
LastFault state last (Number quantity) kind = NumberFault quantity last.text kind
LastFault state last Microns kind = MicronsFault last.text kind
LastFault state last (Point quantity) kind = PointFault quantity state.place.point last.text kind
LastFault state last (Value quantity) kind = ValueFault quantity state.place.left last.text kind
LastFault state last AllValues kind = TableEndFault state.place.left kind
LastFault state last NewLayer kind = TwiceFault (Contains (map name_of state.layers) last.text) kind
LastFault state last NewRule kind = TwiceFault (Contains state.rules last.text) kind
LastFault state last KnownLayer kind = UnknownFault (Contains (map name_of state.layers) last.text) kind
LastFault state last OwnName kind = OwnNameFault (is_word state.place.name last) kind
LastFault state last Nothing kind = ⊥
LastFault state last (Used quantity) kind = ⊥

-- The fault of a number that has this many words of its unit before it and is refused, where the word after it shows that
-- it is all that the statement has: below 0 it makes that word the one that is refused.
abbrev pub used_found : Refused → ℕ → Found TechKind
used_found refusals.Syntax at = record { at = at + 1; kind = kinds.Syntax }
used_found (refusals.Number error) at = record { at = at; kind = kinds.Number error }

-- The last word shows that the number before it, which has this many words of its unit before it, is used.
abbrev pub UsedFault : Token → ℕ → Question → Found TechKind → Type 0
UsedFault before at (Used quantity) found =
    (refused : Refused) × IsNumberAt (place_of quantity) before.text (Err refused) × (found ≡ used_found refused at)
UsedFault before at _ found = ⊥

-- The fault that the last word shows; the word before it has this many words of its unit before it.
abbrev pub Asked : State → Token → Token → ℕ → Question → Found TechKind → Type 0
Asked state before last at asked found =
    ((found.at ≡ at + 1) × LastFault state last asked found.kind) ⊎ UsedFault before at asked found

-- The fault that the last of these words shows, of which this is asked.
abbrev pub FaultBy : State → Question → List Token → Found TechKind → Type 0
FaultBy state asked (a ∷ []) found = (found.at ≡ 0) × LastFault state a asked found.kind
FaultBy state asked (a ∷ b ∷ []) found = Asked state a b 0 asked found
FaultBy state asked (a ∷ b ∷ c ∷ []) found = Asked state b c 1 asked found
FaultBy state asked (a ∷ b ∷ c ∷ d ∷ []) found = Asked state c d 2 asked found
FaultBy state asked (a ∷ b ∷ c ∷ d ∷ e ∷ []) found = Asked state d e 3 asked found
FaultBy state asked (a ∷ b ∷ c ∷ d ∷ e ∷ f ∷ []) found = Asked state e f 4 asked found
FaultBy state asked _ found = ⊥

-- The fault of the open unit's words so far, after these units.
abbrev pub fault : List (List Token) → List Token → Found TechKind → Type 0
fault units part found = FaultBy (state_of units) (question_of (state_of units).place.section (shape_in part)) part found
