-- The faults of a design: numbers that are refused, names and statements that stand again, and forms that are not read.
use Rattle.std.specs.Prelude.{◌≡◌, ◌≢◌, ℕ, ◌-◌, ◌⊎◌, ℤ, pos, Bool, true, List, [], ◌∷◌, length, map, Contains, Option, Some, None, Err, is_some, if◌then◌else◌}
use Rattle.def_design.specs.declared.error.DefKind.{DefKind}
use Rattle.def_design.specs.declared.error.DefKind.TheVariants as kinds
use Rattle.def_design.specs.declared.error.Item.{Item}
use Rattle.def_design.specs.declared.error.Item.TheVariants as items
use Rattle.def_design.specs.declared.number.Quantity.{Quantity}
use Rattle.def_design.specs.declared.number.Quantity.TheVariants.{Any, Positive, Microns}
use Rattle.def_design.specs.declared.question.Question.{Question}
use Rattle.def_design.specs.declared.question.Question.TheVariants as questions
use Rattle.def_design.specs.Number.{place_of, IsNumber, IsSame}
use Rattle.def_design.specs.Question.{question_of}
use Rattle.def_design.specs.Unit.{is_design, is_units, is_die, is_component, is_region, is_across, name_of}
use Rattle.def_statements.specs.declared.sort.Sort.{Sort}
use Rattle.def_statements.specs.declared.sort.Sort.TheVariants as sorts
use Rattle.def_statements.specs.Standing.{section_of}
use Rattle.def_statements.specs.Unit.{text_at, last_text, last_sort}
use Rattle.fixed_decimal.specs.declared.error.DecimalError.TheVariants.{Range}
use Rattle.lef_statements.specs.First.{first_with}
use Rattle.number_place.specs.declared.place.Refused.{Refused}
use Rattle.number_place.specs.declared.place.Refused.TheVariants as refusals
use Rattle.number_place.specs.Place.{IsNumberAt}
use Rattle.reading.specs.Blocks.{Block, blocks}
use Rattle.reading.specs.declared.refusal.Found.{Found}
use Rattle.reading.specs.Word.{Token}

-- ## numbers

-- The kind of a number that is refused. A micrometre that has more units than its range allows is Syntax.
abbrev pub refused_kind : Quantity → Refused → DefKind
refused_kind Microns (refusals.Number Range) = kinds.Syntax
refused_kind quantity (refusals.Number error) = kinds.Number error
refused_kind quantity refusals.Syntax = kinds.Syntax

-- The text is refused as a number of this kind.
abbrev pub NumberFault : Quantity → List ℕ → DefKind → Type 0
NumberFault quantity text kind =
    (refused : Refused) × IsNumberAt (place_of quantity) text (Err refused) × (kind ≡ refused_kind quantity refused)

-- The word of a rectangle is refused: for itself, or since the rectangle has no area, as its other edge is the same.
abbrev pub ApartFault : List ℕ → List ℕ → DefKind → Type 0
ApartFault other text kind = NumberFault Any text kind ⊎ ((kind ≡ kinds.Syntax) × IsSame other text)

-- The second count of a row is refused: for itself, or since it is another than 1.
abbrev pub OneFault : List ℕ → DefKind → Type 0
OneFault text kind = NumberFault Positive text kind
    ⊎ ((kind ≡ kinds.RowForm) × ((value : ℤ) × IsNumber Positive text value × (value ≢ pos 1)))

-- ## what stands already

-- A unit of this kind stands among these.
abbrev pub stands : (List Token → Bool) → List (List Token) → Bool
stands is units = is_some (first_with is units)

-- The word begins a unit of this kind again.
abbrev pub AgainFault : (List Token → Bool) → List (List Token) → DefKind → Type 0
AgainFault is units kind = (kind ≡ kinds.Twice) × (stands is units ≡ true)

-- The names of the entries whose heads are of this kind.
abbrev pub head_name : Block Token → List ℕ
head_name entry = name_of entry.head

abbrev pub names_of : (List Token → Bool) → List (List Token) → List (List ℕ)
names_of is units = map head_name (blocks is units)

-- An entry has the name already.
abbrev pub TakenFault : (List Token → Bool) → List (List Token) → List ℕ → DefKind → Type 0
TakenFault is units name kind = (kind ≡ kinds.Twice) × Contains (names_of is units) name

-- ## forms that are not read

-- Two corners that span no area: one edge is the same.
abbrev pub NoArea : List Token → Type 0
NoArea unit = IsSame (text_at 2 unit) (text_at 6 unit) ⊎ IsSame (text_at 3 unit) (text_at 7 unit)

-- After two points of the die: `;` where they span no area, or a third point.
abbrev pub DieEndFault : List Token → Sort → DefKind → Type 0
DieEndFault unit sorts.Open kind = kind ≡ kinds.Polygon
DieEndFault unit last kind = (kind ≡ kinds.Syntax) × NoArea unit

abbrev pub TurnFault : Sort → DefKind → Type 0
TurnFault turn kind = (kind ≡ kinds.RowForm) × (is_across turn ≡ true)

-- What a design lacks, of several the first in the order DESIGN, UNITS, DIEAREA.
abbrev pub missing : Bool → Bool → Bool → Option Item
missing design units die =
    if design then (if units then (if die then None else Some items.DieArea) else Some items.Units)
    else Some items.Design

abbrev pub missing_of : List (List Token) → Option Item
missing_of units = missing (stands is_design units) (stands is_units units) (stands is_die units)

abbrev pub MissingFault : Option Item → DefKind → Type 0
MissingFault None kind = ⊥
MissingFault (Some item) kind = kind ≡ kinds.Missing item

-- ## the fault of a word

-- The last word of the unit is refused, of which this is asked, after these units. Wires are refused where `wiring` is.
abbrev pub LastFault : Bool → List (List Token) → List Token → Question → DefKind → Type 0
LastFault wiring units unit questions.Nothing kind = ⊥
LastFault wiring units unit (questions.Number quantity) kind = NumberFault quantity (last_text unit) kind
LastFault wiring units unit questions.Apart kind = ApartFault (text_at (length unit - 5) unit) (last_text unit) kind
LastFault wiring units unit questions.FirstDesign kind = AgainFault is_design units kind
LastFault wiring units unit questions.FirstUnits kind = AgainFault is_units units kind
LastFault wiring units unit questions.FirstDie kind = AgainFault is_die units kind
LastFault wiring units unit questions.DieEnd kind = DieEndFault unit (last_sort unit) kind
LastFault wiring units unit questions.RowTurn kind = TurnFault (last_sort unit) kind
LastFault wiring units unit questions.OneRow kind = OneFault (last_text unit) kind
LastFault wiring units unit questions.NewComponent kind = TakenFault is_component units (last_text unit) kind
LastFault wiring units unit questions.NewRegion kind = TakenFault is_region units (last_text unit) kind
LastFault wiring units unit questions.NoPolygon kind = kind ≡ kinds.Polygon
LastFault wiring units unit questions.NoWire kind = (kind ≡ kinds.AlreadyRouted) × (wiring ≡ true)
LastFault wiring units unit questions.AllStands kind = MissingFault (missing_of units) kind

-- The fault that the last of a unit's words so far shows, at that word.
abbrev pub fault : Bool → List (List Token) → List Token → Found DefKind → Type 0
fault wiring units [] found = ⊥
fault wiring units (first ∷ words) found = (found.at ≡ length words)
    × LastFault wiring units (first ∷ words) (question_of (section_of units) (first ∷ words)) found.kind
