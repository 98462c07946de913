-- The faults of the text of blocks: an end of another section, a coordinate that is refused, an ORIGIN other than 0 0, and a
-- word that cannot stand in a pin of power or ground or in obstructions.
use Rattle.std.specs.Prelude.{◌≡◌, ◌≢◌, ◌⊎◌, ℤ, pos, Bool, true, false, List, [], ◌∷◌}
use Rattle.fixed_decimal.specs.declared.error.DecimalError.{DecimalError}
use Rattle.macro_blocks.specs.declared.error.Shown.{Shown}
use Rattle.macro_blocks.specs.declared.error.Shown.TheVariants as kinds
use Rattle.macro_blocks.specs.declared.number.Bad.{Bad}
use Rattle.macro_blocks.specs.declared.section.Section.{Section}
use Rattle.macro_blocks.specs.declared.section.Section.TheVariants.{Macro, Pin, Port, Layered, Unfit}
use Rattle.macro_blocks.specs.declared.sort.Sort.{Sort}
use Rattle.macro_blocks.specs.declared.sort.Sort.TheVariants as sorts
use Rattle.macro_blocks.specs.declared.standing.Standing.{Standing}
use Rattle.macro_blocks.specs.Number.{IsCoordinate, IsRefused}
use Rattle.macro_blocks.specs.Record.{heard_of}
use Rattle.macro_blocks.specs.Rule.{is_name, is_number}
use Rattle.macro_blocks.specs.Sort.{sort_of, the}
use Rattle.macro_blocks.specs.Standing.{section_in, is_known, is_own}
use Rattle.lef_statements.specs.Word.{is_word}
use Rattle.number_place.specs.declared.place.Refused.TheVariants.{Number}
use Rattle.reading.specs.declared.refusal.Found.{Found}
use Rattle.reading.specs.Word.{Token}

-- ## words that cannot stand

-- The word cannot stand there.
abbrev pub Unless : Bool → Shown → Type 0
Unless true kind = ⊥
Unless false kind = kind ≡ kinds.Syntax

-- The word cannot stand there, where it is known what the words are for.
abbrev pub Misplaced : Bool → Bool → Shown → Type 0
Misplaced false fits kind = ⊥
Misplaced true fits kind = Unless fits kind

-- ## coordinates

-- The word is no coordinate.
abbrev pub NoCoordinate : Token → Shown → Type 0
NoCoordinate word kind = (error : DecimalError) × IsRefused word (Number error) × (kind ≡ kinds.Number error)

-- The word is one other than 0, where it is that of a macro's first ORIGIN.
abbrev pub OtherOrigin : Bool → Token → Shown → Type 0
OtherOrigin true word kind = ⊥
OtherOrigin false word kind = (value : ℤ) × IsCoordinate word value × (value ≢ pos 0) × (kind ≡ kinds.Origin)

-- Why a word of an ORIGIN is refused; all but the first of a macro have no effect.
abbrev pub OriginFault : Bool → Token → Shown → Type 0
OriginFault has_origin word kind = NoCoordinate word kind ⊎ OtherOrigin has_origin word kind

-- Why a word in the place of a RECT's number is refused, by whether it may be one.
abbrev pub CornerBy : Bool → Token → Shown → Type 0
CornerBy false word kind = kind ≡ kinds.Syntax
CornerBy true word kind = NoCoordinate word kind

-- The same, where it is known what the words are for.
abbrev pub CornerFault : Bool → Token → Shown → Type 0
CornerFault false word kind = ⊥
CornerFault true word kind = CornerBy (is_number (sort_of word)) word kind

-- ## what a USE shows of the words before it

-- All of these are coordinates.
abbrev pub AreCoordinates : List Token → Type 0
AreCoordinates [] = Unit {0}
AreCoordinates (word ∷ words) = ((value : ℤ) × IsCoordinate word value) × AreCoordinates words

-- The first of these that is no coordinate.
abbrev pub IsFirstBad : List Token → Bad → Type 0
IsFirstBad [] bad = ⊥
IsFirstBad (word ∷ words) bad =
    (IsRefused word (Number bad.error) × (bad.place ≡ word.place))
    ⊎ (((value : ℤ) × IsCoordinate word value) × IsFirstBad words bad)

-- A number before the USE is refused: it stands at its own word.
abbrev pub EarlierFault : List Token → Shown → Type 0
EarlierFault numbers kind = (bad : Bad) × IsFirstBad numbers bad × (kind ≡ kinds.Earlier bad)

-- What POWER or GROUND as the use of a pin shows, where none is known yet.
abbrev pub UseFault : Bool → Bool → List Token → Shown → Type 0
UseFault true false numbers kind = EarlierFault numbers kind
UseFault _ _ numbers kind = ⊥

-- What POWER or GROUND after USE shows where a word before could not stand: a number before that is refused, or else that
-- word.
abbrev pub UnfitFault : Bool → Bool → List Token → Shown → Type 0
UnfitFault true true numbers kind = EarlierFault numbers kind ⊎ (AreCoordinates numbers × (kind ≡ kinds.Syntax))
UnfitFault _ _ numbers kind = ⊥

-- ## units

-- The word is POWER or GROUND.
abbrev pub is_supply : Sort → Bool
is_supply sorts.Power = true
is_supply sorts.Ground = true
is_supply _ = false

-- A `;` cannot stand where a statement begins.
abbrev pub StrayFault : Bool → Sort → Shown → Type 0
StrayFault known sorts.Semicolon kind = Misplaced known false kind
StrayFault known _ kind = ⊥

-- Why a first word is refused in this section: a `;` in a pin, a port or obstructions, and POWER or GROUND after USE where a
-- word before could not stand.
abbrev pub FirstFault : Section → Standing → List Token → Sort → Shown → Type 0
FirstFault Pin standing numbers first = StrayFault (is_known standing.pin) first
FirstFault Port standing numbers first = StrayFault (is_known standing.pin) first
FirstFault Layered standing numbers first = StrayFault (is_known standing.pin) first
FirstFault Unfit standing numbers first = UnfitFault (is_supply first) (the sorts.Use standing.last) numbers
FirstFault section standing numbers first = λ kind. ⊥

-- Why the second word is refused after a first word of this sort: a name after END that is not that of the section that is
-- open, what is no layer's name, the first number of an ORIGIN or a RECT, and POWER or GROUND as the first use of a pin.
abbrev pub SecondFault : Section → Standing → List Token → Sort → Token → Shown → Type 0
SecondFault Macro standing numbers sorts.End second = Unless (is_word standing.cell second)
SecondFault Macro standing numbers sorts.Origin second = OriginFault standing.has_origin second
SecondFault Pin standing numbers sorts.End second = Misplaced (is_known standing.pin) (is_own standing.pin second)
SecondFault Pin standing numbers sorts.Use second = UseFault (is_supply (sort_of second)) (is_known standing.pin) numbers
SecondFault Port standing numbers sorts.Layer second = Misplaced (is_known standing.pin) (is_name (sort_of second))
SecondFault Layered standing numbers sorts.Layer second = Misplaced (is_known standing.pin) (is_name (sort_of second))
SecondFault Layered standing numbers sorts.Rect second = CornerFault (is_known standing.pin) second
SecondFault section standing numbers first second = λ kind. ⊥

-- Why the third word is refused: the second number of an ORIGIN or a RECT.
abbrev pub ThirdFault : Section → Standing → Token → Shown → Type 0
ThirdFault Macro standing third = OriginFault standing.has_origin third
ThirdFault Layered standing third = CornerFault (is_known standing.pin) third
ThirdFault section standing third = λ kind. ⊥

-- Why a later number of a RECT is refused.
abbrev pub LaterFault : Section → Standing → Token → Shown → Type 0
LaterFault Layered standing later = CornerFault (is_known standing.pin) later
LaterFault section standing later = λ kind. ⊥

-- Why the word after a RECT's numbers is refused: it is no `;`.
abbrev pub StopFault : Section → Standing → Token → Shown → Type 0
StopFault Layered standing stop = Misplaced (is_known standing.pin) (the sorts.Semicolon (sort_of stop))
StopFault section standing stop = λ kind. ⊥

abbrev pub fault_in : Section → Standing → List Token → List Token → Found Shown → Type 0
fault_in section standing numbers (first ∷ []) found =
    (found.at ≡ 0) × FirstFault section standing numbers (sort_of first) found.kind
fault_in section standing numbers (first ∷ second ∷ []) found =
    (found.at ≡ 1) × SecondFault section standing numbers (sort_of first) second found.kind
fault_in section standing numbers (first ∷ a ∷ b ∷ []) found = (found.at ≡ 2) × ThirdFault section standing b found.kind
fault_in section standing numbers (first ∷ a ∷ b ∷ c ∷ []) found = (found.at ≡ 3) × LaterFault section standing c found.kind
fault_in section standing numbers (first ∷ a ∷ b ∷ c ∷ d ∷ []) found =
    (found.at ≡ 4) × LaterFault section standing d found.kind
fault_in section standing numbers (first ∷ a ∷ b ∷ c ∷ d ∷ stop ∷ []) found =
    (found.at ≡ 5) × StopFault section standing stop found.kind
fault_in section standing numbers _ found = ⊥

-- The fault that the last of a unit's words so far shows, at that word.
abbrev pub fault : List (List Token) → List Token → Found Shown → Type 0
fault units part found =
    let heard = heard_of units in fault_in (section_in heard.standing) heard.standing heard.said.numbers part found
