-- What the reader holds after whole lines.
use Rattle.std.specs.Prelude.{◌≡◌, ◌≤ℤ◌, true, false, List, [], ◌∷◌, ◌++◌, Option, None, Some, Ok}
use Rattle.entry_list.specs.InTurn.{InTurn}
use Rattle.named_entries.specs.Named.{NamedList, HoldsNamed}
use Rattle.reading.specs.Grammar.{IsTaken}
use Rattle.reading.specs.Word.{Token}
use Rattle.bias_file.specs.declared.held.Held.{Held}
use Rattle.bias_file.specs.declared.held.Lists.{Lists}
use Rattle.bias_file.specs.declared.held.NetVolts.{NetVolts}
use Rattle.bias_file.specs.declared.held.NameAmps.{NameAmps}
use Rattle.bias_file.specs.declared.sort.Sort.{Sort}
use Rattle.bias_file.specs.declared.sort.Sort.TheVariants as sorts
use Rattle.bias_file.specs.Number.{amperes}
use Rattle.bias_file.specs.Rule.{is_line, lines, name_on}
use Rattle.bias_file.specs.Section.{section_of}
use Rattle.bias_file.specs.Record.{SaysSupply, SaysDropLimit, SaysAmps, SaysPad}
use Rattle.bias_file.specs.Format.{format}
use Rattle.number_place.specs.declared.place.NumberPlace.{NumberPlace}
use Rattle.number_place.specs.Place.{IsNumberAt}

-- What the lines with this first word say, and their names.
abbrev pub HoldsLines : {E : Type 0} → (List Token → E → Type 0) → Sort → NamedList E → List (List Token) → Type 0
HoldsLines says word named units = HoldsNamed says name_on (lines word units) named

-- What the lines of each kind say.
pub record HoldsLists (units : List (List Token)) (lists : Lists) : Type 0 where
  pub supplies : HoldsLines SaysSupply sorts.Supply lists.supplies units
  pub drops : HoldsLines SaysDropLimit sorts.DropLimit lists.drops units
  pub pads : InTurn SaysPad (lines sorts.Pad units) lists.pads.items
  pub cells : HoldsLines SaysAmps sorts.Cell lists.cells units
  pub instances : HoldsLines SaysAmps sorts.Instance lists.instances units

pub record Holds (units : List (List Token)) (held : Held) : Type 0 where
  pub lists : HoldsLists units held.lists
  pub section : held.section ≡ section_of units

-- What was held after some units leads to what is held after one more, which is whole and has shown no fault.
abbrev pub Takes : (List (List Token) → Type 0) → (List (List Token) → Type 0) → List Token → Type 0
Takes old new unit = (units : List (List Token)) → IsTaken format units unit → old units → new (units ++ unit ∷ [])

-- `KEYWORD NET V`: the number of the line, the net and the volts.
abbrev pub SaysVolts : NumberPlace → List Token → NetVolts → Type 0
SaysVolts place (first ∷ net ∷ value ∷ stop ∷ []) found =
    (found.line ≡ first.place.line) × (found.net.now ≡ net.text) × IsNumberAt place value.text (Ok found.volts)
SaysVolts place _ found = ⊥

-- What a unit says if it is a line with this first word; else nothing.
abbrev pub FindsVolts : Sort → NumberPlace → List Token → Option NetVolts → Type 0
FindsVolts word place unit None = is_line word unit ≡ false
FindsVolts word place unit (Some found) = (is_line word unit ≡ true) × SaysVolts place unit found

-- The number of the line, and the name.
abbrev pub SaysName : List Token → NameAmps → Type 0
SaysName (first ∷ name ∷ words) found = (found.line ≡ first.place.line) × (found.name.now ≡ name.text)
SaysName _ found = ⊥

-- What is drawn at least and at most.
abbrev pub SaysRange : List Token → NameAmps → Type 0
SaysRange (first ∷ name ∷ value ∷ stop ∷ []) found =
    IsNumberAt amperes value.text (Ok found.low) × (found.high ≡ found.low)
SaysRange (first ∷ name ∷ low ∷ high ∷ stop ∷ []) found =
    IsNumberAt amperes low.text (Ok found.low) × IsNumberAt amperes high.text (Ok found.high)
    × (found.low ≤ℤ found.high)
SaysRange _ found = ⊥

-- What a unit that is taken says if it is a line of a current with this first word; else nothing.
abbrev pub FindsAmps : Sort → List Token → Option NameAmps → Type 0
FindsAmps word unit None = is_line word unit ≡ false
FindsAmps word unit (Some found) = (is_line word unit ≡ true) × SaysName unit found
    × ((units : List (List Token)) → IsTaken format units unit → SaysRange unit found)
