-- The text of wiring as a format, and what reading one gives.
use Rattle.std.specs.Prelude.{◌≡◌, ℕ, List, Result, Ok, Err}
use Rattle.def_wiring.specs.declared.error.Shown.{Shown}
use Rattle.def_wiring.specs.declared.error.Shown.TheVariants.{Here, Earlier}
use Rattle.def_wiring.specs.declared.error.WiresKind.{WiresKind}
use Rattle.def_wiring.specs.declared.error.WiresKind.TheVariants.{Syntax, BadString, Want}
use Rattle.def_wiring.specs.declared.record.Wires.{Wires}
use Rattle.def_wiring.specs.declared.section.Section.{Section}
use Rattle.def_wiring.specs.declared.sort.Sort.{Sort}
use Rattle.def_wiring.specs.Fault.{fault}
use Rattle.def_wiring.specs.Record.{IsWires, heard_of}
use Rattle.def_wiring.specs.Rule.{pattern}
use Rattle.def_wiring.specs.Section.{is_ended}
use Rattle.def_wiring.specs.Sort.{sort_of}
use Rattle.def_wiring.specs.Standing.{section_in}
use Rattle.outside.specs.declared.place.Place.{Place}
use Rattle.reading.specs.declared.error.ReadError.{ReadError}
use Rattle.reading.specs.Error.{Kinds, ReadsRecord}
use Rattle.reading.specs.Reading.{Format}
use Rattle.reading.specs.Word.{Token}
use Rattle.text_lex.specs.declared.word.Mode.TheVariants.{LefDef}

abbrev pub section_of : List (List Token) → Section
section_of units = section_in (heard_of units).standing

-- The format of the text of wiring: which units may follow, and their faults. `END DESIGN` ends the text.
abbrev pub format : Format Token Sort Shown
format = record {
  sort = λ units word. sort_of word;
  follow = λ units. pattern (section_of units);
  fault = fault;
  ends = λ units. is_ended (section_of units);
}

-- In DEF a word is refused for itself only where its quote is not closed.
abbrev pub kinds : Kinds Shown
kinds = record { syntax = Here Syntax; want = Here Want; word = λ kind. Here BadString }

-- The kind of a refusal, by what its text shows.
abbrev pub public_kind : Shown → WiresKind
public_kind (Here kind) = kind
public_kind (Earlier late) = late.kind

-- Where it stands: at the last word read, or at a word before it.
abbrev pub public_place : Shown → Place → Place
public_place (Here kind) place = place
public_place (Earlier late) place = late.place

-- The refusal, by what its text shows.
abbrev pub public_error : ReadError Shown → ReadError WiresKind
public_error shown = record { place = public_place shown.kind shown.place; kind = public_kind shown.kind }

-- The record of the text's one list of units, or its one refusal with place and kind.
abbrev pub ReadsWires : List ℕ → Result Wires (ReadError WiresKind) → Type 0
ReadsWires bytes (Ok wires) = ReadsRecord kinds LefDef bytes format IsWires (Ok wires)
ReadsWires bytes (Err error) =
    (shown : ReadError Shown) × ReadsRecord kinds LefDef bytes format IsWires (Err shown)
    × (error ≡ public_error shown)
