-- The text of blocks as a format, and what reading one gives.
use Rattle.std.specs.Prelude.{◌≡◌, ℕ, List, Result, Ok, Err}
use Rattle.macro_blocks.specs.declared.error.BlocksKind.{BlocksKind}
use Rattle.macro_blocks.specs.declared.error.BlocksKind.TheVariants as kind
use Rattle.macro_blocks.specs.declared.error.Shown.{Shown}
use Rattle.macro_blocks.specs.declared.error.Shown.TheVariants.{Syntax, BadString, Number, Origin, Earlier, Want}
use Rattle.macro_blocks.specs.declared.record.Blocks.{Blocks}
use Rattle.macro_blocks.specs.declared.sort.Sort.{Sort}
use Rattle.macro_blocks.specs.Sort.{sort_of}
use Rattle.macro_blocks.specs.Section.{is_ended}
use Rattle.macro_blocks.specs.Standing.{section_in}
use Rattle.macro_blocks.specs.Rule.{pattern}
use Rattle.macro_blocks.specs.Fault.{fault}
use Rattle.macro_blocks.specs.Record.{IsBlocks, heard_of}
use Rattle.outside.specs.declared.place.Place.{Place}
use Rattle.reading.specs.declared.error.ReadError.{ReadError}
use Rattle.reading.specs.Error.{Kinds, ReadsRecord}
use Rattle.reading.specs.Reading.{Format}
use Rattle.reading.specs.Word.{Token}
use Rattle.text_lex.specs.declared.word.Mode.TheVariants.{LefDef}
use Rattle.macro_blocks.specs.declared.section.Section.{Section}

abbrev pub section_of : List (List Token) → Section
section_of units = section_in (heard_of units).standing

-- The format of the text of blocks: which units may follow, and their faults. `END LIBRARY` ends the text.
abbrev pub format : Format Token Sort Shown
format = record {
  sort = λ units word. sort_of word;
  follow = λ units. pattern (section_of units);
  fault = fault;
  ends = λ units. is_ended (section_of units);
}

-- In LEF a word is refused for itself only where its quote is not closed.
abbrev pub kinds : Kinds Shown
kinds = record { syntax = Syntax; want = Want; word = λ kind. BadString }

-- The kind of a refusal, by what its text shows.
abbrev pub public_kind : Shown → BlocksKind
public_kind Syntax = kind.Syntax
public_kind BadString = kind.BadString
public_kind (Number error) = kind.Number error
public_kind Origin = kind.Origin
public_kind (Earlier bad) = kind.Number bad.error
public_kind Want = kind.Want

-- Where it stands: a number before a USE that is refused stands at its own word, and all else at the last word read.
abbrev pub public_place : Shown → Place → Place
public_place (Earlier bad) place = bad.place
public_place _ place = place

-- The refusal, by what its text shows.
abbrev pub public_error : ReadError Shown → ReadError BlocksKind
public_error shown = record { place = public_place shown.kind shown.place; kind = public_kind shown.kind }

-- The record of the text's one list of units, or its one refusal with place and kind.
abbrev pub ReadsBlocks : List ℕ → Result Blocks (ReadError BlocksKind) → Type 0
ReadsBlocks bytes (Ok blocks) = ReadsRecord kinds LefDef bytes format IsBlocks (Ok blocks)
ReadsBlocks bytes (Err error) =
    (shown : ReadError Shown) × ReadsRecord kinds LefDef bytes format IsBlocks (Err shown) × (error ≡ public_error shown)
