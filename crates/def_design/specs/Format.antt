-- The text of a design as a format, and what reading one gives.
use Rattle.std.specs.Prelude.{ℕ, Bool, true, false, List, Result}
use Rattle.def_design.specs.declared.error.DefKind.{DefKind}
use Rattle.def_design.specs.declared.error.DefKind.TheVariants.{Syntax, BadString, Want}
use Rattle.def_design.specs.declared.record.Design.{Design}
use Rattle.def_design.specs.Fault.{fault}
use Rattle.def_design.specs.Record.{IsDesign}
use Rattle.def_statements.specs.declared.sort.Sort.{Sort}
use Rattle.def_statements.specs.Pattern.{pattern}
use Rattle.def_statements.specs.Sort.{sort_of}
use Rattle.def_statements.specs.Standing.{section_of, is_ended}
use Rattle.reading.specs.declared.error.ReadError.{ReadError}
use Rattle.reading.specs.Error.{Kinds, ReadsRecord}
use Rattle.reading.specs.Reading.{Format}
use Rattle.reading.specs.Word.{Token}
use Rattle.text_lex.specs.declared.word.Mode.TheVariants.{LefDef}

-- The format of designs: which units may follow, and their faults, where wires of special nets are refused or not.
-- `END DESIGN` ends the text.
abbrev pub format : Bool → Format Token Sort DefKind
format wiring = record {
  sort = λ units word. sort_of word;
  follow = λ units. pattern (section_of units);
  fault = fault wiring;
  ends = λ units. is_ended (section_of units);
}

-- In DEF a word is refused for itself only where its quote is not closed.
abbrev pub kinds : Kinds DefKind
kinds = record { syntax = Syntax; want = Want; word = λ kind. BadString }

-- The record of the text's one list of units, or its one refusal with place and kind. Wires are refused where `wiring` is.
abbrev pub ReadsText : Bool → List ℕ → Result Design (ReadError DefKind) → Type 0
ReadsText wiring bytes result = ReadsRecord kinds LefDef bytes (format wiring) IsDesign result

-- The same of a design whose special nets have no wires yet: a wire is refused.
abbrev pub ReadsDesign : List ℕ → Result Design (ReadError DefKind) → Type 0
ReadsDesign bytes result = ReadsText true bytes result

-- The same of a design whose special nets may have wires, which are passed over.
abbrev pub ReadsPlaced : List ℕ → Result Design (ReadError DefKind) → Type 0
ReadsPlaced bytes result = ReadsText false bytes result
