-- A written wiring as a format, and what reading one gives.
use Rattle.std.specs.Prelude.{ℕ, false, List, Result}
use Rattle.text_lex.specs.declared.word.Mode.TheVariants.{LefDef}
use Rattle.reading.specs.declared.error.ReadError.{ReadError}
use Rattle.reading.specs.Error.{Kinds, ReadsRecord}
use Rattle.reading.specs.Reading.{Format}
use Rattle.reading.specs.Word.{Token}
use Rattle.wiring_file.specs.declared.error.WiringKind.{WiringKind}
use Rattle.wiring_file.specs.declared.error.WiringKind.TheVariants.{Syntax, BadString, Want}
use Rattle.wiring_file.specs.declared.record.Wiring.{Wiring}
use Rattle.wiring_file.specs.declared.sort.Sort.{Sort}
use Rattle.wiring_file.specs.Sort.{sort_of}
use Rattle.wiring_file.specs.Rule.{pattern}
use Rattle.wiring_file.specs.Standing.{standing}
use Rattle.wiring_file.specs.Fault.{fault_at}
use Rattle.wiring_file.specs.Record.{IsWiring}

-- The format of a written wiring: which units may follow, and their faults. A text ends with its bytes.
abbrev pub format : Format Token Sort WiringKind
format = record {
  sort = λ units word. sort_of word;
  follow = λ units. pattern (standing units).section;
  fault = λ units part found. fault_at (standing units) part found;
  ends = λ units. false;
}

-- In DEF a word is refused for itself only where a `"` is not closed.
abbrev pub kinds : Kinds WiringKind
kinds = record { syntax = Syntax; want = Want; word = λ kind. BadString }

-- The wiring of the text's units, or its one refusal with place and kind.
abbrev pub ReadsWiring : List ℕ → Result Wiring (ReadError WiringKind) → Type 0
ReadsWiring bytes result = ReadsRecord kinds LefDef bytes format IsWiring result
