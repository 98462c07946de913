-- Scripts as a format, and what reading one gives.
use Rattle.std.specs.Prelude.{ℕ, false, List, Result}
use Rattle.pdn_script.specs.declared.error.ScriptKind.{ScriptKind}
use Rattle.pdn_script.specs.declared.record.Script.{Script}
use Rattle.pdn_script.specs.declared.sort.Sort.{Sort}
use Rattle.pdn_script.specs.Fault.{fault}
use Rattle.pdn_script.specs.Kinds.{kinds}
use Rattle.pdn_script.specs.Known.{known_of}
use Rattle.pdn_script.specs.Record.{IsScript}
use Rattle.pdn_script.specs.Rule.{pattern}
use Rattle.pdn_script.specs.Section.{section_by}
use Rattle.pdn_script.specs.Sort.{sort_of}
use Rattle.reading.specs.declared.error.ReadError.{ReadError}
use Rattle.reading.specs.Error.{ReadsRecord}
use Rattle.reading.specs.Reading.{Format}
use Rattle.reading.specs.Word.{Token}
use Rattle.text_lex.specs.declared.word.Mode.TheVariants.{Tcl}

-- The format of scripts: which units may follow, and their faults. A text ends with its bytes.
abbrev pub format : Format Token Sort ScriptKind
format = record {
  sort = λ units word. sort_of word;
  follow = λ units. pattern (section_by (known_of units).passing);
  fault = fault;
  ends = λ units. false;
}

-- The record of the text's one list of units, which are commands and the words of commands that are passed over, or its one
-- refusal with place and kind.
abbrev pub ReadsScript : List ℕ → Result Script (ReadError ScriptKind) → Type 0
ReadsScript bytes result = ReadsRecord kinds Tcl bytes format IsScript result
