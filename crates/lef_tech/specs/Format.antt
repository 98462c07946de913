-- Technologies as a format, and what reading one gives.
use Rattle.std.specs.Prelude.{ℕ, Bool, true, false, List, Result}
use Rattle.text_lex.specs.declared.word.Mode.TheVariants.{LefDef}
use Rattle.lef_tech.specs.declared.error.TechKind.{TechKind}
use Rattle.lef_tech.specs.declared.section.Section.{Section}
use Rattle.lef_tech.specs.declared.section.Section.TheVariants.{Ended}
use Rattle.lef_tech.specs.declared.sort.Sort.{Sort}
use Rattle.lef_tech.specs.declared.tech.Tech.{Tech}
use Rattle.lef_tech.specs.Fault.{fault}
use Rattle.lef_tech.specs.Kinds.{kinds}
use Rattle.lef_tech.specs.Pattern.{pattern}
use Rattle.lef_tech.specs.Record.{IsTech}
use Rattle.lef_tech.specs.Sort.{sort_of}
use Rattle.lef_tech.specs.Turn.{state_of}
use Rattle.reading.specs.declared.error.ReadError.{ReadError}
use Rattle.reading.specs.Error.{ReadsRecord}
use Rattle.reading.specs.Reading.{Format}
use Rattle.reading.specs.Word.{Token}

-- `END LIBRARY` has ended the text.
abbrev pub is_ended : Section → Bool
is_ended Ended = true
is_ended _ = false

-- The format of technologies: which units may follow, their faults, and that `END LIBRARY` ends the text.
abbrev pub format : Format Token Sort TechKind
format = record {
  sort = λ units word. sort_of word;
  follow = λ units. pattern (state_of units).place.section;
  fault = fault;
  ends = λ units. is_ended (state_of units).place.section;
}

-- The record of the text's one list of units, or its one refusal with place and kind.
abbrev pub ReadsTech : List ℕ → Result Tech (ReadError TechKind) → Type 0
ReadsTech bytes result = ReadsRecord kinds LefDef bytes format IsTech result
