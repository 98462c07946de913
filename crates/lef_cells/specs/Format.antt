-- The text of cells as a format, and what reading one gives.
use Rattle.std.specs.Prelude.{ℕ, List, Result}
use Rattle.lef_cells.specs.declared.error.CellsKind.{CellsKind}
use Rattle.lef_cells.specs.declared.error.CellsKind.TheVariants.{Syntax, BadString, Want}
use Rattle.lef_cells.specs.declared.record.Cells.{Cells}
use Rattle.lef_cells.specs.declared.sort.Sort.{Sort}
use Rattle.lef_cells.specs.Sort.{sort_of}
use Rattle.lef_cells.specs.Section.{section_of, is_ended}
use Rattle.lef_cells.specs.Rule.{pattern}
use Rattle.lef_cells.specs.Fault.{fault}
use Rattle.lef_cells.specs.Record.{IsCells}
use Rattle.reading.specs.declared.error.ReadError.{ReadError}
use Rattle.reading.specs.Error.{Kinds, ReadsRecord}
use Rattle.reading.specs.Reading.{Format}
use Rattle.reading.specs.Word.{Token}
use Rattle.text_lex.specs.declared.word.Mode.TheVariants.{LefDef}

-- The format of the text of cells: which units may follow, and their faults. `END LIBRARY` ends the text.
abbrev pub format : Format Token Sort CellsKind
format = record {
  sort = λ units word. sort_of word;
  follow = λ units. pattern (section_of units);
  fault = fault;
  ends = λ units. is_ended (section_of units);
}

-- In LEF a word is refused for itself only where its quote is not closed.
abbrev pub kinds : Kinds CellsKind
kinds = record { syntax = Syntax; want = Want; word = λ kind. BadString }

-- The record of the text's one list of units, or its one refusal with place and kind.
abbrev pub ReadsCells : List ℕ → Result Cells (ReadError CellsKind) → Type 0
ReadsCells bytes result = ReadsRecord kinds LefDef bytes format IsCells result
