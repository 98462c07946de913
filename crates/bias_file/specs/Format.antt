-- Bias files as a format, and what reading one gives.
use Rattle.std.specs.Prelude.{ℕ, false, List, Result}
use Rattle.text_lex.specs.declared.word.Mode.TheVariants.{Lines}
use Rattle.reading.specs.declared.error.ReadError.{ReadError}
use Rattle.reading.specs.Error.{Kinds, ReadsRecord}
use Rattle.reading.specs.Reading.{Format}
use Rattle.reading.specs.Word.{Token}
use Rattle.bias_file.specs.declared.record.Bias.{Bias}
use Rattle.bias_file.specs.declared.error.BiasKind.{BiasKind}
use Rattle.bias_file.specs.declared.error.BiasKind.TheVariants.{Syntax, Want}
use Rattle.bias_file.specs.declared.sort.Sort.{Sort}
use Rattle.bias_file.specs.Sort.{sort_of}
use Rattle.bias_file.specs.Section.{section_of}
use Rattle.bias_file.specs.Rule.{pattern}
use Rattle.bias_file.specs.Fault.{fault}
use Rattle.bias_file.specs.Record.{IsBias}

-- The format of bias files: which units may follow, and their faults. A text ends with its bytes.
abbrev pub format : Format Token Sort BiasKind
format = record {
  sort = λ units word. sort_of word;
  follow = λ units. pattern (section_of units);
  fault = fault;
  ends = λ units. false;
}

-- In lines no word is refused for itself.
abbrev pub kinds : Kinds BiasKind
kinds = record { syntax = Syntax; want = Want; word = λ kind. Syntax }

-- The record of the text's one list of units, which are lines and the words of comments, or its one refusal with place
-- and kind.
abbrev pub ReadsBias : List ℕ → Result Bias (ReadError BiasKind) → Type 0
ReadsBias bytes result = ReadsRecord kinds Lines bytes format IsBias result
