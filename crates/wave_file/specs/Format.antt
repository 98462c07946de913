-- Wave files as a format, and what reading one gives.
use Rattle.std.specs.Prelude.{ℕ, false, List, Result}
use Rattle.text_lex.specs.declared.word.Mode.TheVariants.{Lines}
use Rattle.reading.specs.declared.error.ReadError.{ReadError}
use Rattle.reading.specs.Error.{Kinds, ReadsRecord}
use Rattle.reading.specs.Reading.{Format}
use Rattle.reading.specs.Word.{Token}
use Rattle.wave_file.specs.declared.record.Waves.{Waves}
use Rattle.wave_file.specs.declared.error.WavesKind.{WavesKind}
use Rattle.wave_file.specs.declared.error.WavesKind.TheVariants.{Syntax, Want}
use Rattle.wave_file.specs.declared.section.Section.TheVariants as sections
use Rattle.wave_file.specs.declared.sort.Sort.{Sort}
use Rattle.wave_file.specs.Sort.{sort_of}
use Rattle.wave_file.specs.Rule.{pattern}
use Rattle.wave_file.specs.Fault.{fault}
use Rattle.wave_file.specs.Record.{IsWaves}

-- The format of the wave files of groups with these names: which lines may follow, and their faults. A text ends with
-- its bytes.
abbrev pub format : List (List ℕ) → Format Token Sort WavesKind
format names = record {
  sort = λ units word. sort_of word;
  follow = λ units. pattern sections.Lines;
  fault = fault names;
  ends = λ units. false;
}

-- In lines no word is refused for itself.
abbrev pub kinds : Kinds WavesKind
kinds = record { syntax = Syntax; want = Want; word = λ kind. Syntax }

-- The record of the text's lines, or its one refusal with place and kind.
abbrev pub ReadsWaves : List (List ℕ) → List ℕ → Result Waves (ReadError WavesKind) → Type 0
ReadsWaves names bytes result = ReadsRecord kinds Lines bytes (format names) (IsWaves names) result
