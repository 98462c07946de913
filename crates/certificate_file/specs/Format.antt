-- Certificates as a format, and what reading one gives.
use Rattle.std.specs.Prelude.{ℕ, false, List, length, Result}
use Rattle.text_lex.specs.declared.word.Mode.TheVariants.{Lines}
use Rattle.reading.specs.declared.error.ReadError.{ReadError}
use Rattle.reading.specs.Error.{Kinds, ReadsRecord}
use Rattle.reading.specs.Reading.{Format}
use Rattle.reading.specs.Word.{Token}
use Rattle.certificate_file.specs.declared.lists.Lists.{Lists}
use Rattle.certificate_file.specs.declared.error.CertKind.{CertKind}
use Rattle.certificate_file.specs.declared.error.CertKind.TheVariants.{Syntax, Want}
use Rattle.certificate_file.specs.declared.sort.Sort.{Sort}
use Rattle.certificate_file.specs.Sort.{sort_of}
use Rattle.certificate_file.specs.Section.{section_after}
use Rattle.certificate_file.specs.Rule.{pattern}
use Rattle.certificate_file.specs.Fault.{fault_after}
use Rattle.certificate_file.specs.Record.{IsLists}

-- The format of the certificates of nodes with these names: which lines may follow, and their faults. A text ends with
-- its bytes.
abbrev pub format : List (List ℕ) → Format Token Sort CertKind
format names = record {
  sort = λ lines word. sort_of word;
  follow = λ lines. pattern (section_after (length names) (length lines));
  fault = λ lines part found. fault_after names (length lines) part found;
  ends = λ lines. false;
}

-- In lines no word is refused for itself.
abbrev pub kinds : Kinds CertKind
kinds = record { syntax = Syntax; want = Want; word = λ kind. Syntax }

-- The two lists of the text's lines, or its one refusal with place and kind.
abbrev pub ReadsCertificate : List (List ℕ) → List ℕ → Result Lists (ReadError CertKind) → Type 0
ReadsCertificate names bytes result = ReadsRecord kinds Lines bytes (format names) (IsLists names) result
