-- Texts of statements as a format.
use Rattle.std.specs.Prelude.{false}
use Rattle.reading.specs.Reading.{Format}
use Rattle.reading.specs.Word.{Token}
use Rattle.statements.specs.declared.fault.Kind.{Kind}
use Rattle.statements.specs.declared.sort.Sort.{Sort}
use Rattle.statements.specs.Sort.{sort_of}
use Rattle.statements.specs.Rule.{unit}
use Rattle.statements.specs.Fault.{fault_of}

-- A statement or the end of the text may follow everywhere. A text ends with its bytes.
abbrev pub statements_format : Format Token Sort Kind
statements_format = record {
  sort = λ units. sort_of;
  follow = λ units. unit;
  fault = λ units. fault_of;
  ends = λ units. false;
}
