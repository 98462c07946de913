use Rattle.fixed_decimal.specs.Number.{IsDecimal}
use Rattle.fixed_decimal.specs.Spice.{IsSpice}
use Rattle.fixed_decimal.specs.Integer.{IsInteger}
use Rattle.fixed_decimal.proofs.Integers.{integer_unique}
use Rattle.fixed_decimal.proofs.TextLaws.{answer_once, decimal_unique, spice_unique, decimal_reads_once, spice_reads_once}
use Rattle.fixed_decimal.proofs.laws.texts_have_one_answer.Goals as goal

pub returns-clause-decimal : goal.returns-clause-decimal
returns-clause-decimal c = λ places limit text. answer_once IsDecimal places limit text (decimal_unique text)

pub returns-clause-spice : goal.returns-clause-spice
returns-clause-spice c = λ places limit text. answer_once IsSpice places limit text (spice_unique text)

pub returns-clause-decimal_reads : goal.returns-clause-decimal_reads
returns-clause-decimal_reads c = decimal_reads_once

pub returns-clause-spice_reads : goal.returns-clause-spice_reads
returns-clause-spice_reads c = spice_reads_once

pub returns-clause-integer : goal.returns-clause-integer
returns-clause-integer c = λ places limit text. answer_once IsInteger places limit text (integer_unique text)
