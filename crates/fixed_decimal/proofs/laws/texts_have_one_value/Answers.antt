use Rattle.fixed_decimal.proofs.TextLaws.{decimal_unique, spice_unique, decimal_value_once, spice_value_once}
use Rattle.fixed_decimal.proofs.laws.texts_have_one_value.Goals as goal

pub returns-clause-decimal_number : goal.returns-clause-decimal_number
returns-clause-decimal_number c = decimal_unique

pub returns-clause-spice_number : goal.returns-clause-spice_number
returns-clause-spice_number c = spice_unique

pub returns-clause-decimal_value : goal.returns-clause-decimal_value
returns-clause-decimal_value c = decimal_value_once

pub returns-clause-spice_value : goal.returns-clause-spice_value
returns-clause-spice_value c = spice_value_once
