use Rattle.fixed_decimal.proofs.Longest.{longest}
use Rattle.fixed_decimal.proofs.laws.numbers_are_longest.Goals as goal

pub returns : goal.returns
returns c = longest
