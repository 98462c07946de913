use Rattle.fixed_decimal.proofs.TextLaws.{reads_back}
use Rattle.fixed_decimal.proofs.laws.printed_values_read_back.Goals as goal

pub returns : goal.returns
returns c = reads_back
