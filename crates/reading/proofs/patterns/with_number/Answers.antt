use Rattle.reading.proofs.Bits.{with_one}
use Rattle.reading.proofs.patterns.with_number.Goals as goal

pub returns : goal.returns
returns c = with_one _ _ c.requires
