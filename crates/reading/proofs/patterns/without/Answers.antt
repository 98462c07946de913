use Rattle.reading.proofs.Bits.{with_none}
use Rattle.reading.proofs.patterns.without.Goals as goal

pub returns : goal.returns
returns c = with_none _ c.ranges.set.fits
