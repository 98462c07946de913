use Rattle.halo_cuts.proofs.Parts.{parts}
use Rattle.halo_cuts.proofs.laws.cuts_leave_parts.Goals as goal

pub returns : goal.returns
returns c = parts
