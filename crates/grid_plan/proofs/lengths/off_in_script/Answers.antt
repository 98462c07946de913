use Rattle.std.proofs.Common.{refl}
use Rattle.grid_plan.proofs.lengths.off_in_script.Goals as goal

pub returns : goal.returns
returns c = rw (c.unplaced.ensures, c.earlier.ensures, c.off_in_stripes-stripe.ensures, c.off_in_rings-ring.ensures, c.as_slice.ensures, c.as_slice-2.ensures) refl
