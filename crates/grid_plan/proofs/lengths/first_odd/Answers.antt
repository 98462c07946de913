use Rattle.std.proofs.Common.{refl}
use Rattle.grid_plan.proofs.lengths.first_odd.Goals as goal

pub returns : goal.returns
returns c = rw (c.unplaced.ensures, c.earlier.ensures, c.odd_in_stripes-stripe.ensures, c.odd_in_rings-ring.ensures, c.as_slice.ensures, c.as_slice-2.ensures) refl
