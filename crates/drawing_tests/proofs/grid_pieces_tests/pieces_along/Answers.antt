use Rattle.std.proofs.Common.{subst, sym}
use Rattle.grid_pieces.specs.Limits.{OneAxis}
use Rattle.drawing_tests.proofs.grid_pieces_tests.pieces_along.Goals as goal

pub pieces-requires-clause-one_axis : goal.pieces-requires-clause-one_axis
pieces-requires-clause-one_axis c = subst OneAxis (sym c.deref.ensures.value) c.in_ok-kept.ensures.one_axis
