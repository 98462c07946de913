use Rattle.std.proofs.Common.{arith}
use Rattle.std.proofs.lemmas.Int.{ints, clamps}
use Rattle.wire_pieces.proofs.centre.greater.Goals as goal

pub returns-then-one-other : goal.returns-then-one-other
returns-then-one-other c = omega (arith, ints, clamps)

pub returns : goal.returns
returns c = omega (arith, ints, clamps)
