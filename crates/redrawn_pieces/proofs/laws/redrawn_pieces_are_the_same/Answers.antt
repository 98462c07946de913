use Rattle.redrawn_pieces.proofs.Same.{one_again}
use Rattle.redrawn_pieces.proofs.laws.redrawn_pieces_are_the_same.Goals as goal

pub returns : goal.returns
returns s drawn blocks pieces again shapes are redrawn wires = one_again drawn blocks pieces are shapes redrawn again wires
