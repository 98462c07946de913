use Rattle.std.proofs.Common.{◌≡◌, map, take}
use Rattle.grid_network.specs.Drawing.{key_at}
use Rattle.grid_network.specs.inside.Steps.{AreInTurn}
use Rattle.grid_network.proofs.question.asked_of_junctions.Given as goal

abbrev pub invariant-loop-junction : goal.invariant-loop-junction
invariant-loop-junction l = record { asked : map (λ q. q.key) l.questions.items ≡ map (λ j. key_at l.pieces j.piece j.along) (take l.junction-index l.junctions); in_turn : AreInTurn l.questions.items }
