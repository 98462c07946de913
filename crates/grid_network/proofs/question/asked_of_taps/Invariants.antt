use Rattle.std.proofs.Common.{◌≡◌, map, take}
use Rattle.grid_network.specs.Drawing.{key_at}
use Rattle.grid_network.specs.inside.Steps.{AreInTurn}
use Rattle.grid_network.proofs.question.asked_of_taps.Given as goal

abbrev pub invariant-loop-tap : goal.invariant-loop-tap
invariant-loop-tap l = record { asked : map (λ q. q.key) l.questions.items ≡ map (λ t. key_at l.pieces t.piece t.along) (take l.tap-index l.taps); in_turn : AreInTurn l.questions.items }
