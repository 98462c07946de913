use Rattle.std.proofs.Common.{◌≡◌, List, length}
use Rattle.grid_network.specs.declared.key.Key.{Key}
use Rattle.grid_network.specs.Nodes.{number_of}
use Rattle.grid_network.specs.inside.Steps.{TellsNumbers}
use Rattle.grid_network.proofs.Questions.{AreAnswered}
use Rattle.grid_network.proofs.question.numbers_of.Given as goal

abbrev pub invariant-loop-question : goal.invariant-loop-question
invariant-loop-question l = record { count : length l.numbers.items ≡ length l.question-items; answered : (keys : List Key) → TellsNumbers keys l.nodes.places.now l.nodes.numbers.now → AreAnswered (number_of keys) l.question-items l.numbers.items l.question-index }
