use Rattle.std.proofs.Common.{◌∙◌}
use Rattle.grid_network.specs.declared.pad.Tap.{Tap}
use Rattle.grid_network.specs.Drawing.{key_at}
use Rattle.grid_network.specs.Nodes.{number_of}
use Rattle.grid_network.proofs.Questions.{made_of_keys}
use Rattle.grid_network.proofs.question.numbers_of_taps.Goals as goal

pub returns-clause-numbers : goal.returns-clause-numbers
returns-clause-numbers c keys told =
    c.in_ok-numbers.ensures.numbers keys told
    ∙ made_of_keys (number_of keys) (λ (t : Tap). key_at c.args.pieces.now t.piece t.along) c.in_ok-questions.questions.items c.args.taps.now c.in_ok-questions.ensures.asked
