use Rattle.std.proofs.Common.{◌≡◌, map, List, subst}
use Rattle.std.specs.Prelude.{pos}
use Rattle.std.proofs.lemmas.List.{take_all}
use Rattle.grid_network.specs.declared.junction.Junction.{Junction}
use Rattle.grid_network.specs.Drawing.{key_at}
use Rattle.grid_network.proofs.Questions.{in_turn_more, keys_more}
use Rattle.grid_network.proofs.question.asked_of_junctions.Goals as goal

pub loop-junction-preserved : goal.loop-junction-preserved
loop-junction-preserved c = record {
  asked = keys_more (λ (j : Junction). key_at c.args.pieces.now j.piece j.along) c.args.junctions.now c.loop-junction.junction-index (record { piece = 0; along = pos 0 }) c.loop-junction.questions.items c.ask.new.questions.items _ c.loop-junction-test.true
      c.loop-junction.invariant.asked c.in_ok-ask.ensures c.key_at.ensures;
  in_turn = in_turn_more c.loop-junction.questions.items c.ask.new.questions.items _ c.loop-junction.invariant.in_turn c.in_ok-ask.ensures;
}

pub returns-clause-asked : goal.returns-clause-asked
returns-clause-asked c =
    subst (λ (l : List Junction). map (λ q. q.key) c.loop-junction.questions.items ≡ map (λ (j : Junction). key_at c.args.pieces.now j.piece j.along) l)
    (take_all c.loop-junction.junction-index c.args.junctions.now c.loop-junction-test.false) c.loop-junction.invariant.asked
