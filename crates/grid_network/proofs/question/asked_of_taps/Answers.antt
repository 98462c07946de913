use Rattle.std.proofs.Common.{◌≡◌, map, List, subst}
use Rattle.std.specs.Prelude.{pos}
use Rattle.std.proofs.lemmas.List.{take_all}
use Rattle.grid_network.specs.declared.pad.Tap.{Tap}
use Rattle.grid_network.specs.Drawing.{key_at}
use Rattle.grid_network.proofs.Questions.{in_turn_more, keys_more}
use Rattle.grid_network.proofs.question.asked_of_taps.Goals as goal

pub loop-tap-preserved : goal.loop-tap-preserved
loop-tap-preserved c = record {
  asked = keys_more (λ (t : Tap). key_at c.args.pieces.now t.piece t.along) c.args.taps.now c.loop-tap.tap-index (record { piece = 0; along = pos 0; low = pos 0; high = pos 0 }) c.loop-tap.questions.items c.ask.new.questions.items _ c.loop-tap-test.true
      c.loop-tap.invariant.asked c.in_ok-ask.ensures c.key_at_tap.ensures;
  in_turn = in_turn_more c.loop-tap.questions.items c.ask.new.questions.items _ c.loop-tap.invariant.in_turn c.in_ok-ask.ensures;
}

pub returns-clause-asked : goal.returns-clause-asked
returns-clause-asked c =
    subst (λ (l : List Tap). map (λ q. q.key) c.loop-tap.questions.items ≡ map (λ (t : Tap). key_at c.args.pieces.now t.piece t.along) l)
    (take_all c.loop-tap.tap-index c.args.taps.now c.loop-tap-test.false) c.loop-tap.invariant.asked
