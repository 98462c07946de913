use Rattle.std.proofs.Common.{arith, ◌∙◌}
use Rattle.std.proofs.lemmas.List.{take_rest}
use Rattle.outside.proofs.Sending.{more_sent}
use Rattle.outside.proofs.whole.send.Goals as goal

pub loop-sent-preserved : goal.loop-sent-preserved
loop-sent-preserved g c =
    let added = rw take_rest at c.in_ok-sent.ensures.added in (
      omega (arith, c.in_ok-sent.ensures.within),
      more_sent c.args.bytes.now c.loop-sent.sent c.in_ok-sent.field-0 (g.O.Sink.known c.args.out.now) (g.O.Sink.known c.loop-sent.out) (g.O.Sink.known c.write.new.self) c.loop-sent.invariant.1 added,
      c.in_ok-sent.ensures.calm ∙ c.loop-sent.invariant.2,
    )
