use Rattle.std.proofs.Common.{List, get_or, ap, ◌∙◌}
use Rattle.std.specs.Prelude.{pos}
use Rattle.std.proofs.lemmas.List.{get_or-map}
use Rattle.grid_network.specs.declared.pad.Tap.{Tap}
use Rattle.grid_network.specs.Drawing.{key_at}
use Rattle.grid_network.specs.Nodes.{number_of}
use Rattle.grid_network.proofs.Growing.{map_more}
use Rattle.grid_network.proofs.extraction.loads_of.Goals as goal

pub loop-at-preserved : goal.loop-at-preserved
loop-at-preserved c keys told =
    let none : Tap = record { piece = 0; along = pos 0; low = pos 0; high = pos 0 } in
    let at = c.loop-at.at in
    let taps : List Tap = c.args.taps.now in
    let node = c.index.ensures ∙ ap (λ l. get_or l at c.index.result.now) (c.in_ok-numbers.ensures.numbers keys told) ∙ get_or-map (λ (t : Tap). number_of keys (key_at c.args.pieces.now t.piece t.along)) taps at none c.index.result.now c.loop-at-test.true in
    map_more (λ (t : Tap). record { node = number_of keys (key_at c.args.pieces.now t.piece t.along); low = t.low; high = t.high }) taps at none c.loop-at.standing.items c.push.new.self.items c.load_at.result c.loop-at-test.true
    (c.loop-at.invariant keys told) c.in_ok-push.ensures.items
    (c.load_at.ensures ∙ (λ i. record { node = node i; low = (get_or taps at none).low; high = (get_or taps at none).high }))
