use Rattle.std.proofs.Common.{pos}
use Rattle.grid_network.specs.declared.pad.PadOn.{PadOn}
use Rattle.grid_network.specs.Drawing.{key_at}
use Rattle.grid_network.specs.Nodes.{number_of}
use Rattle.grid_network.proofs.Growing.{map_more}
use Rattle.grid_network.proofs.extraction.pads_of.Goals as goal

pub loop-pad-preserved : goal.loop-pad-preserved
loop-pad-preserved c keys told =
    map_more (λ (p : PadOn). record { node = number_of keys (key_at c.args.pieces.now p.piece p.along); volts = p.volts }) c.args.pads.now c.loop-pad.pad-index (record { piece = 0; along = pos 0; volts = pos 0 }) c.loop-pad.standing.items c.push.new.self.items c.pad_of.result c.loop-pad-test.true
    (c.loop-pad.invariant keys told) c.in_ok-push.ensures.items (c.pad_of.ensures keys told)
