-- The pieces along both axes, in order.
use Rattle.wire_pieces.proofs.Merged.{merged, kept_merged}
use Rattle.wire_pieces.proofs.pieces.wire_pieces.Goals as goal

pub returns-clause-pieces : goal.returns-clause-pieces
returns-clause-pieces c =
    merged c.args.shapes.now c.in_ok-all.all.items c.in_ok-upright.upright.items c.append.new.self.items c.in_order.result.items c.in_ok-all.ensures.pieces c.in_ok-upright.ensures.pieces
    c.in_ok-append.ensures.items c.in_order.ensures.same c.in_order.ensures.in_order

pub returns-clause-keep : goal.returns-clause-keep
returns-clause-keep c =
    kept_merged c.in_ok-all.all.items c.in_ok-upright.upright.items c.append.new.self.items c.in_order.result.items c.in_ok-all.ensures.keep c.in_ok-upright.ensures.keep c.in_ok-append.ensures.items
    c.in_order.ensures.same
