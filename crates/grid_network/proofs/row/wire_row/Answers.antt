use Rattle.std.proofs.Common.{sym, ◌∙◌}
use Rattle.grid_network.proofs.WireEnds.{wire_row_is}
use Rattle.grid_network.proofs.row.wire_row.Goals as goal

pub returns-in-Some : goal.returns-in-Some
returns-in-Some c keys are =
    wire_row_is c.args.layers.now c.args.pieces.now keys c.args.junctions.now c.args.ends.now c.args.i c.in-Some.wire c.row_between.result are c.requires.within
    (sym c.wire_to.ensures ∙ c.in-Some.is) c.row_between.ensures
