use Rattle.grid_gen.specs.Design.{row_line}
use Rattle.grid_gen.proofs.Ranges.{grown_by_line}
use Rattle.grid_gen.proofs.design.append_rows.Goals as goal

pub loop-row-preserved : goal.loop-row-preserved
loop-row-preserved c = grown_by_line (row_line c.args.side) c.args.out.now.items _ _ c.loop-row.row c.loop-row.invariant c.in_ok-append_row.ensures
