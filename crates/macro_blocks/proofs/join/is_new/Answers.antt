use Rattle.std.proofs.Common.{ap, not}
use Rattle.macro_blocks.specs.Record.{name_of}
use Rattle.lef_cells.specs.Laws.Joining.{told_of}
use Rattle.macro_blocks.proofs.join.is_new.Goals as goal

pub returns : goal.returns
returns c = ap not (told_of c.args.names.now c.bytes.result.now (name_of c.args.cell.now) c.contains.result c.bytes.ensures c.contains.ensures)
