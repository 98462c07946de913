use Rattle.std.proofs.Common.{ap, not}
use Rattle.lef_cells.specs.Laws.Joining.{told_of}
use Rattle.lef_cells.proofs.join.is_new.Goals as goal

pub returns : goal.returns
returns g c = ap not (told_of c.args.names.now c.name.result.now (g.T.HasName.name_of c.args.entry.now) c.contains.result c.name.ensures c.contains.ensures)
