use Rattle.lef_cells.specs.Limits.{CellsKeep}
use Rattle.lef_cells.proofs.One.{cells_read, cells_keep}
use Rattle.lef_cells.proofs.read.read_cells.Goals as goal

pub returns-in-Ok-read_into-clause-reads : goal.returns-in-Ok-read_into-clause-reads
returns-in-Ok-read_into-clause-reads c =
    cells_read c.args.text.now c.read_into.new.said c.in-Ok-read_into.field-0 c.cells_of.result c.in-Ok-read_into.ensures c.cells_of.ensures.is

pub returns-in-Ok-read_into-clause-keeps : goal.returns-in-Ok-read_into-clause-keeps
returns-in-Ok-read_into-clause-keeps c =
    cells_keep c.args.text.now c.read_into.new.said c.in-Ok-read_into.field-0 (CellsKeep c.cells_of.result) c.in-Ok-read_into.ensures c.cells_of.ensures.keeps
