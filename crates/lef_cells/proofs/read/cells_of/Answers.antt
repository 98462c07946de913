use Rattle.lef_cells.proofs.Limits.{cells_is, cells_kept}
use Rattle.lef_cells.proofs.read.cells_of.Goals as goal

pub returns-clause-is : goal.returns-clause-is
returns-clause-is c = λ units h. cells_is units c.args.said _ h c.into_entries.ensures.entries c.into_entries-2.ensures.entries

pub returns-clause-keeps : goal.returns-clause-keeps
returns-clause-keeps c = λ units h.
    cells_kept c.values_fit_their_places.ensures.limit units c.args.said _ h c.into_entries.ensures.entries c.into_entries-2.ensures.entries
    c.into_entries.ensures.distinct c.into_entries-2.ensures.distinct
