use Rattle.bias_file.proofs.Limits.{lists_kept}
use Rattle.bias_file.proofs.read.bias_of.Goals as goal

pub returns-clause-keeps : goal.returns-clause-keeps
returns-clause-keeps c = λ units h. lists_kept c.values_fit_their_places.ensures.limit c.values_fit_their_places.ensures.sign units c.args.lists _ h
    c.into_entries.ensures.entries c.into_entries-2.ensures.entries c.new.ensures c.into_entries-3.ensures.entries c.into_entries-4.ensures.entries
    c.into_entries.ensures.distinct c.into_entries-2.ensures.distinct c.into_entries-3.ensures.distinct c.into_entries-4.ensures.distinct
