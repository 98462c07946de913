use Rattle.std.proofs.Common.{subst}
use Rattle.name_table.specs.Numbering.{AreDistinct}
use Rattle.node_names.specs.inside.Keys.{name_in}
use Rattle.node_names.proofs.KeyLemmas.{names_are_distinct}
use Rattle.node_names.proofs.names.NodeNames.len.Goals as goal

pub returns-clause-distinct : goal.returns-clause-distinct
returns-clause-distinct c = subst AreDistinct c.self.view_is (names_are_distinct name_in c.self.inside.keys.keys c.len.ensures.unique)
