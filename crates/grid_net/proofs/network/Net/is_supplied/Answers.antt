use Rattle.std.proofs.Common.{◌∙◌, sym}
use Rattle.grid_net.proofs.Levels.{supplied_by, unsupplied_by}
use Rattle.grid_net.proofs.network.Net.is_supplied.Goals as goal

pub returns-clause-yes : goal.returns-clause-yes
returns-clause-yes c = λ e. supplied_by c.args.self.now c.args.node c.level.result c.level.ensures (sym c.is_some.ensures ∙ e)

pub returns-clause-no : goal.returns-clause-no
returns-clause-no c = λ e. unsupplied_by c.args.self.now c.args.node c.level.result c.level.ensures (sym c.is_some.ensures ∙ e)
