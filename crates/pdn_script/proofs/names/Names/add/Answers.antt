use Rattle.std.proofs.Common.{◌∙◌, ap}
use Rattle.pdn_script.specs.Names.{with_name}
use Rattle.pdn_script.proofs.Standing.{added}
use Rattle.pdn_script.proofs.names.Names.add.Goals as goal

pub returns : goal.returns
returns c = added c.self.inside.table c.number.new.self c.args.name.now c.in-Ok.ensures.taken ∙ ap (λ z. with_name z c.args.name.now) c.self.view_is
