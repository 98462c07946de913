use Rattle.std.proofs.Common.{◌∙◌, ap}
use Rattle.list_laws.specs.Among.{is_among}
use Rattle.list_laws.specs.Laws.Among.{told}
use Rattle.pdn_script.proofs.names.Names.contains.Goals as goal

pub returns : goal.returns
returns c = told c.self.inside.table c.args.name.now c.contains.result c.contains.ensures ∙ ap (λ z. is_among z c.args.name.now) c.self.view_is
