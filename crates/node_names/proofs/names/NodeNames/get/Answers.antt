use Rattle.std.proofs.Common.{position, ap, ◌∙◌}
use Rattle.std.specs.Str.{bytes_eq}
use Rattle.node_names.specs.Folding.{folded}
use Rattle.node_names.specs.inside.Keys.{name_in}
use Rattle.node_names.proofs.KeyLemmas.{position_named}
use Rattle.node_names.proofs.names.NodeNames.get.Goals as goal

pub returns-in_err-number : goal.returns-in_err-number
returns-in_err-number c =
    c.from_residual.ensures ∙ c.in_err-number.ensures.index
    ∙ position_named name_in (bytes_eq (folded c.args.name.now)) c.self.inside.keys.keys
    ∙ ap (position (bytes_eq (folded c.args.name.now))) c.self.view_is

pub returns : goal.returns
returns c =
    c.in_ok-number.ensures.index ∙ position_named name_in (bytes_eq (folded c.args.name.now)) c.self.inside.keys.keys
    ∙ ap (position (bytes_eq (folded c.args.name.now))) c.self.view_is
