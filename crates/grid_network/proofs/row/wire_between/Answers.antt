use Rattle.std.proofs.Common.{SFits, rules, to_z-of_z, ◌∙◌}
use mir.Syntax.{w128}
use Rattle.grid_network.specs.declared.branch.Branch.TheVariants.{Wire}
use Rattle.grid_network.proofs.row.wire_between.Goals as goal

pub returns : goal.returns
returns c =
    let fits : SFits w128 c.ohms_between.result = search rules in
    let ohms = to_z-of_z fits ∙ c.ohms_between.ensures in
    λ k. record { branch = Wire c.args.far.now.piece; first = c.key_of.ensures k; second = c.key_of-2.ensures k; ohms = ohms k }
