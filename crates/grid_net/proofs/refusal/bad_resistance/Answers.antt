use Rattle.std.proofs.Common.{◌∙◌, SFits, get_or, pos, to_z-of_z, rules}
use mir.Syntax.{w128}
use Rattle.grid_net.specs.declared.part.Resistor.{Resistor}
use Rattle.grid_net.specs.declared.error.Quantity.TheVariants.{Resistance}
use Rattle.grid_net.specs.Building.{resistance_fits}
use Rattle.grid_net.proofs.Refusals.{unfit_none, unfit_some}
use Rattle.grid_net.proofs.refusal.bad_resistance.Goals as goal

pub returns-in_err-at : goal.returns-in_err-at
returns-in_err-at c = c.from_residual.ensures ∙ unfit_none Resistance resistance_fits (λ (x : Resistor). x.ohms) c.args.resistors.now c.in_err-at.ensures

pub returns : goal.returns
returns c =
    let entry : Resistor = get_or c.args.resistors.now c.in_ok-at.at (record { a = 0; b = 0; ohms = pos 0 }) in
    let fits : SFits w128 entry.ohms = search rules in
    unfit_some Resistance resistance_fits (λ (x : Resistor). x.ohms) c.args.resistors.now c.in_ok-at.at (record { a = 0; b = 0; ohms = pos 0 }) _ c.in_ok-at.ensures (to_z-of_z fits)
