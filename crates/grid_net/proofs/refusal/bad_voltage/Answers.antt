use Rattle.std.proofs.Common.{◌∙◌, SFits, get_or, pos, to_z-of_z, rules}
use mir.Syntax.{w128}
use Rattle.grid_net.specs.declared.part.Pad.{Pad}
use Rattle.grid_net.specs.declared.error.Quantity.TheVariants.{Voltage}
use Rattle.grid_net.specs.Building.{voltage_fits}
use Rattle.grid_net.proofs.Refusals.{unfit_none, unfit_some}
use Rattle.grid_net.proofs.refusal.bad_voltage.Goals as goal

pub returns-in_err-at : goal.returns-in_err-at
returns-in_err-at c = c.from_residual.ensures ∙ unfit_none Voltage voltage_fits (λ (x : Pad). x.volts) c.args.pads.now c.in_err-at.ensures

pub returns : goal.returns
returns c =
    let entry : Pad = get_or c.args.pads.now c.in_ok-at.at (record { node = 0; volts = pos 0 }) in
    let fits : SFits w128 entry.volts = search rules in
    unfit_some Voltage voltage_fits (λ (x : Pad). x.volts) c.args.pads.now c.in_ok-at.at (record { node = 0; volts = pos 0 }) _ c.in_ok-at.ensures (to_z-of_z fits)
