use Rattle.std.proofs.Common.{not, sym, ap, ◌∙◌}
use Rattle.grid_taps.proofs.Supplies.{bare_iff, true_of}
use Rattle.grid_taps.proofs.supply.is_bare.Goals as goal

pub returns : goal.returns
returns c =
    let iff = bare_iff c.args.grid.now c.args.bias.now c.args.volts.now c.args.net c.requires c.volts_at.result c.volts_at.ensures in
    (λ h. iff.0 (c.is_none.ensures ∙ ap not h), λ none. true_of c.is_none.result (sym c.is_none.ensures ∙ iff.1 none))
