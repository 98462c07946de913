use Rattle.std.proofs.Common.{sym, ◌∙◌}
use Rattle.spice_cards.proofs.Values.{grounded_found, floating_found}
use Rattle.spice_cards.proofs.fault.volts_value.Goals as goal

pub returns-then-is_grounded : goal.returns-then-is_grounded
returns-then-is_grounded c = grounded_found c.args.a.now c.args.b.now c.args.text.now c.wide_at.result (sym c.is_grounded.ensures ∙ c.if-is_grounded.true) c.wide_at.ensures

pub returns-else-is_grounded : goal.returns-else-is_grounded
returns-else-is_grounded c = floating_found c.args.a.now c.args.b.now c.args.text.now c.floating_value.result (sym c.is_grounded.ensures ∙ c.if-is_grounded.false) c.floating_value.ensures
