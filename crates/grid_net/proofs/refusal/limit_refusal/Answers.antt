use Rattle.std.proofs.Common.{refl, ◌≡◌, ◌∙◌, sym, ap, ℕ, List, Option, Some, None, IfNone}
use Rattle.std.specs.Option.{option_map}
use Rattle.grid_net.specs.declared.part.Resistor.{Resistor}
use Rattle.grid_net.specs.declared.part.Pad.{Pad}
use Rattle.grid_net.specs.declared.part.Load.{Load}
use Rattle.grid_net.specs.declared.error.NetError.{NetError}
use Rattle.grid_net.specs.declared.error.NetError.TheVariants.{BadEnd}
use Rattle.grid_net.specs.Building.{KeepsLimits}
use Rattle.grid_net.proofs.Accepted.{limits_from_tests}
use Rattle.grid_net.proofs.refusal.limit_refusal.Goals as goal

kept : (n : ℕ) (rs : List Resistor) (ps : List Pad) (ls : List Load) (o : Option NetError) → (o ≡ None → KeepsLimits n rs ps ls) → IfNone o (KeepsLimits n rs ps ls)
kept n rs ps ls None h = h refl
kept n rs ps ls (Some e) h = tt

pub returns-clause-kept : goal.returns-clause-kept
returns-clause-kept c =
    kept c.args.nodes c.args.resistors.now c.args.pads.now c.args.loads.now c.beyond_limit.result (λ e. limits_from_tests c.args.nodes c.args.resistors.now c.args.pads.now c.args.loads.now (ap (option_map (λ at. BadEnd at)) (sym c.in_default.ensures)) (sym c.beyond_limit.ensures ∙ e))
