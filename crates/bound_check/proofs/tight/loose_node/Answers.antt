use Rattle.std.proofs.Common.{◌∙◌, ap, sym, subst, arith, ℕ, ℤ, Option, Some, None, cond, to_z-of_z, SFits, rules}
use mir.Syntax.{w128}
use lib.Signed.{le_z}
use Rattle.std.proofs.lemmas.Int.{ints}
use Rattle.grid_net.specs.declared.part.Pad.{Pad}
use Rattle.grid_net.specs.Limits.{IsInLimit, greatest_voltage}
use Rattle.grid_net.specs.Network.{entry_of}
use Rattle.grid_net.specs.Laws.Pads.{first_is_of_list}
use Rattle.bound_check.specs.Loose.{excess, greatest_excess}
use Rattle.bound_check.proofs.tight.loose_node.Goals as goal

pub pad_excess-requires-clause-volts : goal.pad_excess-requires-clause-volts
pad_excess-requires-clause-volts c =
    let q = first_is_of_list (λ (p : Pad). IsInLimit greatest_voltage p.volts) c.args.net.now.pads c.args.node c.in-Some.volts c.requires.built.voltages (sym c.in-Some.ensures) in
    let within = subst (IsInLimit greatest_voltage) q.2 q.3 in
    let fits : SFits w128 c.in-Some.volts = search rules in
    (omega (arith, ints, within), omega (arith, ints, within))

pub returns-in-Some : goal.returns-in-Some
returns-in-Some c =
    let net = c.args.net.now in
    let x = entry_of c.args.high.now in
    let y = entry_of c.args.low.now in
    let i = c.args.node in
    let tested : Option ℤ → ℤ → Option (ℕ × ℤ) = λ o e. cond (le_z e (greatest_excess net i o)) None (Some (i, e)) in
    let fv : SFits w128 c.in-Some.volts = search rules in
    let fh : SFits w128 (x i) = search rules in
    let fl : SFits w128 (y i) = search rules in
    let fe : SFits w128 c.pad_excess.result = search rules in
    let found = simp to_z-of_z at c.unless_at_most.ensures in
    let value = simp to_z-of_z at c.pad_excess.ensures in
    found ∙ ap (tested (Some c.in-Some.volts)) value ∙ ap (λ o. tested o (excess net x y i o)) c.in-Some.ensures
