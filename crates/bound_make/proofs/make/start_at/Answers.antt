use Rattle.std.proofs.Common.{sym, subst, arith, SFits, rules}
use mir.Syntax.{w128}
use Rattle.std.proofs.lemmas.Int.{ints}
use Rattle.grid_net.specs.declared.part.Pad.{Pad}
use Rattle.grid_net.specs.Limits.{IsInLimit, greatest_voltage}
use Rattle.grid_net.specs.Laws.Pads.{first_is_of_list}
use Rattle.bound_make.proofs.make.start_at.Goals as goal

pub seen_from-requires : goal.seen_from-requires
seen_from-requires c =
    let q = first_is_of_list (λ (p : Pad). IsInLimit greatest_voltage p.volts) c.args.net.now.pads c.args.node c.in-Some.volts c.requires.built.voltages (sym c.in-Some.ensures) in
    let within = subst (IsInLimit greatest_voltage) q.2 q.3 in
    let fits : SFits w128 c.in-Some.volts = search rules in
    omega (arith, ints, within)
