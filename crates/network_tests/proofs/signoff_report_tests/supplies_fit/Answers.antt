use Rattle.std.proofs.Common.{◌<◌, ◌≤◌, ◌≡◌, pos, neg_ℤ, ◌≤ℤ◌, length, get_or, All, subst, SFits, rules, arith}
use mir.Syntax.{w128}
use Rattle.std.proofs.lemmas.Int.{ints}
use Rattle.std.proofs.lemmas.List.{take_all}
use Rattle.std.proofs.lemmas.List.Elements.{All-more}
use Rattle.grid_net.specs.Limits.{IsInLimit, greatest_voltage}
use Rattle.signoff_report.specs.declared.records.NetLimit.{NetLimit}
use Rattle.network_tests.proofs.signoff_report_tests.supplies_fit.Goals as goal

pub loop-net-preserved : goal.loop-net-preserved
loop-net-preserved c =
    let fits : SFits w128 c.net-item.result.supply = search rules in
    let within : IsInLimit greatest_voltage c.net-item.result.supply = (omega (arith, ints), omega (arith, ints)) in
    All-more (λ (n : NetLimit). IsInLimit greatest_voltage n.supply) c.args.nets.now c.loop-net.net-index c.net-item.result (omega (arith, c.loop-net-test.true)) c.loop-net.invariant
    (subst (λ (z : NetLimit). IsInLimit greatest_voltage z.supply) c.net-item.is within)

pub returns : goal.returns
returns c = λ t. subst (λ z. All (λ (n : NetLimit). IsInLimit greatest_voltage n.supply) z) (take_all c.loop-net.net-index c.args.nets.now (omega (arith, c.loop-net-test.false))) c.loop-net.invariant
