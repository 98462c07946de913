use Rattle.std.proofs.Common.{◌≡◌, ℕ, ◌<◌, ◌≤◌, ◌^◌, List, [], length, take, map, get_or, pos, None, ap, sym, subst, arith}
use Rattle.std.specs.List.{enumerate_from}
use Rattle.std.proofs.lemmas.List.{take_all}
use Rattle.em_rules.specs.declared.words.Verdict.{Verdict}
use Rattle.signoff_report.specs.declared.records.NetLimit.{NetLimit}
use Rattle.signoff_report.specs.Judged.{net_verdict}
use Rattle.signoff_report.specs.Counted.{IsTally}
use Rattle.signoff_report.proofs.Tallies.{room, one_more, numbered_pushed, numbered_few}
use Rattle.signoff_report.proofs.counting.count_nets.Goals as goal

pub add-tally-requires : goal.add-tally-requires
add-tally-requires c =
    let nets : List NetLimit = c.args.limits.now.nets in
    let i = c.loop-net.net in
    let f = λ (net : ℕ × NetLimit). net_verdict c.args.certified.now c.args.limits.now net.0 net.1 in
    let within : i ≤ length nets = omega (arith, c.loop-net-test.true, c.net_count-net-end.ensures) in
    let count = numbered_few f nets i within in
    room (map f (enumerate_from 0 (take i nets))) c.loop-net.tally c.loop-net.invariant (omega (arith, count, c.requires.few_nets))

pub loop-net-preserved : goal.loop-net-preserved
loop-net-preserved c =
    let none : NetLimit = record { name = []; supply = pos 0; drop = None } in
    let nets : List NetLimit = c.args.limits.now.nets in
    let i = c.loop-net.net in
    let f = λ (net : ℕ × NetLimit). net_verdict c.args.certified.now c.args.limits.now net.0 net.1 in
    let within : i < length nets = omega (arith, c.loop-net-test.true, c.net_count-net-end.ensures) in
    let old = map f (enumerate_from 0 (take i nets)) in
    one_more old _ c.net_verdict.result (f (i, get_or nets i none)) c.add-tally.result (c.add-tally.ensures old c.loop-net.invariant) c.net_verdict.ensures (numbered_pushed f nets i none within)

pub returns : goal.returns
returns c =
    let nets : List NetLimit = c.args.limits.now.nets in
    let f = λ (net : ℕ × NetLimit). net_verdict c.args.certified.now c.args.limits.now net.0 net.1 in
    let past : length nets ≤ c.loop-net.net = omega (arith, c.loop-net-test.false, c.net_count-net-end.ensures) in
    subst (λ (l : List NetLimit). IsTally (map f (enumerate_from 0 l)) c.loop-net.tally) (take_all c.loop-net.net nets past) c.loop-net.invariant
