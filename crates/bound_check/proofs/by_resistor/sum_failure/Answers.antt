use Rattle.std.proofs.Common.{◌≡◌, ◌∙◌, ap, sym, subst, arith, ℕ, ℤ, Option, pos, negsuc, ◌+ℤ◌, get_or, to_z-of_z, SFits, rules}
use mir.Syntax.{w64, w128}
use lib.Signed.{le_z}
use Rattle.grid_net.specs.Search.{or_else}
use Rattle.grid_net.specs.Network.{entry_of, low_load, high_load}
use Rattle.grid_net.specs.Certificate.{high_sum, low_sum}
use Rattle.bound_check.specs.declared.fails.Fails.{Fails}
use Rattle.bound_check.specs.declared.fails.Side.TheVariants.{High, Low}
use Rattle.bound_check.specs.Failing.{unless, sum_test}
use Rattle.std.proofs.lemmas.Int.{ints}
use Rattle.grid_net.specs.declared.part.Pad.{Pad}
use Rattle.grid_net.specs.Limits.{IsInLimit, greatest_voltage}
use Rattle.grid_net.specs.Laws.Pads.{first_is_of_list}
use Rattle.bound_check.proofs.by_resistor.sum_failure.Goals as goal

pub pad_failure-requires-clause-volts : goal.pad_failure-requires-clause-volts
pad_failure-requires-clause-volts c =
    let q = first_is_of_list (λ (p : Pad). IsInLimit greatest_voltage p.volts) c.args.net.now.pads c.args.node c.in-Some.volts c.requires.built.voltages (sym c.in-Some.ensures) in
    let within = subst (IsInLimit greatest_voltage) q.2 q.3 in
    let fits : SFits w128 c.in-Some.volts = search rules in
    (omega (arith, ints, within), omega (arith, ints, within))

-- The test of a node, by its two sums.
abbrev tested : ℕ → ℤ → ℤ → Option Fails
tested node high low = or_else (unless (le_z (pos 1) high) node High high) (unless (le_z low (negsuc 0)) node Low low)

pub returns-in-None : goal.returns-in-None
returns-in-None c =
    let net = c.args.net.now in
    let node = c.args.node in
    let x = entry_of c.args.high.now in
    let y = entry_of c.args.low.now in
    let sums = c.sums_of-sums.result in
    let fo : SFits w64 (get_or c.args.of_high.now node (pos 0)) = search rules in
    let fp : SFits w64 (get_or c.args.of_low.now node (pos 0)) = search rules in
    let fh : SFits w128 sums.high = omega (arith, ints, c.sums_of-sums.ensures.high_within) in
    let fl : SFits w128 sums.low = omega (arith, ints, c.sums_of-sums.ensures.low_within) in
    let of_high = simp to_z-of_z at c.sums_of-sums.ensures.high in
    let of_low = simp to_z-of_z at c.sums_of-sums.ensures.low in
    let high : sums.high ≡ high_sum net x node = of_high ∙ ap (λ z. z +ℤ low_load net node) (c.requires.of_high.each node c.requires.node_in) in
    let low : sums.low ≡ low_sum net y node = of_low ∙ ap (λ z. z +ℤ high_load net node) (c.requires.of_low.each node c.requires.node_in) in
    let found : c.total_failure.result ≡ tested node sums.high sums.low = simp to_z-of_z at c.total_failure.ensures in
    found
    ∙ ap (λ z. tested node z sums.low) high
    ∙ ap (λ z. tested node (high_sum net x node) z) low
    ∙ ap (sum_test net x y node) c.in-None.ensures
