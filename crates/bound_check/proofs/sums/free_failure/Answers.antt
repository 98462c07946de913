use Rattle.std.proofs.Common.{◌≡◌, ◌∙◌, ap, arith, ℕ, ℤ, Option, pos, negsuc, to_z-of_z, SFits}
use mir.Syntax.{w128}
use lib.Signed.{le_z}
use Rattle.std.proofs.lemmas.Int.{ints}
use Rattle.grid_net.specs.Search.{or_else}
use Rattle.grid_net.specs.Network.{entry_of}
use Rattle.grid_net.specs.Certificate.{high_sum}
use Rattle.bound_check.specs.declared.fails.Fails.{Fails}
use Rattle.bound_check.specs.declared.fails.Side.TheVariants.{High, Low}
use Rattle.bound_check.specs.Failing.{unless}
use Rattle.bound_check.proofs.sums.free_failure.Goals as goal

-- The test of a node, by its two sums.
abbrev tested : ℕ → ℤ → ℤ → Option Fails
tested node high low = or_else (unless (le_z (pos 1) high) node High high) (unless (le_z low (negsuc 0)) node Low low)

pub returns : goal.returns
returns c =
    let node = c.args.node in
    let sums = c.node_sums-sums.result in
    let fh : SFits w128 sums.high = omega (arith, ints, c.node_sums-sums.ensures.high_within) in
    let fl : SFits w128 sums.low = omega (arith, ints, c.node_sums-sums.ensures.low_within) in
    let found : c.total_failure.result ≡ tested node sums.high sums.low = simp to_z-of_z at c.total_failure.ensures in
    found
    ∙ ap (λ z. tested node z sums.low) c.node_sums-sums.ensures.high
    ∙ ap (λ z. tested node (high_sum c.args.net.now (entry_of c.args.high.now) node) z) c.node_sums-sums.ensures.low
