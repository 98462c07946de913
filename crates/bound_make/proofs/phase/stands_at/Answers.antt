use Rattle.std.proofs.Common.{◌≡◌, ◌∙◌, ◌+◌, ◌*◌, ℕ, ℤ, pos, ◌+ℤ◌, ◌-ℤ◌, ◌*ℤ◌, ◌≤ℤ◌, sym, arith, length, to_z, of_z, SFits}
use mir.Syntax.{w128}
use Rattle.std.proofs.lemmas.Int.{ints}
use Rattle.grid_net.specs.Network.{degree}
use Rattle.bound_make.specs.inside.Half.{seen}
use Rattle.bound_make.specs.inside.Moving.{held_sum}
use Rattle.bound_make.proofs.Seeing.{seen_network, unseen_no_pad, some_is_not_none}
use Rattle.bound_make.proofs.Moves.{raisable_values}
use Rattle.bound_make.proofs.Steps.{around_count}
use Rattle.bound_make.proofs.phase.stands_at.Goals as goal

pub returns-then-is_some-clause-full : goal.returns-then-is_some-clause-full
returns-then-is_some-clause-full c = λ _ none. absurd (some_is_not_none c.pad.result (sym c.is_some.ensures ∙ c.if-is_some.true) (c.pad.ensures ∙ unseen_no_pad c.args.half c.args.net.now c.args.node none))

pub returns-then-is_some-clause-trim : goal.returns-then-is_some-clause-trim
returns-then-is_some-clause-trim c = λ _ none. absurd (some_is_not_none c.pad.result (sym c.is_some.ensures ∙ c.if-is_some.true) (c.pad.ensures ∙ unseen_no_pad c.args.half c.args.net.now c.args.node none))

pub node_sum-spare-requires-clause-values : goal.node_sum-spare-requires-clause-values
node_sum-spare-requires-clause-values c = raisable_values (seen c.args.half c.args.net.now) (seen_network c.args.half c.args.net.now c.requires.built.is_network) c.args.x.now c.requires.raisable

pub returns-clause-full : goal.returns-clause-full
returns-clause-full c =
    let net = c.args.net.now in
    let node = c.args.node in
    let value : c.node_sum-spare.result ≡ held_sum (seen c.args.half net) c.args.x.now node = c.node_sum-spare.ensures.value in
    let fv : SFits w128 c.node_sum-spare.result = omega (arith, ints, c.node_sum-spare.ensures.within) in
    let fv2 : SFits w128 (c.node_sum-spare.result -ℤ pos 1) = omega (arith, ints, c.node_sum-spare.ensures.within) in
    λ _ _. omega (arith, ints, fv, fv2, value, c.if-spare-lt0.false)

pub returns-clause-trim : goal.returns-clause-trim
returns-clause-trim c =
    let net = c.args.net.now in
    let node = c.args.node in
    let value : c.node_sum-spare.result ≡ held_sum (seen c.args.half net) c.args.x.now node = c.node_sum-spare.ensures.value in
    let fv : SFits w128 c.node_sum-spare.result = omega (arith, ints, c.node_sum-spare.ensures.within) in
    let fv2 : SFits w128 (c.node_sum-spare.result -ℤ pos 1) = omega (arith, ints, c.node_sum-spare.ensures.within) in
    let around = c.around.result.now in
    let count = around_count net.resistors node around c.around.ensures c.requires.built.few_resistors in
    let sized : to_z w128 (of_z w128 (pos 64 *ℤ to_z w128 (of_z w128 (to_z w128 (length around) +ℤ pos 1)))) ≡ pos (64 * (degree net.resistors node + 1)) = omega (arith, ints, count) in
    λ _ _. omega (arith, ints, fv, fv2, value, sized, c.if-most-spare.false)
