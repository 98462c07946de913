use Rattle.std.proofs.Common.{◌≡◌, ◌∙◌, ◌+◌, ◌*◌, ℕ, ℤ, pos, neg_ℤ, ◌+ℤ◌, ◌-ℤ◌, ◌*ℤ◌, ◌≤ℤ◌, ◌<ℤ◌, refl, sym, arith, length, get_or, to_z, of_z, to_z-of_z, SFits, rules, None}
use mir.Syntax.{w128}
use Rattle.std.proofs.lemmas.Int.{ints}
use Rattle.grid_net.specs.Network.{outflow, pad_at, entry_of, degree}
use Rattle.grid_net.specs.Laws.Search.{none_when_not_some}
use Rattle.bound_make.specs.inside.Half.{seen}
use Rattle.bound_make.specs.inside.Moving.{held_rule, held_sum, IsMovedAt}
use Rattle.bound_make.proofs.Seeing.{seen_network, seen_no_pad, unseen_no_pad, some_is_not_none}
use Rattle.bound_make.proofs.Moves.{FallsBy, lowerable_values, lowered_is, lowered_room}
use Rattle.bound_make.proofs.Steps.{around_count}
use Rattle.bound_make.proofs.phase.lower.Goals as goal

pub returns-then-is_some-clause-trim : goal.returns-then-is_some-clause-trim
returns-then-is_some-clause-trim c = λ _. (refl, λ none. absurd (some_is_not_none c.pad.result (sym c.is_some.ensures ∙ c.if-is_some.true) (c.pad.ensures ∙ unseen_no_pad c.args.half c.args.net.now c.args.node none)))

pub node_sum-spare-requires-clause-values : goal.node_sum-spare-requires-clause-values
node_sum-spare-requires-clause-values c = lowerable_values (seen c.args.half c.args.net.now) (seen_network c.args.half c.args.net.now c.requires.built.is_network) c.args.x.now c.requires.lowerable

pub fall_step-requires-clause-values : goal.fall_step-requires-clause-values
fall_step-requires-clause-values c = lowerable_values (seen c.args.half c.args.net.now) (seen_network c.args.half c.args.net.now c.requires.built.is_network) c.args.x.now c.requires.lowerable

pub returns-then-spare-most-clause-trim : goal.returns-then-spare-most-clause-trim
returns-then-spare-most-clause-trim c =
    let net = c.args.net.now in
    let node = c.args.node in
    let value : c.node_sum-spare.result ≡ held_sum (seen c.args.half net) c.args.x.now node = c.node_sum-spare.ensures.value in
    let fv : SFits w128 c.node_sum-spare.result = omega (arith, ints, c.node_sum-spare.ensures.within) in
    let fv2 : SFits w128 (c.node_sum-spare.result -ℤ pos 1) = omega (arith, ints, c.node_sum-spare.ensures.within) in
    let around = c.around.result.now in
    let count = around_count net.resistors node around c.around.ensures c.requires.built.few_resistors in
    let sized : to_z w128 (of_z w128 (pos 64 *ℤ to_z w128 (of_z w128 (to_z w128 (length around) +ℤ pos 1)))) ≡ pos (64 * (degree net.resistors node + 1)) = omega (arith, ints, count) in
    λ _. (refl, λ _. omega (arith, ints, fv, fv2, value, sized, c.if-spare-most.true))

pub fall_step-requires-clause-spare : goal.fall_step-requires-clause-spare
fall_step-requires-clause-spare c =
    let net = c.args.net.now in
    let node = c.args.node in
    let fv : SFits w128 c.node_sum-spare.result = omega (arith, ints, c.node_sum-spare.ensures.within) in
    let fv2 : SFits w128 (c.node_sum-spare.result -ℤ pos 1) = omega (arith, ints, c.node_sum-spare.ensures.within) in
    let around = c.around.result.now in
    let count = around_count net.resistors node around c.around.ensures c.requires.built.few_resistors in
    let sized : to_z w128 (of_z w128 (pos 64 *ℤ to_z w128 (of_z w128 (to_z w128 (length around) +ℤ pos 1)))) ≡ pos (64 * (degree net.resistors node + 1)) = omega (arith, ints, count) in
    omega (arith, ints, fv, fv2, sized, c.if-spare-most.false)

-- The entry that falls fits.
entry_fits : (c : goal.After-x-1) → SFits w128 (get_or c.args.x.now c.args.node (pos 0) -ℤ c.fall_step.result)
entry_fits c =
    let can = c.requires.lowerable in
    let here = lowerable_values (seen c.args.half c.args.net.now) (seen_network c.args.half c.args.net.now c.requires.built.is_network) c.args.x.now can c.args.node (pos 0) (omega (arith, can.size, c.requires.node_in)) in
    omega (arith, ints, here, c.fall_step.ensures.positive, c.fall_step.ensures.at_most)

pub overflow_sub-x : goal.overflow_sub-x
overflow_sub-x c =
    let fx : SFits w128 (get_or c.args.x.now c.args.node (pos 0)) = search rules in
    let fs : SFits w128 c.fall_step.result = search rules in
    simp to_z-of_z (entry_fits c)

-- What the fall rests on.
falls : (c : goal.After-x-1) → FallsBy (seen c.args.half c.args.net.now) c.args.x.now c.args.node c.fall_step.result
falls c =
    let net = c.args.net.now in
    let x = c.args.x.now in
    let node = c.args.node in
    let ours = seen c.args.half net in
    let none : pad_at net node ≡ None = sym c.pad.ensures ∙ none_when_not_some c.pad.result (sym c.is_some.ensures ∙ c.if-is_some.false) in
    let value : c.node_sum-spare.result ≡ held_sum (seen c.args.half net) c.args.x.now node = c.node_sum-spare.ensures.value in
    let fv : SFits w128 c.node_sum-spare.result = omega (arith, ints, c.node_sum-spare.ensures.within) in
    let fv2 : SFits w128 (c.node_sum-spare.result -ℤ pos 1) = omega (arith, ints, c.node_sum-spare.ensures.within) in
    let around = c.around.result.now in
    let count = around_count net.resistors node around c.around.ensures c.requires.built.few_resistors in
    let sized : to_z w128 (of_z w128 (pos 64 *ℤ to_z w128 (of_z w128 (to_z w128 (length around) +ℤ pos 1)))) ≡ pos (64 * (degree net.resistors node + 1)) = omega (arith, ints, count) in
    let fs : SFits w128 c.fall_step.result = search rules in
    let loose : pos (64 * (degree net.resistors node + 1)) <ℤ (held_sum ours x node -ℤ pos 1) = omega (arith, ints, fv, fv2, value, sized, c.if-spare-most.false) in
    let told = simp to_z-of_z at c.fall_step.ensures.room in
    let room : (y : ℕ → ℤ) → IsMovedAt net.nodes node (neg_ℤ c.fall_step.result) (entry_of x) y → (outflow held_rule net.resistors (entry_of x) node -ℤ (held_sum ours x node -ℤ pos 1)) ≤ℤ outflow held_rule net.resistors y node = λ y move. (let t = told y move in omega (arith, ints, t, value)) in
    record { can = c.requires.lowerable; node_in = c.requires.node_in; none = seen_no_pad c.args.half net node none; some = c.fall_step.ensures.positive; loose = loose; room = room }

pub returns-clause-kept : goal.returns-clause-kept
returns-clause-kept c =
    let fx : SFits w128 (get_or c.args.x.now c.args.node (pos 0)) = search rules in
    let fs : SFits w128 c.fall_step.result = search rules in
    let ft = entry_fits c in
    simp to_z-of_z (lowered_is (seen c.args.half c.args.net.now) (seen_network c.args.half c.args.net.now c.requires.built.is_network) c.args.x.now c.args.node c.fall_step.result (falls c))

pub returns-clause-fell : goal.returns-clause-fell
returns-clause-fell c =
    let fx : SFits w128 (get_or c.args.x.now c.args.node (pos 0)) = search rules in
    let fs : SFits w128 c.fall_step.result = search rules in
    let ft = entry_fits c in
    simp to_z-of_z (λ _. lowered_room (seen c.args.half c.args.net.now) (seen_network c.args.half c.args.net.now c.requires.built.is_network) c.args.x.now c.args.node c.fall_step.result (falls c))
