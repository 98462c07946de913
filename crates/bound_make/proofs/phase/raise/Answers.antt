use Rattle.std.proofs.Common.{◌≡◌, ◌∙◌, ℕ, ℤ, pos, ◌+ℤ◌, ◌-ℤ◌, ◌≤ℤ◌, ◌<ℤ◌, refl, sym, arith, get_or, to_z-of_z, SFits, rules, None}
use mir.Syntax.{w128}
use Rattle.std.proofs.lemmas.Int.{ints}
use Rattle.grid_net.specs.Network.{outflow, pad_at, entry_of}
use Rattle.grid_net.specs.Laws.Search.{none_when_not_some}
use Rattle.bound_make.specs.inside.Half.{seen}
use Rattle.bound_make.specs.inside.Moving.{held_rule, held_sum, IsMovedAt}
use Rattle.bound_make.proofs.Seeing.{seen_network, seen_no_pad, unseen_no_pad, some_is_not_none}
use Rattle.bound_make.proofs.Moves.{RisesBy, raisable_values, raised_is, raised_room}
use Rattle.bound_make.proofs.phase.raise.Goals as goal

pub returns-then-is_some-clause-full : goal.returns-then-is_some-clause-full
returns-then-is_some-clause-full c = λ _. (refl, λ none. absurd (some_is_not_none c.pad.result (sym c.is_some.ensures ∙ c.if-is_some.true) (c.pad.ensures ∙ unseen_no_pad c.args.half c.args.net.now c.args.node none)))

pub node_sum-sum-requires-clause-values : goal.node_sum-sum-requires-clause-values
node_sum-sum-requires-clause-values c = raisable_values (seen c.args.half c.args.net.now) (seen_network c.args.half c.args.net.now c.requires.built.is_network) c.args.x.now c.requires.raisable

pub rise_step-requires-clause-values : goal.rise_step-requires-clause-values
rise_step-requires-clause-values c = raisable_values (seen c.args.half c.args.net.now) (seen_network c.args.half c.args.net.now c.requires.built.is_network) c.args.x.now c.requires.raisable

-- The entry that rises fits.
entry_fits : (c : goal.After-x-1) → SFits w128 (get_or c.args.x.now c.args.node (pos 0) +ℤ c.rise_step.result)
entry_fits c =
    let can = c.requires.raisable in
    let here = raisable_values (seen c.args.half c.args.net.now) (seen_network c.args.half c.args.net.now c.requires.built.is_network) c.args.x.now can c.args.node (pos 0) (omega (arith, can.size, c.requires.node_in)) in
    omega (arith, ints, here, c.rise_step.ensures.positive, c.rise_step.ensures.at_most)

pub overflow_add-x : goal.overflow_add-x
overflow_add-x c =
    let fx : SFits w128 (get_or c.args.x.now c.args.node (pos 0)) = search rules in
    let fs : SFits w128 c.rise_step.result = search rules in
    simp to_z-of_z (entry_fits c)

-- What the rise rests on.
rises : (c : goal.After-x-1) → RisesBy (seen c.args.half c.args.net.now) c.args.x.now c.args.node c.rise_step.result
rises c =
    let net = c.args.net.now in
    let x = c.args.x.now in
    let node = c.args.node in
    let ours = seen c.args.half net in
    let none : pad_at net node ≡ None = sym c.pad.ensures ∙ none_when_not_some c.pad.result (sym c.is_some.ensures ∙ c.if-is_some.false) in
    let value : c.node_sum-sum.result ≡ held_sum ours x node = c.node_sum-sum.ensures.value in
    let fv : SFits w128 c.node_sum-sum.result = omega (arith, ints, c.node_sum-sum.ensures.within) in
    let fm : SFits w128 (pos 1 -ℤ c.node_sum-sum.result) = omega (arith, ints, c.node_sum-sum.ensures.within) in
    let fs : SFits w128 c.rise_step.result = search rules in
    let short : held_sum ours x node <ℤ pos 1 = omega (arith, ints, fv, value, c.if-sum-ge1.false) in
    let told = simp to_z-of_z at c.rise_step.ensures.room in
    let room : (e : ℤ) (y : ℕ → ℤ) → pos 0 ≤ℤ e → e <ℤ c.rise_step.result → IsMovedAt net.nodes node e (entry_of x) y → outflow held_rule net.resistors y node <ℤ (outflow held_rule net.resistors (entry_of x) node +ℤ (pos 1 -ℤ held_sum ours x node)) = λ e y a b move. (let t = told e y a b move in omega (arith, ints, t, value)) in
    record { can = c.requires.raisable; node_in = c.requires.node_in; none = seen_no_pad c.args.half net node none; some = c.rise_step.ensures.positive; short = short; room = room }

pub returns-clause-kept : goal.returns-clause-kept
returns-clause-kept c =
    let fx : SFits w128 (get_or c.args.x.now c.args.node (pos 0)) = search rules in
    let fs : SFits w128 c.rise_step.result = search rules in
    let ft = entry_fits c in
    simp to_z-of_z (raised_is (seen c.args.half c.args.net.now) (seen_network c.args.half c.args.net.now c.requires.built.is_network) c.args.x.now c.args.node c.rise_step.result (rises c))

pub returns-clause-rose : goal.returns-clause-rose
returns-clause-rose c =
    let fx : SFits w128 (get_or c.args.x.now c.args.node (pos 0)) = search rules in
    let fs : SFits w128 c.rise_step.result = search rules in
    let ft = entry_fits c in
    simp to_z-of_z (λ _. raised_room (seen c.args.half c.args.net.now) (seen_network c.args.half c.args.net.now c.requires.built.is_network) c.args.x.now c.args.node c.rise_step.result (rises c))
