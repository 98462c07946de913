use Rattle.std.proofs.Common.{◌≡◌, ◌+◌, ◌<◌, inl, inr, None, All, Contains, length, get_or, subst, sym, arith}
use Rattle.std.proofs.lemmas.List.Elements.{All-contains}
use Rattle.grid_stacks.specs.declared.connect.Connect.{Connect}
use Rattle.grid_stacks.specs.Crossing.{IsUsed}
use Rattle.grid_stacks.specs.Stacking.{ConnectKeeps}
use Rattle.grid_stacks.specs.inside.Standing.{AreUsedTo, IsStandingTo}
use Rattle.grid_stacks.proofs.RunSteps.{at_get, at_contains}
use Rattle.grid_stacks.proofs.Bridge.{standing_none, standing_others, standing_more, standing_all}
use Rattle.grid_stacks.proofs.places.standing.Goals as goal

nothing : Connect
nothing = record { from = 0; to = 0; max_columns = None; max_rows = None }

pub add_sites-requires-clause-along : goal.add_sites-requires-clause-along
unfolding nothing
add_sites-requires-clause-along c =
    let used = c.deref-connect-items.result.now in
    let i = c.loop-connect.connect-index in
    let are : AreUsedTo c.args.connects.now (length c.args.connects.now) used = subst (AreUsedTo c.args.connects.now (length c.args.connects.now)) (sym c.deref-connect-items.ensures.value) c.in_ok-used.ensures in
    let is : IsUsed c.args.connects.now (get_or used i nothing) = are.each i nothing c.loop-connect-test.true in
    λ piece has on. c.requires.along (get_or used i nothing) piece (at_contains c.args.connects.now is.place (get_or used i nothing) is.is) has on

pub add_sites-requires-clause-connect : goal.add_sites-requires-clause-connect
unfolding nothing
add_sites-requires-clause-connect c =
    let used = c.deref-connect-items.result.now in
    let i = c.loop-connect.connect-index in
    let are : AreUsedTo c.args.connects.now (length c.args.connects.now) used = subst (AreUsedTo c.args.connects.now (length c.args.connects.now)) (sym c.deref-connect-items.ensures.value) c.in_ok-used.ensures in
    let is : IsUsed c.args.connects.now (get_or used i nothing) = are.each i nothing c.loop-connect-test.true in
    All-contains (ConnectKeeps c.args.tech.now) c.args.connects.now (get_or used i nothing) c.requires.connects (at_contains c.args.connects.now is.place (get_or used i nothing) is.is)

pub add_sites-requires-clause-others : goal.add_sites-requires-clause-others
unfolding nothing
add_sites-requires-clause-others c =
    let used = c.deref-connect-items.result.now in
    let i = c.loop-connect.connect-index in
    let are : AreUsedTo c.args.connects.now (length c.args.connects.now) used = subst (AreUsedTo c.args.connects.now (length c.args.connects.now)) (sym c.deref-connect-items.ensures.value) c.in_ok-used.ensures in
    standing_others c.args.tech.now c.args.pieces.now c.args.connects.now used c.args.blocks.now i (get_or used i nothing) c.loop-connect.sites.items are (at_get used i nothing c.loop-connect-test.true) c.loop-connect.invariant

pub loop-connect-preserved : goal.loop-connect-preserved
unfolding nothing
loop-connect-preserved c =
    let used = c.deref-connect-items.result.now in
    let i = c.loop-connect.connect-index in
    standing_more c.args.tech.now c.args.pieces.now c.args.blocks.now used i (get_or used i nothing) c.loop-connect.sites.items c.add_sites.new.sites.items (at_get used i nothing c.loop-connect-test.true)
    c.loop-connect.invariant c.in_ok-add_sites.ensures.added c.in_ok-add_sites.ensures.every

pub returns-then-len-gt-MOST_STACKS : goal.returns-then-len-gt-MOST_STACKS
unfolding nothing
returns-then-len-gt-MOST_STACKS c =
    let used = c.deref-connect-items.result.now in
    let i = c.loop-connect.connect-index in
    let are : AreUsedTo c.args.connects.now (length c.args.connects.now) used = subst (AreUsedTo c.args.connects.now (length c.args.connects.now)) (sym c.deref-connect-items.ensures.value) c.in_ok-used.ensures in
    let more : IsStandingTo c.args.tech.now c.args.pieces.now c.args.blocks.now used (i + 1) c.add_sites.new.sites.items =
    standing_more c.args.tech.now c.args.pieces.now c.args.blocks.now used i (get_or used i nothing) c.loop-connect.sites.items c.add_sites.new.sites.items (at_get used i nothing c.loop-connect-test.true)
    c.loop-connect.invariant c.in_ok-add_sites.ensures.added c.in_ok-add_sites.ensures.every in
    standing_all c.args.tech.now c.args.pieces.now c.args.connects.now used c.args.blocks.now (i + 1) c.add_sites.new.sites.items are (inr (omega (arith, c.len.ensures))) more

pub returns : goal.returns
returns c =
    let used = c.deref-connect-items.result.now in
    let are : AreUsedTo c.args.connects.now (length c.args.connects.now) used = subst (AreUsedTo c.args.connects.now (length c.args.connects.now)) (sym c.deref-connect-items.ensures.value) c.in_ok-used.ensures in
    standing_all c.args.tech.now c.args.pieces.now c.args.connects.now used c.args.blocks.now c.loop-connect.connect-index c.loop-connect.sites.items are (inl c.loop-connect-test.false) c.loop-connect.invariant
