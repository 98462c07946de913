use Rattle.std.proofs.Common.{◌≡◌, ◌+◌, ◌<◌, pos, length, get_or, subst, sym}
use Rattle.geom_rect.specs.declared.run.Run.{Run}
use Rattle.geom_rect.specs.Run.{AreMaximalRuns}
use Rattle.grid_stacks.specs.inside.Standing.{IsFreeCell}
use Rattle.grid_stacks.proofs.RunSteps.{at_get, flat_none, flat_others, flat_more, flat_added, flat_every}
use Rattle.grid_stacks.proofs.crossed.cross_flat.Goals as goal

nothing : Run
nothing = record { from = pos 0; to = pos 0 }

pub loop-run-init : goal.loop-run-init
loop-run-init c = flat_none c.args.connect.now c.args.flat c.deref-run-items.result.now c.args.uprights.now c.args.lying.now c.args.sites.now.items c.requires.differ

pub cross_run-requires-clause-others : goal.cross_run-requires-clause-others
unfolding nothing
cross_run-requires-clause-others c =
    let runs = c.deref-run-items.result.now in
    let are : AreMaximalRuns (IsFreeCell c.args.flat c.args.inner.now) runs = subst (AreMaximalRuns (IsFreeCell c.args.flat c.args.inner.now)) (sym c.deref-run-items.ensures.value) c.in_ok-free.ensures in
    flat_others c.args.connect.now c.args.inner.now c.args.flat runs c.args.uprights.now c.loop-run.run-index (get_or runs c.loop-run.run-index nothing) c.args.lying.now c.loop-run.lying
    c.args.sites.now.items c.loop-run.sites.items are c.requires.wide_too (at_get runs c.loop-run.run-index nothing c.loop-run-test.true) c.requires.others c.loop-run.invariant

pub loop-run-preserved : goal.loop-run-preserved
unfolding nothing
loop-run-preserved c =
    let runs = c.deref-run-items.result.now in
    flat_more c.args.connect.now c.args.flat runs c.args.uprights.now c.loop-run.run-index (get_or runs c.loop-run.run-index nothing) c.args.lying.now c.loop-run.lying c.cross_run.new.lying
    c.args.sites.now.items c.loop-run.sites.items c.cross_run.new.sites.items c.requires.wide (at_get runs c.loop-run.run-index nothing c.loop-run-test.true) c.loop-run.invariant
    c.in_ok-cross_run.ensures.added c.in_ok-cross_run.ensures.still c.in_ok-cross_run.ensures.every

pub returns-clause-added : goal.returns-clause-added
returns-clause-added c =
    let runs = c.deref-run-items.result.now in
    let are : AreMaximalRuns (IsFreeCell c.args.flat c.args.inner.now) runs = subst (AreMaximalRuns (IsFreeCell c.args.flat c.args.inner.now)) (sym c.deref-run-items.ensures.value) c.in_ok-free.ensures in
    flat_added c.args.connect.now c.args.inner.now c.args.flat runs c.args.uprights.now c.loop-run.run-index c.args.lying.now c.loop-run.lying c.args.sites.now.items c.loop-run.sites.items are c.loop-run.invariant

pub returns-clause-every : goal.returns-clause-every
returns-clause-every c =
    let runs = c.deref-run-items.result.now in
    let are : AreMaximalRuns (IsFreeCell c.args.flat c.args.inner.now) runs = subst (AreMaximalRuns (IsFreeCell c.args.flat c.args.inner.now)) (sym c.deref-run-items.ensures.value) c.in_ok-free.ensures in
    flat_every c.args.connect.now c.args.inner.now c.args.flat runs c.args.uprights.now c.loop-run.run-index c.args.lying.now c.loop-run.lying c.args.sites.now.items c.loop-run.sites.items are
    c.requires.wide_too c.loop-run-test.false c.loop-run.invariant
