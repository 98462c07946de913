use Rattle.std.proofs.Common.{◌≡◌, ℕ, ◌+◌, ◌<◌, ◌≤◌, ◌⊎◌, inl, inr, ◌<ℤ◌, pos, length, get_or, Contains, SFits, w64, subst, arith, rules}
use Rattle.std.proofs.lemmas.Int.{to_z-of_z}
use Rattle.grid_stacks.specs.declared.bar.Bar.{Bar}
use Rattle.grid_stacks.specs.declared.bar.Start.{Start}
use Rattle.grid_stacks.specs.Crossing.{At}
use Rattle.grid_stacks.specs.inside.Standing.{IsAllTo, AllAdded}
use Rattle.grid_stacks.proofs.RunSteps.{at_get}
use Rattle.grid_stacks.proofs.AllSteps.{all_none, all_others, all_more, all_fewer, all_every}
use Rattle.grid_stacks.proofs.crossed.cross_all.Goals as goal

nothing : Bar
nothing = record { net = 0; layer = 0; centre = pos 0; low = pos 0; high = pos 0; from = pos 0; to = pos 0 }

pub loop-flat-init : goal.loop-flat-init
loop-flat-init c = all_none c.args.connect.now c.args.inner.now c.args.flats.now c.args.uprights.now c.args.starts.now c.new-lying.result c.args.sites.now.items c.requires.differ

pub cross_flat-requires-clause-others : goal.cross_flat-requires-clause-others
unfolding nothing
cross_flat-requires-clause-others c =
    let flats = c.args.flats.now in
    let i = c.loop-flat.flat-index in
    all_others c.args.connect.now c.args.inner.now flats c.args.uprights.now c.args.starts.now i c.loop-flat.next (get_or flats i nothing) c.loop-flat.lying c.args.sites.now.items c.loop-flat.sites.items
    c.requires.wide_too c.requires.apart c.requires.one_layer c.requires.others (at_get flats i nothing c.loop-flat-test.true) c.loop-flat.invariant

pub loop-flat-preserved : goal.loop-flat-preserved
unfolding nothing
loop-flat-preserved c =
    let flats = c.args.flats.now in
    let i = c.loop-flat.flat-index in
    let flat = get_or flats i nothing in
    let fits : SFits w64 flat.low = search rules in
    let wide : flat.low <ℤ flat.high = c.requires.wide i nothing c.loop-flat-test.true in
    let behind : (k : ℕ) (s : Start) → c.in_ok-next.next ≤ k → At c.args.starts.now k s → flat.low <ℤ s.from = simp to_z-of_z at c.in_ok-next.ensures.behind in
    all_more c.args.connect.now c.args.inner.now flats c.args.uprights.now c.args.starts.now i c.loop-flat.next c.in_ok-next.next flat c.loop-flat.lying c.open_up_to.new.lying c.cross_flat.new.lying
    c.args.sites.now.items c.loop-flat.sites.items c.cross_flat.new.sites.items c.requires.flats c.requires.starts wide (at_get flats i nothing c.loop-flat-test.true) c.loop-flat.invariant
    c.in_ok-next.ensures.within.1 c.in_ok-next.ensures.put c.in_ok-next.ensures.kept behind c.in_ok-cross_flat.ensures.added c.in_ok-cross_flat.ensures.still c.in_ok-cross_flat.ensures.every

pub returns-then-len-gt-MOST_STACKS-clause-added : goal.returns-then-len-gt-MOST_STACKS-clause-added
unfolding nothing
returns-then-len-gt-MOST_STACKS-clause-added c =
    let flats = c.args.flats.now in
    let i = c.loop-flat.flat-index in
    let flat = get_or flats i nothing in
    let fits : SFits w64 flat.low = search rules in
    let wide : flat.low <ℤ flat.high = c.requires.wide i nothing c.loop-flat-test.true in
    let behind : (k : ℕ) (s : Start) → c.in_ok-next.next ≤ k → At c.args.starts.now k s → flat.low <ℤ s.from = simp to_z-of_z at c.in_ok-next.ensures.behind in
    let more : IsAllTo c.args.connect.now c.args.inner.now flats c.args.uprights.now c.args.starts.now (i + 1) c.in_ok-next.next c.cross_flat.new.lying c.args.sites.now.items c.cross_flat.new.sites.items =
    all_more c.args.connect.now c.args.inner.now flats c.args.uprights.now c.args.starts.now i c.loop-flat.next c.in_ok-next.next flat c.loop-flat.lying c.open_up_to.new.lying c.cross_flat.new.lying
    c.args.sites.now.items c.loop-flat.sites.items c.cross_flat.new.sites.items c.requires.flats c.requires.starts wide (at_get flats i nothing c.loop-flat-test.true) c.loop-flat.invariant
    c.in_ok-next.ensures.within.1 c.in_ok-next.ensures.put c.in_ok-next.ensures.kept behind c.in_ok-cross_flat.ensures.added c.in_ok-cross_flat.ensures.still c.in_ok-cross_flat.ensures.every in
    all_fewer c.args.connect.now c.args.inner.now flats c.args.uprights.now (i + 1) (length flats) c.args.sites.now.items c.cross_flat.new.sites.items (omega (arith, c.loop-flat-test.true)) more.added

pub returns-clause-added : goal.returns-clause-added
returns-clause-added c =
    all_fewer c.args.connect.now c.args.inner.now c.args.flats.now c.args.uprights.now c.loop-flat.flat-index (length c.args.flats.now) c.args.sites.now.items c.loop-flat.sites.items
    (omega (arith, c.loop-flat.auto.flat-index-end)) c.loop-flat.invariant.added

pub returns-clause-every : goal.returns-clause-every
returns-clause-every c =
    all_every c.args.connect.now c.args.inner.now c.args.flats.now c.args.uprights.now c.args.starts.now c.loop-flat.flat-index c.loop-flat.next c.loop-flat.lying c.args.sites.now.items c.loop-flat.sites.items
    c.loop-flat-test.false c.loop-flat.invariant
