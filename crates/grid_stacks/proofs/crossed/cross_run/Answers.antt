use Rattle.std.proofs.Common.{◌≡◌, ℕ, ◌+◌, ◌≤◌, ◌<ℤ◌, pos, inr, get_or, SFits, w64, rules}
use Rattle.std.proofs.lemmas.Int.{to_z-of_z}
use Rattle.grid_stacks.specs.declared.bar.Bar.{Bar}
use Rattle.grid_stacks.specs.Crossing.{At}
use Rattle.grid_stacks.specs.inside.Standing.{Lies, IsNextIn, IsRunTo}
use Rattle.grid_stacks.proofs.RunSteps.{at_get, run_none, run_more, run_all, run_added}
use Rattle.grid_stacks.proofs.crossed.cross_run.Goals as goal

pub loop-place-init : goal.loop-place-init
loop-place-init c =
    let fits : SFits w64 c.args.run.from = search rules in
    run_none c.args.connect.now c.args.flat c.args.run c.args.uprights.now c.first_in-from.result c.args.lying.now c.args.sites.now.items c.requires.differ (simp to_z-of_z at c.first_in-from.ensures)

nothing : Bar
nothing = record { net = 0; layer = 0; centre = pos 0; low = pos 0; high = pos 0; from = pos 0; to = pos 0 }

pub loop-place-preserved : goal.loop-place-preserved
unfolding nothing
loop-place-preserved c =
    let uprights = c.args.uprights.now in
    let place = c.in-Some.place in
    let is_next : IsNextIn uprights c.loop-place.lying c.loop-place.from place = c.in-Some.ensures in
    let more : IsRunTo c.args.connect.now c.args.flat c.args.run uprights (place + 1) c.args.lying.now c.meet.new.lying c.args.sites.now.items c.meet.new.sites.items =
    run_more c.args.connect.now c.args.flat c.args.run uprights c.loop-place.from place (get_or uprights place nothing) c.args.lying.now c.loop-place.lying c.meet.new.lying
    c.args.sites.now.items c.loop-place.sites.items c.meet.new.sites.items c.requires.apart c.requires.one_layer c.requires.wide c.requires.others c.loop-place.invariant is_next
    (at_get uprights place nothing is_next.within) c.in_ok-meet.ensures.met c.in_ok-meet.ensures.lie in
    more

pub returns-then-len-gt-MOST_STACKS-clause-added : goal.returns-then-len-gt-MOST_STACKS-clause-added
unfolding nothing
returns-then-len-gt-MOST_STACKS-clause-added c =
    let uprights = c.args.uprights.now in
    let place = c.in-Some.place in
    let is_next : IsNextIn uprights c.loop-place.lying c.loop-place.from place = c.in-Some.ensures in
    let more : IsRunTo c.args.connect.now c.args.flat c.args.run uprights (place + 1) c.args.lying.now c.meet.new.lying c.args.sites.now.items c.meet.new.sites.items =
    run_more c.args.connect.now c.args.flat c.args.run uprights c.loop-place.from place (get_or uprights place nothing) c.args.lying.now c.loop-place.lying c.meet.new.lying
    c.args.sites.now.items c.loop-place.sites.items c.meet.new.sites.items c.requires.apart c.requires.one_layer c.requires.wide c.requires.others c.loop-place.invariant is_next
    (at_get uprights place nothing is_next.within) c.in_ok-meet.ensures.met c.in_ok-meet.ensures.lie in
    run_added c.args.connect.now c.args.flat c.args.run uprights (place + 1) c.args.lying.now c.meet.new.lying c.args.sites.now.items c.meet.new.sites.items more

pub returns-then-len-gt-MOST_STACKS-clause-still : goal.returns-then-len-gt-MOST_STACKS-clause-still
unfolding nothing
returns-then-len-gt-MOST_STACKS-clause-still c =
    let uprights = c.args.uprights.now in
    let place = c.in-Some.place in
    let is_next : IsNextIn uprights c.loop-place.lying c.loop-place.from place = c.in-Some.ensures in
    let more : IsRunTo c.args.connect.now c.args.flat c.args.run uprights (place + 1) c.args.lying.now c.meet.new.lying c.args.sites.now.items c.meet.new.sites.items =
    run_more c.args.connect.now c.args.flat c.args.run uprights c.loop-place.from place (get_or uprights place nothing) c.args.lying.now c.loop-place.lying c.meet.new.lying
    c.args.sites.now.items c.loop-place.sites.items c.meet.new.sites.items c.requires.apart c.requires.one_layer c.requires.wide c.requires.others c.loop-place.invariant is_next
    (at_get uprights place nothing is_next.within) c.in_ok-meet.ensures.met c.in_ok-meet.ensures.lie in
    more.still

pub returns-clause-added : goal.returns-clause-added
returns-clause-added c = run_added c.args.connect.now c.args.flat c.args.run c.args.uprights.now c.loop-place.from c.args.lying.now c.loop-place.lying c.args.sites.now.items c.loop-place.sites.items c.loop-place.invariant

pub returns-clause-every : goal.returns-clause-every
returns-clause-every c =
    let fits : SFits w64 c.args.run.to = search rules in
    let none : (p : ℕ) (bar : Bar) → c.loop-place.from ≤ p → At c.args.uprights.now p bar → Lies c.loop-place.lying p → c.args.flat.net ≡ bar.net → bar.low <ℤ c.args.run.to → ⊥ = simp to_z-of_z at c.in_default.ensures in
    inr (run_all c.args.connect.now c.args.flat c.args.run c.args.uprights.now c.loop-place.from c.args.lying.now c.loop-place.lying c.args.sites.now.items c.loop-place.sites.items c.loop-place.invariant
    c.requires.wide c.requires.wide_too none)
