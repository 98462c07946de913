use Rattle.std.proofs.Common.{None, get_or, sym, ap, ◌∙◌}
use Rattle.std.specs.List.{position}
use Rattle.grid_plan.specs.Regions.{regions_meet}
use Rattle.grid_plan.proofs.Stepped.{meeting_step, meeting_found}
use Rattle.grid_plan.proofs.regions.first_meeting.Goals as goal

pub returns-in-Some : goal.returns-in-Some
returns-in-Some c = sym (c.loop-k.invariant ∙ meeting_found c.args.regions.now c.loop-k.k c.in-Some.j None c.loop-k-test.true
    (ap (position (regions_meet (get_or c.args.regions.now c.loop-k.k None))) (sym c.split_at.ensures.back) ∙ sym c.first_to_meet.ensures ∙ c.in-Some.is))

pub loop-k-preserved : goal.loop-k-preserved
loop-k-preserved c = c.loop-k.invariant ∙ meeting_step c.args.regions.now c.loop-k.k None c.loop-k-test.true
    (ap (position (regions_meet (get_or c.args.regions.now c.loop-k.k None))) (sym c.split_at.ensures.back) ∙ sym c.first_to_meet.ensures ∙ c.in_default.is)
