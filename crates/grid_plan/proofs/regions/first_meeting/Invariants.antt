use Rattle.std.proofs.Common.{◌≡◌, drop}
use Rattle.grid_plan.specs.Regions.{first_meeting_from}
use Rattle.grid_plan.proofs.regions.first_meeting.Given as goal

abbrev pub invariant-loop-k : goal.invariant-loop-k
invariant-loop-k l = first_meeting_from 0 l.regions ≡ first_meeting_from l.k (drop l.k l.regions)
