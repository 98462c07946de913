use Rattle.std.proofs.Common.{◌≡◌, length}
use Rattle.bound_make.proofs.work_list.WorkList.push_around.Given as goal

abbrev pub invariant-loop-place : goal.invariant-loop-place
invariant-loop-place l = length l.self.ring.now ≡ length l.initial.self.ring.now
