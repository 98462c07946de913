-- Each call of the cycle works on the levels below, or is the next one on the way to that.
use Rattle.std.proofs.Common.{◌≡◌, ◌+◌, ◌*◌, length}
use Rattle.solve_levels.proofs.cycle.+levels.Given as goal

abbrev pub decreases-solve : goal.decreases-solve
decreases-solve l = 4 * length l.levels.now

abbrev pub decreases-solve_rest : goal.decreases-solve_rest
decreases-solve_rest l = 4 * length l.below.now + 3

abbrev pub decreases-precondition : goal.decreases-precondition
decreases-precondition l = 4 * length l.below.now + 2

abbrev pub decreases-cycle : goal.decreases-cycle
decreases-cycle l = 4 * length l.below.now + 1

abbrev pub invariant-solve_rest-loop-number : goal.invariant-solve_rest-loop-number
invariant-solve_rest-loop-number l = l.below ≡ l.fn.below

abbrev pub invariant-precondition-loop : goal.invariant-precondition-loop
invariant-precondition-loop l = l.below ≡ l.fn.below
