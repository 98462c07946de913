use Rattle.std.proofs.Common.{◌≤◌, ◌*◌, ◌-◌, get_or}
use Rattle.em_rules.proofs.tables.table_density.Given as goal

-- The point before this one is not above n / d.
abbrev pub invariant-loop-place : goal.invariant-loop-place
invariant-loop-place l = (get_or l.points (l.place - 1) (0, 0)).0 * l.d ≤ l.n
