use Rattle.std.proofs.Common.{ℕ, ◌≤◌, All, take}
use Rattle.lef_tech.proofs.keeping.points_keep.Given as goal

abbrev pub invariant-loop-point : goal.invariant-loop-point
invariant-loop-point l = All (λ (p : ℕ × ℕ). (p.0 ≤ l.point_limit) × (p.1 ≤ l.value_limit)) (take l.point-index l.points)
