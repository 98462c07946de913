use Rattle.std.proofs.Common.{◌≡◌, ℕ, ◌<◌, ◌≤◌, ◌*◌, filter, take, length, get_or}
use Rattle.std.specs.Bool.{nat_eq}
use Rattle.std.specs.List.{flat_map}
use Rattle.ring_layout.specs.Rings.{rings_of}
use Rattle.grid_plan.specs.declared.record.RingAt.{RingAt}
use Rattle.grid_shapes.specs.Shapes.{most_lines}
use Rattle.grid_shapes.proofs.site.ring_sides.Given as goal

abbrev pub invariant-loop-ring : goal.invariant-loop-ring
invariant-loop-ring l = record {
  sides : l.sides.items ≡ flat_map (λ (ring : RingAt). rings_of ring.rule l.core) (filter (λ (ring : RingAt). nat_eq ring.grid l.grid) (take l.ring-index l.all));
  few : (k : ℕ) (d : RingAt) → k < l.ring-index → (get_or l.all k d).grid ≡ l.grid → 4 * length (get_or l.all k d).rule.nets ≤ most_lines;
}
