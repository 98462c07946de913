use Rattle.std.proofs.Common.{◌*◌, ◌≤◌, length, ap, arith}
use Rattle.grid_shapes.proofs.Rings.{ring_fits}
use Rattle.grid_shapes.specs.Shapes.{most_lines}
use Rattle.grid_shapes.proofs.site.add_ring.Goals as goal

pub rings-requires-clause-within : goal.rings-requires-clause-within
rings-requires-clause-within c =
    let same = ap length c.as_slice.ensures in
    let few : 4 * length c.args.ring.now.rule.nets ≤ most_lines = omega arith in
    ring_fits c.args.ring.now c.args.core c.requires few
