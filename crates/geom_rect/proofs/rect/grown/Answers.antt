use Rattle.std.proofs.Common.{rules, arith, SFits, w64, ◌+ℤ◌, ◌-ℤ◌}
use Rattle.std.proofs.lemmas.Int.{ints, to_z-of_z}
use Rattle.geom_rect.proofs.InOrder.{IsInOrder-grown_by}
use Rattle.geom_rect.proofs.rect.grown.Goals as goal

pub returns : goal.returns
returns c =
    let within = c.requires in
    let by : SFits w64 c.args.by = c.ranges.by in
    let x1 : SFits w64 c.args.a.x1 = search rules in
    let y1 : SFits w64 c.args.a.y1 = search rules in
    let x2 : SFits w64 c.args.a.x2 = search rules in
    let y2 : SFits w64 c.args.a.y2 = search rules in
    let left : SFits w64 (c.args.a.x1 -ℤ c.args.by) = omega (arith, ints) in
    let lower : SFits w64 (c.args.a.y1 -ℤ c.args.by) = omega (arith, ints) in
    let right : SFits w64 (c.args.a.x2 +ℤ c.args.by) = omega (arith, ints) in
    let upper : SFits w64 (c.args.a.y2 +ℤ c.args.by) = omega (arith, ints) in
    record {
      edges = simp to_z-of_z;
      in_order = simp to_z-of_z (IsInOrder-grown_by c.args.a c.args.by);
    }
