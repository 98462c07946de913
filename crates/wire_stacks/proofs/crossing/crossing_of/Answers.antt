use Rattle.std.proofs.Common.{subst, sym, SFits, w64, rules, arith}
use Rattle.std.proofs.lemmas.Int.{ints, to_z-of_z}
use Rattle.geom_rect.specs.Rect.{IsInOrder}
use Rattle.wire_stacks.specs.Crossing.{IsCrossing}
use Rattle.wire_stacks.proofs.Halving.{crossing_is}
use Rattle.wire_stacks.proofs.crossing.crossing_of.Goals as goal

pub returns-clause-crossing : goal.returns-clause-crossing
returns-clause-crossing c =
    let x : SFits w64 c.args.x = c.ranges.x in
    let y : SFits w64 c.args.y = c.ranges.y in
    let wide : SFits w64 c.half_width-wide.result = search rules in
    let high : SFits w64 c.half_height-high.result = search rules in
    let is = simp to_z-of_z at c.around.ensures in
    subst (IsCrossing c.args.vias.now c.args.chain.now c.args.x c.args.y) (sym is)
    (crossing_is c.args.vias.now c.args.chain.now c.args.x c.args.y c.half_width-wide.result c.half_height-high.result c.half_width-wide.ensures c.half_height-high.ensures)

pub returns-clause-upright : goal.returns-clause-upright
returns-clause-upright c =
    let x : SFits w64 c.args.x = c.ranges.x in
    let y : SFits w64 c.args.y = c.ranges.y in
    let wide : SFits w64 c.half_width-wide.result = search rules in
    let high : SFits w64 c.half_height-high.result = search rules in
    let is = simp to_z-of_z at c.around.ensures in
    let some_wide = c.half_width-wide.ensures.some in
    let some_high = c.half_height-high.ensures.some in
    subst IsInOrder (sym is) (omega (arith, ints), omega (arith, ints))
