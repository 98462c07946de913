use Rattle.grid_shapes.specs.Shapes.{AreShapes}
use Rattle.grid_shapes.proofs.Commands.{all_drawn}
use Rattle.grid_shapes.proofs.ShapesKeep.{shapes_keep}
use Rattle.grid_shapes.proofs.shaping.shapes.Goals as goal

pub returns-clause-shapes : goal.returns-clause-shapes
returns-clause-shapes c =
    all_drawn c.args.plan.now c.new-shapes.result.items c.add_all_straps.new.shapes.items c.add_all_rails.new.shapes.items c.add_all_sides.new.shapes.items
    c.new-shapes.ensures.items c.in_ok-add_all_straps.ensures.added c.in_ok-add_all_rails.ensures.added c.in_ok-add_all_sides.ensures

pub returns-clause-keep : goal.returns-clause-keep
returns-clause-keep c =
    let shapes = c.add_all_sides.new.shapes.items in
    let are : AreShapes c.args.plan.now shapes = all_drawn c.args.plan.now c.new-shapes.result.items c.add_all_straps.new.shapes.items c.add_all_rails.new.shapes.items shapes
    c.new-shapes.ensures.items c.in_ok-add_all_straps.ensures.added c.in_ok-add_all_rails.ensures.added c.in_ok-add_all_sides.ensures in
    shapes_keep c.args.tech.now c.args.plan.now shapes c.requires.plan are
