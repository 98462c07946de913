use Rattle.std.proofs.Common.{length}
use Rattle.std.proofs.lemmas.List.Elements.{All-push}
use Rattle.wire_names.specs.Keeping.{ShapeStands}
use Rattle.wire_names.proofs.Steps.{appended}
use Rattle.wire_names.specs.Wiring.{shape_of}
use Rattle.wire_names.specs.inside.Tables.{names_in}
use Rattle.wire_names.proofs.segment.add_shapes.Goals as goal

pub loop-segment-preserved : goal.loop-segment-preserved
loop-segment-preserved c = (
  appended (shape_of (names_in c.args.tables.now) c.args.net) c.args.shapes.now.items c.args.segments.now c.loop-segment.shapes.items c.push.new.self.items c.loop-segment.segment-index
      c.segment-item.result c.in_ok-shape.field-0 c.loop-segment-test.true c.segment-item.is c.loop-segment.invariant.0 c.in_ok-shape.ensures.is c.in_ok-push.ensures.items,
  rw c.in_ok-push.ensures.items (All-push (ShapeStands (length c.args.tables.now.layers)) c.loop-segment.shapes.items c.in_ok-shape.field-0 c.loop-segment.invariant.1 c.in_ok-shape.ensures.stands),
)
