use Rattle.std.proofs.Common.{length}
use Rattle.std.proofs.lemmas.List.Elements.{All-push}
use Rattle.wire_names.specs.Keeping.{SpotStands}
use Rattle.wire_names.proofs.Steps.{appended}
use Rattle.wire_names.specs.Wiring.{spot_of}
use Rattle.wire_names.specs.inside.Tables.{names_in}
use Rattle.wire_names.proofs.spot.add_spots.Goals as goal

pub loop-place-preserved : goal.loop-place-preserved
loop-place-preserved c = (
  appended (spot_of (names_in c.args.tables.now) c.args.net) c.args.spots.now.items c.args.places.now c.loop-place.spots.items c.push.new.self.items c.loop-place.place-index
      c.place-item.result c.in_ok-spot.field-0 c.loop-place-test.true c.place-item.is c.loop-place.invariant.0 c.in_ok-spot.ensures.is c.in_ok-push.ensures.items,
  rw c.in_ok-push.ensures.items (All-push (SpotStands (length c.args.tables.now.vias)) c.loop-place.spots.items c.in_ok-spot.field-0 c.loop-place.invariant.1 c.in_ok-spot.ensures.stands),
)
