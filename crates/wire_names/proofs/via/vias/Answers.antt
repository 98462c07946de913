use Rattle.std.proofs.Common.{[], length}
use Rattle.std.proofs.lemmas.List.Elements.{All-push}
use Rattle.wire_names.specs.Keeping.{ViaStands}
use Rattle.wire_names.proofs.Steps.{appended}
use Rattle.wire_names.specs.Wiring.{via_of}
use Rattle.wire_names.specs.inside.Tables.{names_in}
use Rattle.wire_names.proofs.via.vias.Goals as goal

pub loop-via-preserved : goal.loop-via-preserved
loop-via-preserved c =
    let tables = c.args.tables.now in (
      appended (via_of (names_in tables)) [] c.args.vias.now c.loop-via.named.items c.push.new.self.items c.loop-via.via-index
          c.via-item.result c.in_ok-named_via.field-0 c.loop-via-test.true c.via-item.is c.loop-via.invariant.0 c.in_ok-named_via.ensures.is c.in_ok-push.ensures.items,
      rw c.in_ok-push.ensures.items
          (All-push (ViaStands (length tables.layers) (length tables.cuts) (length tables.rules)) c.loop-via.named.items c.in_ok-named_via.field-0 c.loop-via.invariant.1 c.in_ok-named_via.ensures.stands),
    )
