use Rattle.std.proofs.Common.{All, sym, subst}
use Rattle.def_wiring.specs.declared.record.WiredNet.{WiredNet}
use Rattle.def_wiring.specs.Limits.{SegmentKeeps}
use Rattle.wire_names.specs.inside.Tables.{LiesNear}
use Rattle.wire_names.proofs.Steps.{segments_keep, places_near}
use Rattle.wire_names.proofs.resolve.placed.Goals as goal

pub shapes-requires : goal.shapes-requires
shapes-requires c =
    subst (All (λ (net : WiredNet). All SegmentKeeps net.segments)) (sym c.as_slice-2.ensures) (segments_keep c.args.wires.now.nets c.requires.nets)

pub spots-requires : goal.spots-requires
spots-requires c =
    subst (All (λ (net : WiredNet). All LiesNear net.vias)) (sym c.as_slice-3.ensures) (places_near c.args.wires.now.nets c.requires.nets)
