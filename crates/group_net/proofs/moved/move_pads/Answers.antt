use Rattle.std.proofs.Common.{◌<◌, length, get_or, arith, pos}
use Rattle.std.proofs.lemmas.List.{get_or_default}
use Rattle.std.proofs.lemmas.List.Edits.{map_over_more}
use Rattle.grid_net.specs.declared.part.Pad.{Pad}
use Rattle.group_net.specs.Merging.{grouped_pad}
use Rattle.group_net.proofs.moved.move_pads.Goals as goal

pub loop-pad-preserved : goal.loop-pad-preserved
loop-pad-preserved c =
    let i = c.loop-pad.pad-index in
    let none : Pad = record { node = 0; volts = pos 0 } in
    let here : Pad = get_or c.loop-pad.pads i none in
    let within : i < length c.args.pads.now = omega arith in
    let within_now : i < length c.loop-pad.pads = omega arith in
    map_over_more (grouped_pad c.args.group.now) c.args.pads.now c.loop-pad.pads i here within
    c.loop-pad.invariant (get_or_default c.loop-pad.pads i none here within_now)
