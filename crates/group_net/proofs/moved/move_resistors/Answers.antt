use Rattle.std.proofs.Common.{◌<◌, length, get_or, arith, pos}
use Rattle.std.proofs.lemmas.List.{get_or_default}
use Rattle.std.proofs.lemmas.List.Edits.{map_over_more}
use Rattle.grid_net.specs.declared.part.Resistor.{Resistor}
use Rattle.group_net.specs.Merging.{grouped_resistor}
use Rattle.group_net.proofs.moved.move_resistors.Goals as goal

pub loop-resistor-preserved : goal.loop-resistor-preserved
loop-resistor-preserved c =
    let i = c.loop-resistor.resistor-index in
    let none : Resistor = record { a = 0; b = 0; ohms = pos 0 } in
    let here : Resistor = get_or c.loop-resistor.resistors i none in
    let within : i < length c.args.resistors.now = omega arith in
    let within_now : i < length c.loop-resistor.resistors = omega arith in
    map_over_more (grouped_resistor c.args.group.now) c.args.resistors.now c.loop-resistor.resistors i here within
    c.loop-resistor.invariant (get_or_default c.loop-resistor.resistors i none here within_now)
