use Rattle.std.proofs.Common.{◌<◌, length, get_or, arith, pos}
use Rattle.std.proofs.lemmas.List.{get_or_default}
use Rattle.std.proofs.lemmas.List.Edits.{map_over_more}
use Rattle.grid_net.specs.declared.part.Load.{Load}
use Rattle.spice_grid.specs.Place.{placed_load}
use Rattle.spice_grid.proofs.place.place_loads.Goals as goal

pub loop-load-preserved : goal.loop-load-preserved
loop-load-preserved c =
    let i = c.loop-load.load-index in
    let none : Load = record { node = 0; low = pos 0; high = pos 0 } in
    let here : Load = get_or c.loop-load.loads i none in
    let within : i < length c.args.loads.now = omega arith in
    let within_now : i < length c.loop-load.loads = omega arith in
    map_over_more (placed_load (λ n. get_or c.args.places.now n 0)) c.args.loads.now c.loop-load.loads i here within c.loop-load.invariant (get_or_default c.loop-load.loads i none here within_now)
