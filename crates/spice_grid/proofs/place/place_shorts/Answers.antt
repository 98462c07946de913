use Rattle.std.proofs.Common.{◌<◌, ℕ, length, get_or, arith}
use Rattle.std.proofs.lemmas.List.{get_or_default}
use Rattle.std.proofs.lemmas.List.Edits.{map_over_more}
use Rattle.spice_grid.specs.Place.{placed_short}
use Rattle.spice_grid.proofs.place.place_shorts.Goals as goal

pub loop-short-preserved : goal.loop-short-preserved
loop-short-preserved c =
    let i = c.loop-short.short-index in
    let none : (ℕ × ℕ) = (0, 0) in
    let here : (ℕ × ℕ) = get_or c.loop-short.shorts i none in
    let within : i < length c.args.shorts.now = omega arith in
    let within_now : i < length c.loop-short.shorts = omega arith in
    map_over_more (placed_short (λ n. get_or c.args.places.now n 0)) c.args.shorts.now c.loop-short.shorts i here within c.loop-short.invariant (get_or_default c.loop-short.shorts i none here within_now)
