use Rattle.std.proofs.Common.{◌≡◌, ◌≤◌, SFits, w64, arith, rules}
use Rattle.std.proofs.lemmas.Int.{to_z-of_z}
use Rattle.grid_stacks.specs.Crossing.{At}
use Rattle.grid_stacks.proofs.AllSteps.{behind_all}
use Rattle.grid_stacks.proofs.crossed.next_in.Goals as goal

pub returns-then-is_behind : goal.returns-then-is_behind
returns-then-is_behind c p bar from at lies =
    let fits : SFits w64 c.args.x = c.ranges.x in
    let place = c.in_ok-place.place in
    let h = c.in_ok-upright.ensures.lookup in
    let at_place : At c.args.uprights.now place c.in_ok-upright.field-0.now = search rules in
    let next : place ≤ p = c.in_ok-place.ensures.none p lies from in
    behind_all c.args.uprights.now place c.in_ok-upright.field-0.now c.args.net c.args.x c.requires at_place (simp to_z-of_z at (c.is_behind.ensures c.if-is_behind.true)) p bar next at
