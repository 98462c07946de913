use Rattle.std.proofs.Common.{◌≡◌, true, ◌&&◌, int_le, SFits, w64, sym, ap}
use Rattle.std.proofs.lemmas.Int.{to_z-of_z}
use Rattle.grid_cores.proofs.owner.lies_within.Goals as goal

pub returns-then-from-low : goal.returns-then-from-low
returns-then-from-low c =
    let low : SFits w64 c.args.low = c.ranges.low in
    let high : SFits w64 c.args.high = c.ranges.high in
    let from : SFits w64 c.args.from = c.ranges.from in
    let to : SFits w64 c.args.to = c.ranges.to in
    let first : int_le c.args.from c.args.low ≡ true = simp to_z-of_z at c.if-from-low.true in
    simp to_z-of_z (sym (ap (λ b. b && int_le c.args.high c.args.to) first))
