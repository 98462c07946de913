use Rattle.std.proofs.Common.{◌≡◌, true, ◌&&◌, int_le, int_lt, SFits, w64, sym, ap}
use Rattle.std.proofs.lemmas.Int.{to_z-of_z}
use Rattle.grid_cores.proofs.owner.is_from.Goals as goal

pub returns-then-low-z : goal.returns-then-low-z
returns-then-low-z c =
    let low : SFits w64 c.args.low = c.ranges.low in
    let high : SFits w64 c.args.high = c.ranges.high in
    let z : SFits w64 c.args.z = c.ranges.z in
    let first : int_le c.args.low c.args.z ≡ true = simp to_z-of_z at c.if-low-z.true in
    simp to_z-of_z (sym (ap (λ b. b && int_lt c.args.z c.args.high) first))
