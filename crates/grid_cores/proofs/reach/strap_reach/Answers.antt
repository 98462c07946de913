use Rattle.std.proofs.Common.{◌+ℤ◌, ◌-ℤ◌, rules, arith, sym, ap, SFits, w64}
use Rattle.std.proofs.lemmas.Int.{ints, to_z-of_z}
use Rattle.geom_rect.specs.Drawn.{half}
use Rattle.grid_cores.specs.Core.{strap_reach}
use Rattle.grid_cores.proofs.reach.strap_reach.Goals as goal

pub returns-in-Y : goal.returns-in-Y
returns-in-Y c =
    let core = c.args.core in
    let rail : SFits w64 c.args.rail = c.ranges.rail in
    let y1 : SFits w64 core.y1 = search rules in
    let y2 : SFits w64 core.y2 = search rules in
    let even = c.requires.even in
    let from = c.requires.low in
    let to = c.requires.high in
    let halved : SFits w64 (half c.args.rail) = omega (arith, ints) in
    let low : SFits w64 (core.y1 -ℤ half c.args.rail) = omega (arith, ints) in
    let high : SFits w64 (core.y2 +ℤ half c.args.rail) = omega (arith, ints) in
    simp to_z-of_z (ap (λ a. strap_reach a c.args.rail core) (sym c.in-Y.is))
