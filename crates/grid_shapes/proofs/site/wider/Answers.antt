use Rattle.std.proofs.Common.{◌≡◌, rules, SFits, w64}
use Rattle.std.proofs.lemmas.Int.{to_z-of_z}
use Rattle.std.specs.Int.{int_max}
use Rattle.grid_shapes.proofs.site.wider.Goals as goal

pub returns : goal.returns
returns c =
    let width : SFits w64 c.args.rails.width = search rules in
    let widest : SFits w64 c.args.widest = c.ranges.widest in
    let fits : SFits w64 c.max.result = search rules in
    let is : c.max.result ≡ int_max c.args.rails.width c.args.widest = simp to_z-of_z at c.max.ensures.value in
    simp to_z-of_z is
