use Rattle.std.proofs.Common.{◌≡◌, true, ◌&&◌, SFits, w64, rules, sym, ap, ◌∙◌}
use Rattle.std.proofs.lemmas.Int.{to_z-of_z}
use Rattle.grid_cores.specs.Owner.{is_from}
use Rattle.grid_cores.proofs.owner.is_place_of.Goals as goal

pub returns-then-is_from : goal.returns-then-is_from
returns-then-is_from c =
    let region = c.args.region in
    let x : SFits w64 c.args.x = c.ranges.x in
    let y : SFits w64 c.args.y = c.ranges.y in
    let x1 : SFits w64 region.x1 = search rules in
    let y1 : SFits w64 region.y1 = search rules in
    let x2 : SFits w64 region.x2 = search rules in
    let y2 : SFits w64 region.y2 = search rules in
    let told : c.is_from.result ≡ is_from region.x1 region.x2 c.args.x = simp to_z-of_z at c.is_from.ensures in
    let first : is_from region.x1 region.x2 c.args.x ≡ true = sym told ∙ c.if-is_from.true in
    let second : c.is_from-then-is_from.result ≡ is_from region.y1 region.y2 c.args.y = simp to_z-of_z at c.is_from-then-is_from.ensures in
    second ∙ sym (ap (λ b. b && is_from region.y1 region.y2 c.args.y) first)
