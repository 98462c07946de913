use Rattle.std.proofs.Common.{◌≡◌, true, ◌&&◌, SFits, w64, rules, sym, ap, ◌∙◌}
use Rattle.std.proofs.lemmas.Int.{to_z-of_z}
use Rattle.grid_cores.specs.Owner.{lies_within}
use Rattle.grid_cores.proofs.owner.lies_in.Goals as goal

pub returns-then-lies_within : goal.returns-then-lies_within
returns-then-lies_within c =
    let inner = c.args.inner in
    let outer = c.args.outer in
    let ax1 : SFits w64 inner.x1 = search rules in
    let ay1 : SFits w64 inner.y1 = search rules in
    let ax2 : SFits w64 inner.x2 = search rules in
    let ay2 : SFits w64 inner.y2 = search rules in
    let bx1 : SFits w64 outer.x1 = search rules in
    let by1 : SFits w64 outer.y1 = search rules in
    let bx2 : SFits w64 outer.x2 = search rules in
    let by2 : SFits w64 outer.y2 = search rules in
    let told : c.lies_within.result ≡ lies_within inner.x1 inner.x2 outer.x1 outer.x2 = simp to_z-of_z at c.lies_within.ensures in
    let first : lies_within inner.x1 inner.x2 outer.x1 outer.x2 ≡ true = sym told ∙ c.if-lies_within.true in
    let second : c.lies_within-then-lies_within.result ≡ lies_within inner.y1 inner.y2 outer.y1 outer.y2 = simp to_z-of_z at c.lies_within-then-lies_within.ensures in
    second ∙ sym (ap (λ b. b && lies_within inner.y1 inner.y2 outer.y1 outer.y2) first)
