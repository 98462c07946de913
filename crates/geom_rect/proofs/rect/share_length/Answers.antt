use Rattle.std.proofs.Common.{◌≡◌, ◌-ℤ◌, rules, SFits, w64}
use Rattle.std.proofs.lemmas.Bool.{false≢true}
use Rattle.std.proofs.lemmas.Int.{to_z-of_z}
use Rattle.geom_rect.proofs.Shares.{ShareLength-decides, ShareLength-fits}
use Rattle.geom_rect.proofs.rect.share_length.Goals as goal

pub returns-in-Some : goal.returns-in-Some
returns-in-Some c =
    let a1 : SFits w64 c.args.a1 = c.ranges.a1 in
    let a2 : SFits w64 c.args.a2 = c.ranges.a2 in
    let b1 : SFits w64 c.args.b1 = c.ranges.b1 in
    let b2 : SFits w64 c.args.b2 = c.ranges.b2 in
    let length : SFits w64 c.args.length = c.ranges.length in
    let low_fits : SFits w64 c.max-low.result = search rules in
    let high_fits : SFits w64 c.min-high.result = search rules in
    let last_fits : SFits w64 c.in-Some.last = search rules in
    let is_last : c.in-Some.last ≡ c.min-high.result -ℤ c.args.length = simp to_z-of_z at c.in-Some.ensures.1 in
    simp to_z-of_z (ShareLength-decides _ _ _ _ _ c.max-low.result c.min-high.result c.in-Some.last c.requires
    (simp to_z-of_z at c.max-low.ensures.value) (simp to_z-of_z at c.min-high.ensures.value) is_last)

pub returns-in-None : goal.returns-in-None
returns-in-None c =
    let a1 : SFits w64 c.args.a1 = c.ranges.a1 in
    let a2 : SFits w64 c.args.a2 = c.ranges.a2 in
    let b1 : SFits w64 c.args.b1 = c.ranges.b1 in
    let b2 : SFits w64 c.args.b2 = c.ranges.b2 in
    let length : SFits w64 c.args.length = c.ranges.length in
    let high_fits : SFits w64 c.min-high.result = search rules in
    let none = simp to_z-of_z at c.in-None.ensures in (
      λ t. absurd (false≢true t),
      λ w. absurd (none (ShareLength-fits _ _ _ _ _ c.min-high.result c.requires a1 high_fits (simp to_z-of_z at c.min-high.ensures.value) w)),
    )
