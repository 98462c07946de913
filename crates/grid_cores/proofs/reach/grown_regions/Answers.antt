use Rattle.std.proofs.Common.{◌≡◌, List, map, take, ap, ◌∙◌, SFits, w64}
use Rattle.std.proofs.lemmas.Int.{to_z-of_z}
use Rattle.std.proofs.lemmas.List.{take_all}
use Rattle.geom_rect.specs.declared.rect.Rect.{Rect}
use Rattle.geom_rect.specs.Rect.{grown_by}
use Rattle.grid_cores.proofs.reach.grown_regions.Goals as goal

pub returns : goal.returns
returns c =
    let by : SFits w64 c.args.by = c.ranges.by in
    let regions = c.args.regions.now in
    let i = c.loop-region.region-index in
    let grown : c.loop-region.all.items ≡ map (λ (region : Rect). grown_by region c.args.by) (take i regions) = simp to_z-of_z at c.loop-region.invariant in
    grown ∙ ap (λ (rs : List Rect). map (λ (region : Rect). grown_by region c.args.by) rs) (take_all i regions c.loop-region-test.false)
