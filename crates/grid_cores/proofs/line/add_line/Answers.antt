use Rattle.std.proofs.Common.{◌≡◌, List, [], ◌∷◌, ◌++◌, map, SFits, w64, refl, subst, sym, ap, ◌∙◌, rules}
use Rattle.std.proofs.lemmas.Int.{to_z-of_z}
use Rattle.std.proofs.lemmas.List.{take_all}
use Rattle.geom_rect.specs.Drawn.{drawn_run}
use Rattle.geom_rect.specs.Run.{IsOpen, AreMaximalRuns}
use Rattle.geom_rect.specs.declared.run.Run.{Run}
use Rattle.grid_cores.specs.Line.{regions_over, over_run}
use Rattle.grid_cores.proofs.line.add_line.Goals as goal

pub returns : goal.returns
returns c =
    let line = c.args.line in
    let regions = c.args.regions.now in
    let over = c.deref.result.now in
    let left = c.in_ok-left.left.items in
    let runs = c.deref-run-items.result.now in
    let from : SFits w64 line.from = search rules in
    let to : SFits w64 line.to = search rules in
    let made : AreMaximalRuns (IsOpen (drawn_run line ∷ []) over) left = simp to_z-of_z at c.in_ok-left.ensures in
    let is_over : over ≡ regions_over regions line = c.deref.ensures.value ∙ c.in_ok-over.ensures in
    let is_left : left ≡ runs = sym c.deref-run-items.ensures.value in
    let maximal : AreMaximalRuns (IsOpen (drawn_run line ∷ []) (regions_over regions line)) runs =
    subst (λ (rs : List Run). AreMaximalRuns (IsOpen (drawn_run line ∷ []) (regions_over regions line)) rs) is_left
    (subst (λ (bs : List Run). AreMaximalRuns (IsOpen (drawn_run line ∷ []) bs) left) is_over made) in (
      map (over_run line) runs,
      record { runs = runs; maximal = maximal; are = refl },
      c.loop-run.invariant ∙ ap (λ (rs : List Run). c.args.shapes.now.items ++ map (over_run line) rs) (take_all c.loop-run.run-index runs c.loop-run-test.false),
    )
