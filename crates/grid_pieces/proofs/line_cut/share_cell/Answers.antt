use Rattle.std.proofs.Common.{◌↔◌, IsTrue, pos, ◌<ℤ◌, ◌≤ℤ◌, length, get_or, refl, rules, SFits, w64}
use Rattle.std.specs.Int.Signed.{lt_z}
use Rattle.std.specs.List.{AllWithin}
use Rattle.std.proofs.lemmas.Int.{to_z-of_z}
use Rattle.geom_rect.specs.declared.run.Run.{Run}
use Rattle.grid_pieces.specs.inside.Cutting.{ShareCell}
use Rattle.grid_pieces.specs.Laws.Geometry.{less_decides}
use Rattle.grid_pieces.proofs.OneLine.{shares}
use Rattle.grid_pieces.proofs.line_cut.share_cell.Goals as goal

nothing : Run
nothing = record { from = pos 0; to = pos 0 }

both : (P Q R : Type 0) → P ↔ Q → Q ↔ R → P ↔ R
both P Q R pq qr = (λ p. qr.0 (pq.0 p), λ r. pq.1 (qr.1 r))

pub returns-then-place-runs : goal.returns-then-place-runs
unfolding nothing
returns-then-place-runs c =
    let runs = c.args.runs.now in
    let place = c.first_after-place.result in
    let run_from : SFits w64 c.args.run.from = search rules in
    let run_to : SFits w64 c.args.run.to = search rules in
    let from : SFits w64 (get_or runs place nothing).from = search rules in
    let passed : AllWithin (λ (r : Run). r.to ≤ℤ c.args.run.from) runs 0 place = simp to_z-of_z at c.first_after-place.ensures.passed in
    let behind : AllWithin (λ (r : Run). c.args.run.from <ℤ r.to) runs place (length runs) = simp to_z-of_z at c.first_after-place.ensures.behind in
    simp to_z-of_z
    (both (IsTrue (lt_z (get_or runs place nothing).from c.args.run.to)) ((get_or runs place nothing).from <ℤ c.args.run.to) (ShareCell runs c.args.run)
    (less_decides _ _ _ _ refl refl)
    (shares runs c.args.run place nothing c.requires.separate c.requires.some c.if-place-runs.true passed behind))
