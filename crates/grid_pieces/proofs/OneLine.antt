-- Runs that lie apart, and the one of them that a search finds.
use Rattle.std.proofs.Common.{◌≡◌, ℕ, ◌<◌, ◌≤◌, ◌↔◌, ◌⊎◌, inl, inr, true, ℤ, ◌<ℤ◌, ◌≤ℤ◌, List, length, get_or, subst, sym, ◌∙◌, arith}
use Rattle.std.specs.Int.{int_max}
use Rattle.std.specs.Int.Signed.{le_z}
use Rattle.std.specs.List.{AllWithin}
use Rattle.std.specs.List.Sorted.{IsPartitionedBy}
use Rattle.std.proofs.lemmas.Bool.{cases_lt}
use Rattle.std.proofs.lemmas.Int.{ints, clamps}
use Rattle.std.proofs.lemmas.List.{get_or_default}
use Rattle.std.proofs.lemmas.List.Elements.{Contains-get_or}
use Rattle.geom_rect.specs.declared.run.Run.{Run}
use Rattle.grid_pieces.specs.inside.Cutting.{AreSeparate}
use Rattle.grid_pieces.specs.inside.Cutting.{ShareCell}

-- those that end by a place come first
pub partitioned : (runs : List Run) (from : ℤ) → AreSeparate runs → IsPartitionedBy (λ (r : Run). le_z r.to from) runs
partitioned runs from separate i j d ordered within passes = by_place (cases_lt i j)
  where
    by_place : (i < j) ⊎ (j ≤ i) → le_z (get_or runs i d).to from ≡ true
    by_place (inl less) =
        let apart : (get_or runs i d).to <ℤ (get_or runs j d).from = separate.apart i j d less within in
        let some : (get_or runs j d).from <ℤ (get_or runs j d).to = separate.some j d within in
        sym (omega (arith, ints))
    by_place (inr not_less) =
        let same : j ≡ i = omega arith in
        subst (λ n. le_z (get_or runs n d).to from ≡ true) same passes

-- the first run that ends behind the start of another shares a cell with it exactly where it begins before its end
pub shares : (runs : List Run) (run : Run) (place : ℕ) (d : Run) → AreSeparate runs → run.from <ℤ run.to → place < length runs
    → AllWithin (λ (r : Run). r.to ≤ℤ run.from) runs 0 place → AllWithin (λ (r : Run). run.from <ℤ r.to) runs place (length runs)
    → ((get_or runs place d).from <ℤ run.to) ↔ ShareCell runs run
shares runs run place d separate some within passed behind = (there, back)
  where
    found : Run
    found = get_or runs place d

    there : (get_or runs place d).from <ℤ run.to → ShareCell runs run
    there less =
        let ends : run.from <ℤ (get_or runs place d).to = behind place d (omega arith) within in
        let has : (get_or runs place d).from <ℤ (get_or runs place d).to = separate.some place d within in (
          int_max run.from (get_or runs place d).from,
          (omega (arith, ints, clamps), omega (arith, ints, clamps)),
          (get_or runs place d, Contains-get_or runs place d within, (omega (arith, ints, clamps), omega (arith, ints, clamps))),
        )

    back : ShareCell runs run → (get_or runs place d).from <ℤ run.to
    back w = by_place (cases_lt w.2.1.0 place) (cases_lt place w.2.1.0)
      where
        k : ℕ
        k = w.2.1.0

        is : get_or runs w.2.1.0 d ≡ w.2.0
        is = get_or_default runs w.2.1.0 d w.2.0 w.2.1.1 ∙ w.2.1.2

        by_place : (w.2.1.0 < place) ⊎ (place ≤ w.2.1.0) → (place < w.2.1.0) ⊎ (w.2.1.0 ≤ place) → (get_or runs place d).from <ℤ run.to
        by_place (inl early) _ =
            let ends : w.2.0.to ≤ℤ run.from = subst (λ (r : Run). r.to ≤ℤ run.from) is (passed w.2.1.0 d (omega arith) early) in
            let low = w.1.0 in let high = w.2.2.1 in
            absurd (omega (arith, ints))
        by_place (inr _) (inl late) =
            let apart : (get_or runs place d).to <ℤ w.2.0.from = subst (λ (r : Run). (get_or runs place d).to <ℤ r.from) is (separate.apart place w.2.1.0 d late w.2.1.1) in
            let has : (get_or runs place d).from <ℤ (get_or runs place d).to = separate.some place d within in
            let high = w.1.1 in let low = w.2.2.0 in
            omega (arith, ints)
        by_place (inr not_early) (inr not_late) =
            let same : w.2.1.0 ≡ place = omega arith in
            let begins : (get_or runs place d).from ≤ℤ w.0 = subst (λ n. (get_or runs n d).from ≤ℤ w.0) same (subst (λ (r : Run). r.from ≤ℤ w.0) (sym is) w.2.2.0) in
            let high = w.1.1 in
            omega (arith, ints)
