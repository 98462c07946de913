use Rattle.std.proofs.Common.{◌≡◌, ℕ, ◌-◌, ◌+◌, ◌<◌, ◌<ℤ◌, length, get_or, sym, ap, ◌∙◌, arith, rules, SFits, w64, of_z}
use Rattle.std.proofs.lemmas.Int.{ints, to_z-of_z}
use Rattle.std.proofs.lemmas.List.{get_or_default}
use Rattle.geom_rect.specs.declared.run.Run.{Run}
use Rattle.geom_rect.proofs.Appended.{AddsCells-push, AddsCells-join_at, all_apart}
use Rattle.geom_rect.proofs.sweep.append.Goals as goal
use Rattle.geom_rect.proofs.sweep.append.Goals.{else-n-gt0-via-then-n-gt0+else-index-from, else-n-gt0-via-else-n-gt0}

pub returns-then-index-from : goal.returns-then-index-from
returns-then-index-from c =
    let runs = c.args.runs.now.items in
    let n = c.len-n.result in
    let long : n ≡ length runs = omega arith in
    let some : 0 < n = c.if-n-gt0.true in
    let last = c.index_mut.result.now in
    let to : SFits w64 c.args.to = c.ranges.to in
    let from : SFits w64 c.args.from = c.ranges.from in
    let end : SFits w64 c.index.result.now.to = search rules in
    let touches : c.index.result.now.to ≡ c.args.from = omega (arith, ints) in
    let rises : c.args.from <ℤ c.args.to = omega (arith, ints) in
    let same : last ≡ c.index.result.now = c.index_mut.ensures.value ∙ get_or_default runs (n - 1) last c.index.result.now (omega arith) ∙ sym c.index.ensures in
    simp to_z-of_z (AddsCells-join_at runs n last c.args.from c.args.to c.requires.separate c.requires.ended long some c.index_mut.ensures.value (ap (λ (run : Run). run.to) same ∙ touches) rises)

pub returns-in_ok-push : goal.returns-in_ok-push
returns-in_ok-push c =
    let runs = c.args.runs.now.items in
    let n = c.len-n.result in
    let long : n ≡ length runs = omega arith in
    let to : SFits w64 c.args.to = c.ranges.to in
    let from : SFits w64 c.args.from = c.ranges.from in
    let rises : c.args.from <ℤ c.args.to = omega (arith, ints) in
    let apart : (k : ℕ) (d : Run) → k + 1 ≡ n → (get_or runs k d).to ≡ c.args.from → ⊥ =
    elim c.else-n-gt0.branch [
      | else-n-gt0-via-then-n-gt0+else-index-from w ↦ λ k d last touches.
          let place : n - 1 ≡ k = omega arith in
          let read : w.index.result.now ≡ get_or runs k d =
          w.index.ensures ∙ get_or_default runs (n - 1) w.index.result.now d (omega arith) ∙ ap (λ (i : ℕ). get_or runs i d) place in
          w.if-index-from.false (ap (of_z w64) (ap (λ (run : Run). run.to) read ∙ touches))
      | else-n-gt0-via-else-n-gt0 w ↦ λ k d last touches. absurd (omega arith)
    ] in
    rw c.in_ok-push.ensures.items (simp to_z-of_z (AddsCells-push runs c.args.from c.args.to c.requires.separate c.requires.ended (all_apart runs n c.args.from c.requires.separate c.requires.ended long apart) rises))
