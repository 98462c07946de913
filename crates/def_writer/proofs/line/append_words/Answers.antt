use Rattle.std.proofs.Common.{◌≡◌, ℕ, ◌<◌, true, false, ap, sym, ◌∙◌, arith}
use Rattle.std.specs.Prelude.{◌==◌}
use Rattle.std.proofs.lemmas.Bool.Decides.{nat_tests}
use Rattle.def_writer.proofs.LineLemmas.{next_word, first_word}
use Rattle.def_writer.proofs.line.append_words.Goals as goal
use Rattle.def_writer.proofs.line.append_words.Goals.{then-not-first+in_ok-push, else-not-first}

later : (i : ℕ) → false ≡ (i == 0) → 0 < i
later i h = grind (arith, nat_tests)

begins : (i : ℕ) → true ≡ (i == 0) → i ≡ 0
begins i h = grind (arith, nat_tests)

pub loop-word-preserved : goal.loop-word-preserved
loop-word-preserved c =
    let word = c.in_ok-extend_from_slice.ensures.items in
    let i = c.loop-word.word-index in
    let before = c.loop-word.invariant.written in
    elim c.if-not-first.branch [
      | then-not-first+in_ok-push w ↦
          let some : 0 < i = later i (sym w.if-not-first.true ∙ c.loop-word.invariant.first) in
          record {
            written = next_word c.args.words.now i _ _ _ _ _ c.loop-word-test.true some before (ap (λ v. v.items) w.out-is ∙ w.in_ok-push.ensures.items) word;
            first = grind (arith, nat_tests);
          }
      | else-not-first w ↦
          let none : i ≡ 0 = begins i (sym w.if-not-first.false ∙ c.loop-word.invariant.first) in
          record {
            written = first_word c.args.words.now i _ _ _ _ _ c.loop-word-test.true none before (ap (λ v. v.items) w.out-is) word;
            first = grind (arith, nat_tests);
          }
    ]
