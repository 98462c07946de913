use Rattle.std.proofs.Common.{◌+◌, ℕ, List, get_or, set, length, sym, subst, ap, ◌∙◌, arith}
use Rattle.std.specs.Prelude.{pos}
use Rattle.std.specs.List.Sorted.{IsPermutation}
use Rattle.std.proofs.lemmas.List.{length-set}
use Rattle.std.proofs.lemmas.List.Sorted.{length_permutation}
use Rattle.grid_network.specs.declared.question.Question.{Question}
use Rattle.grid_network.specs.Nodes.{number_of}
use Rattle.grid_network.proofs.Questions.{AreAnswered, answered_more, all_answered, place_within}
use Rattle.grid_network.proofs.question.numbers_of.Goals as goal

none : Question
none = record { key = record { net = 0; layer = 0; x = pos 0; y = pos 0 }; at = 0 }

pub loop-question-init : goal.loop-question-init
loop-question-init c = record {
  count = omega (arith, c.in_ok-numbers.ensures.len, c.len.ensures, ap (λ l. length l) c.deref-question-items.ensures.value, length_permutation _ _ c.sort_unstable.ensures.permutation);
  answered = λ keys told k d below within. absurd (omega arith);
}

pub index_mut-requires : goal.index_mut-requires
unfolding none
index_mut-requires c =
    let moved : IsPermutation c.args.questions.items c.deref-question-items.result.now = subst (IsPermutation c.args.questions.items) (sym c.deref-question-items.ensures.value) c.sort_unstable.ensures.permutation in
    let place = place_within c.args.questions.items c.deref-question-items.result.now c.loop-question.question-index none c.requires.in_turn moved c.loop-question-test.true in
    omega (arith, place, c.loop-question.invariant.count, length_permutation _ _ moved)

pub loop-question-preserved : goal.loop-question-preserved
unfolding none
loop-question-preserved c =
    let asked : List Question = c.deref-question-items.result.now in
    let moved : IsPermutation c.args.questions.items asked = subst (IsPermutation c.args.questions.items) (sym c.deref-question-items.ensures.value) c.sort_unstable.ensures.permutation in
    record {
      count = length-set _ _ _ ∙ c.loop-question.invariant.count;
      answered = λ keys told.
          subst (λ (n : ℕ). AreAnswered (number_of keys) asked (set c.loop-question.numbers.items (get_or asked c.loop-question.question-index none).at n) (c.loop-question.question-index + 1))
          (sym (c.number_of.ensures keys told))
          (answered_more (number_of keys) c.args.questions.items asked c.loop-question.numbers.items c.loop-question.question-index none c.requires.in_turn moved
          (c.loop-question.invariant.count ∙ length_permutation _ _ moved) c.loop-question-test.true (c.loop-question.invariant.answered keys told));
    }

pub returns-clause-numbers : goal.returns-clause-numbers
returns-clause-numbers c keys told =
    let asked : List Question = c.deref-question-items.result.now in
    let moved : IsPermutation c.args.questions.items asked = subst (IsPermutation c.args.questions.items) (sym c.deref-question-items.ensures.value) c.sort_unstable.ensures.permutation in
    all_answered (number_of keys) c.args.questions.items asked c.loop-question.numbers.items c.loop-question.question-index c.requires.in_turn moved
    (c.loop-question.invariant.count ∙ length_permutation _ _ moved) c.loop-question-test.false (c.loop-question.invariant.answered keys told)
