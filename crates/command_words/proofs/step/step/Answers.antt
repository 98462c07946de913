use Rattle.std.proofs.Common.{◌≡◌, Err, length, [], ◌∷◌, refl, sym, ◌∙◌, ap, subst, arith}
use Rattle.command_words.specs.Setting.{SetsEach}
use Rattle.command_words.specs.Words.{step_options}
use Rattle.command_words.specs.inside.Split.{texts}
use Rattle.command_words.proofs.Commands.{no_step, error_is, not_apart, is_apart, made_step, time_missing, steps_missing, number_at, time_at}
use Rattle.command_words.proofs.step.step.Goals as goal

pub returns-in-Err-clause-usage : goal.returns-in-Err-clause-usage
returns-in-Err-clause-usage c = λ e.
    no_step (texts c.args.words.now) (λ x y z w time steps h. c.option_values.ensures.usage (c.in-Err.is ∙ ap (λ z. Err z) (error_is _ _ e)) (h.time_text ∷ h.steps_text ∷ x ∷ y ∷ z ∷ w ∷ []) h.each)

pub returns-in_default-clause-usage : goal.returns-in_default-clause-usage
returns-in_default-clause-usage c = λ e.
    no_step (texts c.args.words.now) (time_missing (texts c.args.words.now) c.as_slice-all.result.now _
    (subst (λ z. SetsEach step_options (texts c.args.words.now) (texts z)) (sym c.as_slice-all.ensures.value) c.in-Ok.ensures.values)
    (ap length c.as_slice-all.ensures.value ∙ c.in-Ok.ensures.count) c.in_default.ensures.none)

pub returns-in_default-steps_of-clause-usage : goal.returns-in_default-steps_of-clause-usage
returns-in_default-steps_of-clause-usage c = λ e.
    no_step (texts c.args.words.now) (steps_missing (texts c.args.words.now) c.as_slice-all.result.now _
    (subst (λ z. SetsEach step_options (texts c.args.words.now) (texts z)) (sym c.as_slice-all.ensures.value) c.in-Ok.ensures.values)
    (ap length c.as_slice-all.ensures.value ∙ c.in-Ok.ensures.count) c.in_default-steps_of.ensures.none)

pub returns-then-not-are_apart-clause-usage : goal.returns-then-not-are_apart-clause-usage
returns-then-not-are_apart-clause-usage c = λ e.
    no_step (texts c.args.words.now) (λ x y z w time steps h.
    not_apart step_options (texts c.args.words.now) c.as_slice-all.result.now 4 (h.time_text ∷ h.steps_text ∷ x ∷ y ∷ z ∷ w ∷ []) c.are_apart.result refl
    (subst (λ z. SetsEach step_options (texts c.args.words.now) (texts z)) (sym c.as_slice-all.ensures.value) c.in-Ok.ensures.values) h.each c.are_apart.ensures c.if-not-are_apart.true h.apart)

pub returns-in-Ok-step_of-clause-command : goal.returns-in-Ok-step_of-clause-command
returns-in-Ok-step_of-clause-command c =
    let xs = c.as_slice-all.result.now in
    let six : length xs ≡ 6 = ap length c.as_slice-all.ensures.value ∙ c.in-Ok.ensures.count in
    made_step (texts c.args.words.now) (texts xs) c.in-Some.time c.in-Some-steps_of.steps c.in-Ok-step_of.command c.in-Ok-step_of.ensures
    (subst (λ z. SetsEach step_options (texts c.args.words.now) (texts z)) (sym c.as_slice-all.ensures.value) c.in-Ok.ensures.values)
    (is_apart xs 4 c.are_apart.result c.are_apart.ensures c.if-not-are_apart.false)
    (time_at xs 0 _ c.in-Some.time (omega arith) c.in-Some.ensures.some) (number_at xs 1 _ c.in-Some-steps_of.steps (omega arith) c.in-Some-steps_of.ensures.some)
    c.in-Some-steps_of.ensures.range.0 c.in-Some-steps_of.ensures.range.1
