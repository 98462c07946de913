use Rattle.std.proofs.Common.{◌≡◌, Err, length, ◌∷◌, refl, sym, ◌∙◌, ap, subst, arith}
use Rattle.command_words.specs.Setting.{SetsEach}
use Rattle.command_words.specs.Words.{generate_options}
use Rattle.command_words.specs.inside.Split.{texts}
use Rattle.command_words.proofs.Commands.{no_generate, error_is, not_apart, is_apart, made_generate, number_missing, side_missing, number_at}
use Rattle.command_words.proofs.generate.generate.Goals as goal

pub returns-in-Err-clause-usage : goal.returns-in-Err-clause-usage
returns-in-Err-clause-usage c = λ e.
    no_generate (texts c.args.words.now) (λ files number side h. c.option_values.ensures.usage (c.in-Err.is ∙ ap (λ z. Err z) (error_is _ _ e)) (h.number_text ∷ h.side_text ∷ files) h.each)

pub returns-in_default-clause-usage : goal.returns-in_default-clause-usage
returns-in_default-clause-usage c = λ e.
    no_generate (texts c.args.words.now) (number_missing (texts c.args.words.now) c.as_slice-all.result.now _
    (subst (λ z. SetsEach generate_options (texts c.args.words.now) (texts z)) (sym c.as_slice-all.ensures.value) c.in-Ok.ensures.values)
    (ap length c.as_slice-all.ensures.value ∙ c.in-Ok.ensures.count) c.in_default.ensures.none)

pub returns-in_default-side_of-clause-usage : goal.returns-in_default-side_of-clause-usage
returns-in_default-side_of-clause-usage c = λ e.
    no_generate (texts c.args.words.now) (side_missing (texts c.args.words.now) c.as_slice-all.result.now _
    (subst (λ z. SetsEach generate_options (texts c.args.words.now) (texts z)) (sym c.as_slice-all.ensures.value) c.in-Ok.ensures.values)
    (ap length c.as_slice-all.ensures.value ∙ c.in-Ok.ensures.count) c.in_default-side_of.ensures.none)

pub returns-then-not-are_apart-clause-usage : goal.returns-then-not-are_apart-clause-usage
returns-then-not-are_apart-clause-usage c = λ e.
    no_generate (texts c.args.words.now) (λ files number side h.
    not_apart generate_options (texts c.args.words.now) c.as_slice-all.result.now 2 (h.number_text ∷ h.side_text ∷ files) c.are_apart.result refl
    (subst (λ z. SetsEach generate_options (texts c.args.words.now) (texts z)) (sym c.as_slice-all.ensures.value) c.in-Ok.ensures.values) h.each c.are_apart.ensures c.if-not-are_apart.true h.apart)

pub returns-in-Ok-generate_of-clause-command : goal.returns-in-Ok-generate_of-clause-command
returns-in-Ok-generate_of-clause-command c =
    let xs = c.as_slice-all.result.now in
    let seven : length xs ≡ 7 = ap length c.as_slice-all.ensures.value ∙ c.in-Ok.ensures.count in
    made_generate (texts c.args.words.now) (texts xs) c.in-Some.number c.in-Some-side_of.side c.in-Ok-generate_of.command c.in-Ok-generate_of.ensures
    (subst (λ z. SetsEach generate_options (texts c.args.words.now) (texts z)) (sym c.as_slice-all.ensures.value) c.in-Ok.ensures.values)
    (is_apart xs 2 c.are_apart.result c.are_apart.ensures c.if-not-are_apart.false)
    (number_at xs 0 _ c.in-Some.number (omega arith) c.in-Some.ensures.some) (number_at xs 1 _ c.in-Some-side_of.side (omega arith) c.in-Some-side_of.ensures.some)
    c.in-Some.ensures.fits c.in-Some-side_of.ensures.range.0 c.in-Some-side_of.ensures.range.1
