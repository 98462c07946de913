use Rattle.std.proofs.Common.{Err, drop, [], ◌∷◌, refl, sym, ◌∙◌, ap, subst}
use Rattle.command_words.specs.Setting.{SetsEach}
use Rattle.command_words.specs.Words.{build_options, AreApart}
use Rattle.command_words.specs.inside.Split.{texts, IsBuildOf}
use Rattle.command_words.proofs.Commands.{no_build, error_is, made_build, not_apart, is_apart}
use Rattle.command_words.proofs.build.build.Goals as goal

pub returns-in-Err-clause-usage : goal.returns-in-Err-clause-usage
returns-in-Err-clause-usage c = λ e.
    no_build (texts c.args.words.now) (λ a b c1 d e1 f g i j each apart. c.option_values.ensures.usage (c.in-Err.is ∙ ap (λ z. Err z) (error_is _ _ e)) (a ∷ b ∷ c1 ∷ d ∷ e1 ∷ f ∷ g ∷ i ∷ j ∷ []) each)

pub returns-then-not-are_apart-clause-usage : goal.returns-then-not-are_apart-clause-usage
returns-then-not-are_apart-clause-usage c = λ e.
    no_build (texts c.args.words.now) (λ a b c1 d e1 f g i j each apart.
    not_apart build_options (texts c.args.words.now) c.deref.result.now 5 (a ∷ b ∷ c1 ∷ d ∷ e1 ∷ f ∷ g ∷ i ∷ j ∷ []) c.are_apart.result refl (subst (λ z. SetsEach build_options (texts c.args.words.now) (texts z)) (sym c.deref.ensures.value) c.in-Ok.ensures.values) each c.are_apart.ensures c.if-not-are_apart.true apart)

pub returns-in-Ok-build_of-clause-command : goal.returns-in-Ok-build_of-clause-command
returns-in-Ok-build_of-clause-command c =
    made_build (texts c.args.words.now) (texts c.in-Ok.values.items) c.in-Ok-build_of.command
    (subst (λ z. IsBuildOf (texts z) c.in-Ok-build_of.command) c.deref-2.ensures.value c.in-Ok-build_of.ensures)
    c.in-Ok.ensures.values
    (subst (λ z. AreApart (drop 5 (texts z))) c.deref.ensures.value (is_apart c.deref.result.now 5 c.are_apart.result c.are_apart.ensures c.if-not-are_apart.false))
