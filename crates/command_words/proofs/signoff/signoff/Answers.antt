use Rattle.std.proofs.Common.{Err, drop, [], ◌∷◌, refl, sym, ◌∙◌, ap, subst}
use Rattle.command_words.specs.Setting.{SetsEach}
use Rattle.command_words.specs.Words.{signoff_options, AreApart}
use Rattle.command_words.specs.inside.Split.{texts, IsSignoffOf}
use Rattle.command_words.proofs.Commands.{no_signoff, error_is, made_signoff, not_apart, is_apart}
use Rattle.command_words.proofs.signoff.signoff.Goals as goal

pub returns-in-Err-clause-usage : goal.returns-in-Err-clause-usage
returns-in-Err-clause-usage c = λ e.
    no_signoff (texts c.args.words.now) (λ a b c1 d e1 f g i each apart. c.option_values.ensures.usage (c.in-Err.is ∙ ap (λ z. Err z) (error_is _ _ e)) (a ∷ b ∷ c1 ∷ d ∷ e1 ∷ f ∷ g ∷ i ∷ []) each)

pub returns-then-not-are_apart-clause-usage : goal.returns-then-not-are_apart-clause-usage
returns-then-not-are_apart-clause-usage c = λ e.
    no_signoff (texts c.args.words.now) (λ a b c1 d e1 f g i each apart.
    not_apart signoff_options (texts c.args.words.now) c.deref.result.now 5 (a ∷ b ∷ c1 ∷ d ∷ e1 ∷ f ∷ g ∷ i ∷ []) c.are_apart.result refl (subst (λ z. SetsEach signoff_options (texts c.args.words.now) (texts z)) (sym c.deref.ensures.value) c.in-Ok.ensures.values) each c.are_apart.ensures c.if-not-are_apart.true apart)

pub returns-in-Ok-signoff_of-clause-command : goal.returns-in-Ok-signoff_of-clause-command
returns-in-Ok-signoff_of-clause-command c =
    made_signoff (texts c.args.words.now) (texts c.in-Ok.values.items) c.in-Ok-signoff_of.command
    (subst (λ z. IsSignoffOf (texts z) c.in-Ok-signoff_of.command) c.deref-2.ensures.value c.in-Ok-signoff_of.ensures)
    c.in-Ok.ensures.values
    (subst (λ z. AreApart (drop 5 (texts z))) c.deref.ensures.value (is_apart c.deref.result.now 5 c.are_apart.result c.are_apart.ensures c.if-not-are_apart.false))
