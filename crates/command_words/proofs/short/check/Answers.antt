use Rattle.std.proofs.Common.{Err, ◌∙◌, ap}
use Rattle.command_words.specs.inside.Split.{texts}
use Rattle.command_words.proofs.Commands.{no_check, error_is}
use Rattle.command_words.proofs.short.check.Goals as goal

pub returns-in-Err-clause-usage : goal.returns-in-Err-clause-usage
returns-in-Err-clause-usage c = λ e.
    no_check (texts c.args.words.now) (c.option_values.ensures.usage (c.in-Err.is ∙ ap (λ z. Err z) (error_is _ _ e)))
