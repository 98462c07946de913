use Rattle.std.proofs.Common.{Some, true, ap}
use Rattle.clap.specs.Words.{Rule}
use Rattle.clap.specs.declared.builder.action.ArgAction.TheVariants.{Set}
use Rattle.command_words.proofs.parsed.arg_for.Goals as goal

pub returns-clause-rule : goal.returns-clause-rule
returns-clause-rule c =
    let n = c.args.option.now.name.now in
    rw (c.action.ensures, c.required.ensures, c.help.ensures, c.value_name.ensures, c.long.ensures)
    (ap (λ (r : Rule). record r { long = Some n; value_names = 1; action = Some Set; required = true }) c.new.ensures.rule)
