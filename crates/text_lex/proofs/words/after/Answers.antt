use Rattle.std.proofs.Common.{◌∙◌}
use Rattle.text_lex.proofs.Steps.{place_after_word}
use Rattle.text_lex.proofs.words.after.Goals as goal

pub returns-in-Quoted : goal.returns-in-Quoted
returns-in-Quoted c = c.after_lines.ensures ∙ place_after_word c.args.place c.args.form c.args.text.now
