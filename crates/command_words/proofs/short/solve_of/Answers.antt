use Rattle.command_words.proofs.Commands.{t3, no_word}
use Rattle.command_words.proofs.short.solve_of.Goals as goal

pub returns : goal.returns
returns c = let t = t3 c.args.values.now no_word c.requires in cc (c.in_ok-new.ensures, c.in_ok-new-2.ensures, c.in_ok-new-3.ensures)
