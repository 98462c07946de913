use Rattle.command_words.proofs.Commands.{t8, no_word}
use Rattle.command_words.proofs.signoff.signoff_of.Goals as goal

pub returns : goal.returns
returns c = let t = t8 c.args.values.now no_word c.requires in cc (c.in_ok-new.ensures, c.in_ok-new-2.ensures, c.in_ok-new-3.ensures, c.in_ok-new-4.ensures, c.in_ok-new-5.ensures, c.in_ok-new-6.ensures, c.in_ok-new-7.ensures, c.in_ok-new-8.ensures)
