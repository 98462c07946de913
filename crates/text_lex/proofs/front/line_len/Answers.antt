use Rattle.text_lex.proofs.Searching.{line_to_feed, line_to_end}
use Rattle.text_lex.proofs.front.line_len.Goals as goal

pub returns-in-Some : goal.returns-in-Some
returns-in-Some c = line_to_feed c.args.text.now c.in-Some.at c.in-Some.ensures

pub returns-in-None : goal.returns-in-None
returns-in-None c = line_to_end c.args.text.now c.in-None.ensures
