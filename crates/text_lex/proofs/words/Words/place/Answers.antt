use Rattle.text_lex.proofs.Nexts.{left_after_gap, next_at}
use Rattle.text_lex.proofs.words.Words.place.Goals as goal

pub returns-in-None : goal.returns-in-None
returns-in-None c =
    let s = c.self.inside in
    let start = c.skip_gap.result in
    let left = left_after_gap s.mode s.command_could_begin s.place s.rest.now s.refusal c.args.self.now start.place start.rest.now c.self.view_is c.in-None.is c.skip_gap.ensures.words in
    next_at s.mode s.command_could_begin start.place start.rest.now c.args.self.now c.skip_gap.ensures.begins left
