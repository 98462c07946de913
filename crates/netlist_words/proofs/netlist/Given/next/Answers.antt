use Rattle.std.proofs.Common.{sym, ◌∙◌}
use Rattle.netlist_words.specs.Line.{words_of}
use Rattle.netlist_words.specs.inside.Left.{words_in, words_end}
use Rattle.netlist_words.proofs.Words.{end_is}
use Rattle.netlist_words.proofs.Cards.{own_end}
use Rattle.netlist_words.proofs.netlist.Given.next.Goals as goal

pub returns-then-self-clause-takes : goal.returns-then-self-clause-takes
returns-then-self-clause-takes c =
    let s = c.args.self.now in
    let w = c.next.new.self in
    own_end s.pending s.ends (words_in s.words) (words_in w) (words_end s.words) w.place (words_end w) _ c.in_default.is c.if-self.true
    (c.in_default-next.ensures.takes.0) (c.in_default-next.ensures.takes.1)
    (sym c.next.ensures.end ∙ end_is w.form w.place (words_of w.rest.now) (c.in_default-next.ensures.takes.1)) c.end_of_card-then-self.ensures
