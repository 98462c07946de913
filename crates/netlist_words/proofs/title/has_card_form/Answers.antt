use Rattle.netlist_words.specs.Line.{line_of}
use Rattle.netlist_words.proofs.Cards.{no_form}
use Rattle.netlist_words.proofs.title.has_card_form.Goals as goal

pub returns-in-Some-next-5 : goal.returns-in-Some-next-5
returns-in-Some-next-5 c =
    no_form (line_of c.args.line) _ _ _ _ _ _ _ _ _ _ _ _ _ c.new-words.ensures.words c.in-Some.ensures.takes c.in-Some-next.ensures.takes c.in-Some-next-2.ensures.takes
    c.in-Some-next-3.ensures.takes c.in-Some-next-4.ensures.takes c.in-Some-next-5.ensures.takes
