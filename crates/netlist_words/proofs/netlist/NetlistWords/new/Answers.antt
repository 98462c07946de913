use Rattle.std.proofs.Common.{length, sym, ap, subst, arith}
use Rattle.reading.specs.Source.{Ended}
use Rattle.netlist_words.specs.declared.class.Before.TheVariants.{Nothing}
use Rattle.netlist_words.specs.Line.{lines_of, end_of}
use Rattle.netlist_words.specs.Title.{without_title}
use Rattle.netlist_words.specs.Text.{counted}
use Rattle.netlist_words.proofs.Cards.{words_ended}
use Rattle.netlist_words.proofs.Counts.{netlist_few}
use Rattle.netlist_words.proofs.netlist.NetlistWords.new.Goals as goal

pub returns-clause-whole : goal.returns-clause-whole
returns-clause-whole c = λ e.
    let lines = lines_of c.args.text.now in
    subst Ended (sym c.new.ensures.left) (words_ended (counted Nothing (without_title lines)) (end_of lines))

pub returns-clause-few : goal.returns-clause-few
returns-clause-few c =
    let same = ap length c.new.ensures.left in
    let few = netlist_few c.args.text.now in
    omega arith
