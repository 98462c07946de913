use Rattle.netlist_words.proofs.Parts.{line_taken, last_taken}
use Rattle.netlist_words.proofs.line.Lines.next.Goals as goal

pub returns-in-Some-clause-takes : goal.returns-in-Some-clause-takes
returns-in-Some-clause-takes c =
    let s = c.args.self.now in line_taken s.more s.number s.rest.now c.in-Some.at c.if-not-self.false (c.in-Some.ensures)

pub returns-in-None-clause-takes : goal.returns-in-None-clause-takes
returns-in-None-clause-takes c =
    let s = c.args.self.now in last_taken s.more s.number s.rest.now c.if-not-self.false (c.in-None.ensures)
