use Rattle.std.proofs.Common.{refl}
use Rattle.reading.proofs.Stepping.{ready-noted}
use Rattle.reading.proofs.engine.find_left.Goals as goal

pub returns-clause-ready : goal.returns-clause-ready
returns-clause-ready g c =
    ready-noted g.G.Sort.Numbered.number g.G.Section.Numbered.number g.G.Grammar.pattern g.G.Sort.Numbered.all c.args.machine.now _ _ _ c.args.sort _ _ g.met.G.Sort.Numbered.listed
    g.met.G.Sort.Numbered.few c.requires.ready c.requires.within c.in_ok-node.ensures c.standing.ensures refl refl refl c.number-number.ensures c.in_ok-widen.ensures.rows c.in_ok-widen.ensures.lefts c.in_ok-widen.ensures.others c.note.ensures.lefts c.note.ensures.count c.note.ensures.others
