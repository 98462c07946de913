use Rattle.reading.proofs.Graph.{node-is, read-node, seq-never, seq-empty, seq-other, if_ok}
use Rattle.reading.proofs.patterns.Patterns.seq.Goals as goal

pub returns-in-Never : goal.returns-in-Never
returns-in-Never g c = seq-never g.S.Numbered.number _ _ _ c.requires.graph c.requires.a_in (node-is _ _ _ _ c.requires.a_in c.index.ensures c.in-Never.is)

pub returns-in-Empty : goal.returns-in-Empty
returns-in-Empty g c = seq-empty g.S.Numbered.number _ _ _ c.requires.graph c.requires.b_in (node-is _ _ _ _ c.requires.a_in c.index.ensures c.in-Empty.is)

pub returns-in_default : goal.returns-in_default
returns-in_default g c = if_ok _ _ _ c.place.ensures (λ at t.
    seq-other g.S.Numbered.number _ _ _ _ at _ (read-node _ _ _ c.requires.a_in c.index.ensures) c.in_default.not-Never c.in_default.not-Empty t)
