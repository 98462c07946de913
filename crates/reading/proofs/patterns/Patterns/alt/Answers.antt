use Rattle.reading.proofs.Graph.{node-is, read-node, alt-first, alt-second, alt-other, if_ok}
use Rattle.reading.proofs.patterns.Patterns.alt.Goals as goal

pub returns-in-Never-default : goal.returns-in-Never-default
returns-in-Never-default g c = alt-first g.S.Numbered.number _ _ _ c.requires.graph c.requires.b_in (node-is _ _ _ _ c.requires.a_in c.index.ensures c.in-Never-default.is-0)

pub returns-in_default-Never : goal.returns-in_default-Never
returns-in_default-Never g c = alt-second g.S.Numbered.number _ _ _ c.requires.graph c.requires.a_in (node-is _ _ _ _ c.requires.b_in c.index-2.ensures c.in_default-Never.is-1)

pub returns-in_default : goal.returns-in_default
returns-in_default g c = if_ok _ _ _ c.place.ensures (λ at t.
    alt-other g.S.Numbered.number _ _ _ _ at _ _ (read-node _ _ _ c.requires.a_in c.index.ensures) (read-node _ _ _ c.requires.b_in c.index-2.ensures) c.in_default.not-Never-0 c.in_default.not-Never-1 t)
