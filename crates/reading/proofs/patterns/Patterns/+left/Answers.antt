use Rattle.std.proofs.Common.{◌<◌, length, arith, sym, ◌∙◌}
use Rattle.reading.proofs.Graph.{node-is, then-below, or-below, many-below, then-grown, kept, if_ok, left-never, left-empty, left-one-yes, left-one-no, left-then-yes, left-then-no, left-or, left-many}
use Rattle.reading.proofs.patterns.Patterns.+left.Goals as goal

pub left-requires : goal.left-requires
left-requires g t c =
    let b = then-below _ _ _ _ c.requires.graph (node-is _ _ _ _ c.requires.at_in c.index.ensures c.in-Then.is) in
    let lt : c.in-Then.a < c.args.at = b.0 in
    let within : c.args.at < length c.args.self.now.nodes.items = c.requires.at_in in
    λ lives o. (omega (arith, c.decreases), (o, (c.requires.graph, omega arith)))

pub left-requires-in-Or : goal.left-requires-in-Or
left-requires-in-Or g t c =
    let b = or-below _ _ _ _ c.requires.graph (node-is _ _ _ _ c.requires.at_in c.index.ensures c.in-Or.is) in
    let lt : c.in-Or.a < c.args.at = b.0 in
    let within : c.args.at < length c.args.self.now.nodes.items = c.requires.at_in in
    λ lives o. (omega (arith, c.decreases), (o, (c.requires.graph, omega arith)))

pub left-requires-in-Many : goal.left-requires-in-Many
left-requires-in-Many g t c =
    let b = many-below _ _ _ c.requires.graph (node-is _ _ _ _ c.requires.at_in c.index.ensures c.in-Many.is) in
    let lt : c.in-Many.a < c.args.at = b in
    let within : c.args.at < length c.args.self.now.nodes.items = c.requires.at_in in
    λ lives o. (omega (arith, c.decreases), (o, (c.requires.graph, omega arith)))

pub seq-requires-clause-b_in : goal.seq-requires-clause-b_in
seq-requires-clause-b_in g t c =
    let b = then-below _ _ _ _ c.requires.graph (node-is _ _ _ _ c.requires.at_in c.index.ensures c.in-Then.is) in
    let lt : c.in-Then.b < c.args.at = b.1 in
    let within : c.args.at < length c.args.self.now.nodes.items = c.requires.at_in in
    kept _ _ _ _ (c.in_ok-first-in-Then.ensures.grown) (omega arith)

pub skips-requires-clause-at_in : goal.skips-requires-clause-at_in
skips-requires-clause-at_in g t c =
    let b = then-below _ _ _ _ c.requires.graph (node-is _ _ _ _ c.requires.at_in c.index.ensures c.in-Then.is) in
    let lt : c.in-Then.a < c.args.at = b.0 in
    let within : c.args.at < length c.args.self.now.nodes.items = c.requires.at_in in
    kept _ _ _ _ (then-grown _ _ _ _ _ c.in_ok-first-in-Then.ensures.grown c.in_ok-both-in-Then.ensures.grown) (omega arith)

pub left-requires-then-skips : goal.left-requires-then-skips
left-requires-then-skips g t c =
    let b = then-below _ _ _ _ c.requires.graph (node-is _ _ _ _ c.requires.at_in c.index.ensures c.in-Then.is) in
    let lt : c.in-Then.b < c.args.at = b.1 in
    let within : c.args.at < length c.args.self.now.nodes.items = c.requires.at_in in
    let k = then-grown _ _ _ _ _ c.in_ok-first-in-Then.ensures.grown c.in_ok-both-in-Then.ensures.grown in
    λ lives o. (omega (arith, c.decreases), (o, (k.graph, kept _ _ _ _ k (omega arith))))

pub left-requires-in-Or-2 : goal.left-requires-in-Or-2
left-requires-in-Or-2 g t c =
    let b = or-below _ _ _ _ c.requires.graph (node-is _ _ _ _ c.requires.at_in c.index.ensures c.in-Or.is) in
    let lt : c.in-Or.b < c.args.at = b.1 in
    let within : c.args.at < length c.args.self.now.nodes.items = c.requires.at_in in
    let k = c.in_ok-first-in-Or.ensures.grown in
    λ lives o. (omega (arith, c.decreases), (o, (k.graph, kept _ _ _ _ k (omega arith))))

pub returns-in-Never : goal.returns-in-Never
returns-in-Never g t c = if_ok _ _ _ c.place.ensures (λ at k. left-never g.S.Numbered.number _ _ _ _ at (node-is _ _ _ _ c.requires.at_in c.index.ensures c.in-Never.is) k)

pub returns-in-Empty : goal.returns-in-Empty
returns-in-Empty g t c = if_ok _ _ _ c.place-in-Empty.ensures (λ at k. left-empty g.S.Numbered.number _ _ _ _ at (node-is _ _ _ _ c.requires.at_in c.index.ensures c.in-Empty.is) k)

pub returns-then-is_in : goal.returns-then-is_in
returns-then-is_in g t c = if_ok _ _ _ c.place-then-is_in.ensures
    (λ at k. left-one-yes g.S.Numbered.number _ _ _ _ at _ (node-is _ _ _ _ c.requires.at_in c.index.ensures c.in-One.is) ((sym c.is_in.ensures ∙ c.if-is_in.true)) k)

pub returns-else-is_in : goal.returns-else-is_in
returns-else-is_in g t c = if_ok _ _ _ c.place-else-is_in.ensures
    (λ at k. left-one-no g.S.Numbered.number _ _ _ _ at _ (node-is _ _ _ _ c.requires.at_in c.index.ensures c.in-One.is) ((sym c.is_in.ensures ∙ c.if-is_in.false)) k)

pub returns-in_ok-second-in-Then : goal.returns-in_ok-second-in-Then
returns-in_ok-second-in-Then g t c = if_ok _ _ _ c.alt.ensures (λ at k.
    left-then-yes g.S.Numbered.number _ _ _ _ _ _ _ _ _ _ _ _ at _ (node-is _ _ _ _ c.requires.at_in c.index.ensures c.in-Then.is) c.in_ok-first-in-Then.ensures c.in_ok-both-in-Then.ensures
    c.skips.ensures c.if-skips.true c.in_ok-second-in-Then.ensures k)

pub returns-else-skips : goal.returns-else-skips
returns-else-skips g t c =
    left-then-no g.S.Numbered.number _ _ _ _ _ _ _ _ _ _ (node-is _ _ _ _ c.requires.at_in c.index.ensures c.in-Then.is) c.in_ok-first-in-Then.ensures c.in_ok-both-in-Then.ensures c.skips.ensures c.if-skips.false

pub returns-in_ok-second-in-Or : goal.returns-in_ok-second-in-Or
returns-in_ok-second-in-Or g t c = if_ok _ _ _ c.alt-in-Or.ensures (λ at k.
    left-or g.S.Numbered.number _ _ _ _ _ _ _ _ _ _ at (node-is _ _ _ _ c.requires.at_in c.index.ensures c.in-Or.is) c.in_ok-first-in-Or.ensures c.in_ok-second-in-Or.ensures k)

pub returns-in_ok-first-in-Many : goal.returns-in_ok-first-in-Many
returns-in_ok-first-in-Many g t c = if_ok _ _ _ c.seq-in-Many.ensures (λ at k.
    left-many g.S.Numbered.number _ _ _ _ _ _ _ at (node-is _ _ _ _ c.requires.at_in c.index.ensures c.in-Many.is) c.in_ok-first-in-Many.ensures k)
