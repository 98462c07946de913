use Rattle.std.proofs.Common.{◌<◌, length, arith}
use Rattle.reading.proofs.Graph.{node-is, then-below, or-below, skips-never, skips-empty, skips-one, skips-many, skips-then-yes, skips-then-no, skips-or-yes, skips-or-no}
use Rattle.reading.proofs.patterns.Patterns.+skips.Goals as goal

pub skips-requires : goal.skips-requires
skips-requires g t c =
    let b = then-below _ _ _ _ c.requires.graph (node-is _ _ _ _ c.requires.at_in c.index.ensures c.in-Then.is) in
    let lt : c.in-Then.a < c.args.at = b.0 in
    let within : c.args.at < length c.args.self.now.nodes.items = c.requires.at_in in
    λ lives o. (omega (arith, c.decreases), (o, (c.requires.graph, omega arith)))

pub skips-requires-then-skips : goal.skips-requires-then-skips
skips-requires-then-skips g t c =
    let b = then-below _ _ _ _ c.requires.graph (node-is _ _ _ _ c.requires.at_in c.index.ensures c.in-Then.is) in
    let lt : c.in-Then.b < c.args.at = b.1 in
    let within : c.args.at < length c.args.self.now.nodes.items = c.requires.at_in in
    λ lives o. (omega (arith, c.decreases), (o, (c.requires.graph, omega arith)))

pub skips-requires-in-Or : goal.skips-requires-in-Or
skips-requires-in-Or g t c =
    let b = or-below _ _ _ _ c.requires.graph (node-is _ _ _ _ c.requires.at_in c.index.ensures c.in-Or.is) in
    let lt : c.in-Or.a < c.args.at = b.0 in
    let within : c.args.at < length c.args.self.now.nodes.items = c.requires.at_in in
    λ lives o. (omega (arith, c.decreases), (o, (c.requires.graph, omega arith)))

pub skips-requires-else-skips-2 : goal.skips-requires-else-skips-2
skips-requires-else-skips-2 g t c =
    let b = or-below _ _ _ _ c.requires.graph (node-is _ _ _ _ c.requires.at_in c.index.ensures c.in-Or.is) in
    let lt : c.in-Or.b < c.args.at = b.1 in
    let within : c.args.at < length c.args.self.now.nodes.items = c.requires.at_in in
    λ lives o. (omega (arith, c.decreases), (o, (c.requires.graph, omega arith)))

pub returns-in-Never : goal.returns-in-Never
returns-in-Never g t c = skips-never g.S.Numbered.number _ _ (node-is _ _ _ _ c.requires.at_in c.index.ensures c.in-Never.is)

pub returns-in-Empty : goal.returns-in-Empty
returns-in-Empty g t c = skips-empty g.S.Numbered.number _ _ (node-is _ _ _ _ c.requires.at_in c.index.ensures c.in-Empty.is)

pub returns-in-One : goal.returns-in-One
returns-in-One g t c = skips-one g.S.Numbered.number _ _ _ (node-is _ _ _ _ c.requires.at_in c.index.ensures c.in-One.is)

pub returns-in-Many : goal.returns-in-Many
returns-in-Many g t c = skips-many g.S.Numbered.number _ _ _ (node-is _ _ _ _ c.requires.at_in c.index.ensures c.in-Many.is)

pub returns-then-skips : goal.returns-then-skips
returns-then-skips g t c = skips-then-yes g.S.Numbered.number _ _ _ _ _ _ (node-is _ _ _ _ c.requires.at_in c.index.ensures c.in-Then.is) c.skips.ensures c.if-skips.true c.skips-then-skips.ensures

pub returns-else-skips : goal.returns-else-skips
returns-else-skips g t c = skips-then-no g.S.Numbered.number _ _ _ _ _ (node-is _ _ _ _ c.requires.at_in c.index.ensures c.in-Then.is) c.skips.ensures c.if-skips.false

pub returns-then-skips-2 : goal.returns-then-skips-2
returns-then-skips-2 g t c = skips-or-yes g.S.Numbered.number _ _ _ _ _ (node-is _ _ _ _ c.requires.at_in c.index.ensures c.in-Or.is) c.skips-in-Or.ensures c.if-skips-2.true

pub returns-else-skips-2 : goal.returns-else-skips-2
returns-else-skips-2 g t c = skips-or-no g.S.Numbered.number _ _ _ _ _ _ (node-is _ _ _ _ c.requires.at_in c.index.ensures c.in-Or.is) c.skips-in-Or.ensures c.if-skips-2.false c.skips-else-skips-2.ensures
