use Rattle.reading.proofs.Graph.{if_ok, built-then, built-or, built-many}
use Rattle.reading.proofs.patterns.Patterns.+build.Goals as goal

pub returns-in_ok-b-in-Then : goal.returns-in_ok-b-in-Then
returns-in_ok-b-in-Then g t c = if_ok _ _ _ c.place-in-Then.ensures
    (λ at k. built-then g.S.Numbered.number _ _ _ _ _ _ _ _ _ _ _ at c.in-Then.is c.in_ok-a-in-Then.ensures c.in_ok-b-in-Then.ensures k)

pub returns-in_ok-b-in-Or : goal.returns-in_ok-b-in-Or
returns-in_ok-b-in-Or g t c = if_ok _ _ _ c.place-in-Or.ensures
    (λ at k. built-or g.S.Numbered.number _ _ _ _ _ _ _ _ _ _ _ at c.in-Or.is c.in_ok-a-in-Or.ensures c.in_ok-b-in-Or.ensures k)

pub returns-in_ok-a-in-Many : goal.returns-in_ok-a-in-Many
returns-in_ok-a-in-Many g t c = if_ok _ _ _ c.place-in-Many.ensures
    (λ at k. built-many g.S.Numbered.number _ _ _ _ _ _ _ at c.in-Many.is c.in_ok-a-in-Many.ensures k)
