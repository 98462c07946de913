use Rattle.std.proofs.Common.{◌≡◌, ◌+◌, [], ◌∷◌, ◌++◌, take, subst, sym, ap, ◌∙◌}
use Rattle.std.proofs.lemmas.List.{take_more}
use Rattle.reading.specs.inside.Patterns.{IsSet, IsWith}
use Rattle.reading.specs.Rule.{listed_in}
use Rattle.reading.proofs.Bits.{set-more}
use Rattle.reading.proofs.patterns.set_of.Goals as goal

pub loop-sort-preserved : goal.loop-sort-preserved
loop-sort-preserved g c =
    let more : take (c.loop-sort.sort-index + 1) c.args.sorts.now ≡ take c.loop-sort.sort-index c.args.sorts.now ++ c.sort-item.result ∷ [] =
    take_more c.args.sorts.now c.loop-sort.sort-index _ c.loop-sort-test.true ∙ ap (λ z. take c.loop-sort.sort-index c.args.sorts.now ++ z ∷ []) (sym c.sort-item.is) in
    subst (λ z. IsSet g.S.Numbered.number c.with_number-set.result (listed_in g.S.Numbered.number z)) (sym more)
    (set-more g.S.Numbered.number _ _ _ _ c.loop-sort.invariant (subst (λ z. IsWith c.loop-sort.set z c.with_number-set.result) c.number.ensures c.with_number-set.ensures))
