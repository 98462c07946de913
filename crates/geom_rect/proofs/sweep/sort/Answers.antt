use Rattle.std.proofs.Common.{rules}
use Rattle.std.proofs.lemmas.List.Sorted.{answers_always}
use Rattle.geom_rect.specs.declared.run.Run.{Run}
use Rattle.geom_rect.proofs.sweep.sort.Goals as goal

pub returns-clause-rising : goal.returns-clause-rising
returns-clause-rising c = c.sort_unstable_by_key.ensures.sorted (λ (run : Run). run.from) (answers_always _ _ _ (λ f a r g h. search rules))
