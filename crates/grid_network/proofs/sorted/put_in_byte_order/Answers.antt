use Rattle.std.proofs.Common.{rules}
use Rattle.std.specs.Ordering.{is_lt}
use Rattle.std.proofs.lemmas.List.Sorted.{ranks_by, answers_always}
use Rattle.grid_network.specs.inside.Steps.{name_cmp}
use Rattle.grid_network.proofs.Numberings.{name_order}
use Rattle.grid_network.proofs.sorted.put_in_byte_order.Goals as goal

pub returns-clause-sorted : goal.returns-clause-sorted
returns-clause-sorted c = c.sort_unstable_by.ensures.sorted (λ a b. is_lt (name_cmp a b)) (ranks_by name_order (λ n. n)) (answers_always _ _ _ (λ f a r g h. search rules))
