use Rattle.name_table.proofs.ByteOrderLemmas.{same_in_order}
use Rattle.name_table.proofs.order.one_order.Goals as goal

pub returns : goal.returns
returns c first second up_first up_second same =
    same_in_order first second up_first up_second (λ n. (same n).0) (λ n. (same n).1)
