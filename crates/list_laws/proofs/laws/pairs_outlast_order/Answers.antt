use Rattle.std.proofs.Common.{IsTrue}
use Rattle.list_laws.specs.Laws.Permuted.{apart_permuted}
use Rattle.list_laws.proofs.laws.pairs_outlast_order.Goals as goal

pub returns : goal.returns
returns g c = λ test flips xs ys moved pairs. apart_permuted (λ x y. IsTrue (test x y)) flips xs ys moved pairs
