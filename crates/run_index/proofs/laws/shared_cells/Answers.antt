use Rattle.std.proofs.Common.{sym, arith}
use Rattle.std.specs.Int.{int_max}
use Rattle.std.proofs.lemmas.Int.{ints, clamps}
use Rattle.run_index.proofs.laws.shared_cells.Goals as goal

pub returns-clause-every : goal.returns-clause-every
returns-clause-every c = λ a b t in_a in_b.
    let a_low = in_a.0 in let a_high = in_a.1 in let b_low = in_b.0 in let b_high = in_b.1 in sym (omega (arith, ints, clamps))

pub returns-clause-some : goal.returns-clause-some
returns-clause-some c = λ a b shared.
    (int_max a.from b.from, (omega (arith, ints, clamps), omega (arith, ints, clamps)), (omega (arith, ints, clamps), omega (arith, ints, clamps)))
