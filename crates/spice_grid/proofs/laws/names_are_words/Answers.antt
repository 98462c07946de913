use Rattle.std.proofs.Common.{◌≡◌, ℕ, zero, suc, ◌<◌, List, [], ◌∷◌, length, refl, arith}
use Rattle.std.specs.Prelude.{slice_index_or}
use Rattle.spice_grid.proofs.laws.names_are_words.Goals as goal

no_default : (names : List (List ℕ)) (k : ℕ) (d e : List ℕ) → k < length names → slice_index_or names k d ≡ slice_index_or names k e
no_default [] k d e lt = absurd (let t : k < 0 = lt in omega arith)
no_default (x ∷ names) zero d e lt = refl
no_default (x ∷ names) (suc k) d e lt = no_default names k d e (omega arith)

pub returns : goal.returns
returns c = λ text named h k d lt.
    let name : List ℕ = slice_index_or named.names k d in
    c.node_names_are_words.ensures text h.0 h.1 name ((h.2.order.nodes name).0 (k, lt, no_default named.names k name d lt))
