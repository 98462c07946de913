use Rattle.std.proofs.Common.{◌≢◌, List, ℕ, AllPairs, subst}
use Rattle.name_table.proofs.NumberingLemmas.{distinct_names}
use Rattle.name_table.proofs.table.NameTable.len.Goals as goal

pub returns-clause-distinct : goal.returns-clause-distinct
returns-clause-distinct c =
    let P : List (List ℕ) → Type 0 = λ names. AllPairs (λ a b. a ≢ b) names in
    subst P c.self.view_is (distinct_names c.self.inside.names.keys c.len.ensures.unique)
