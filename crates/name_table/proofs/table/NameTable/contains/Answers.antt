use Rattle.std.proofs.Common.{◌↔◌, ℕ, List, Contains, IsTrue, subst}
use Rattle.name_table.proofs.NumberingLemmas.{tells}
use Rattle.name_table.proofs.table.NameTable.contains.Goals as goal

pub returns : goal.returns
returns c =
    let P : List (List ℕ) → Type 0 = λ names. IsTrue c.contains.result ↔ Contains names c.args.name.now in
    subst P c.self.view_is (tells c.args.name.now c.self.inside.names.keys c.contains.result c.contains.ensures)
