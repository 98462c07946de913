use Rattle.std.proofs.Common.{◌↔◌, ℕ, List, Contains, IsTrue, subst}
use Rattle.node_names.specs.Folding.{folded}
use Rattle.node_names.specs.inside.Keys.{name_in}
use Rattle.node_names.proofs.KeyLemmas.{answers}
use Rattle.node_names.proofs.names.NodeNames.contains.Goals as goal

pub returns : goal.returns
returns c =
    let P : List (List ℕ) → Type 0 = λ names. IsTrue c.contains.result ↔ Contains names (folded c.args.name.now) in
    subst P c.self.view_is (answers name_in (folded c.args.name.now) c.self.inside.keys.keys c.contains.result c.contains.ensures)
