use Rattle.std.proofs.Common.{◌↔◌, List, Contains, IsTrue, subst}
use Rattle.wave_file.specs.declared.spots.Spot.{Spot}
use Rattle.wave_file.proofs.Apart.{tells}
use Rattle.wave_file.proofs.spots.Spots.contains.Goals as goal

pub returns : goal.returns
returns c =
    let P : List Spot → Type 0 = λ spots. IsTrue c.contains.result ↔ Contains spots c.args.spot in
    subst P c.self.view_is (tells c.args.spot c.self.inside.spots.keys c.contains.result c.contains.ensures)
