use Rattle.std.proofs.Common.{◌≢◌, List, AllPairs, subst}
use Rattle.wave_file.specs.declared.spots.Spot.{Spot}
use Rattle.wave_file.proofs.Apart.{apart}
use Rattle.wave_file.proofs.spots.Spots.count.Goals as goal

pub returns : goal.returns
returns c =
    let P : List Spot → Type 0 = λ spots. AllPairs (λ a b. a ≢ b) spots in
    subst P c.self.view_is (apart c.self.inside.spots.keys c.len.ensures.unique)
