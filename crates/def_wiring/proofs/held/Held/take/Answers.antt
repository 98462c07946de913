use Rattle.std.proofs.Common.{map}
use Rattle.def_wiring.proofs.Taking.{took, taken}
use Rattle.reading.specs.Word.{heard_token}
use Rattle.def_wiring.proofs.held.Held.take.Goals as goal

pub returns : goal.returns
returns c =
    let unit = map heard_token c.args.unit.now in
    let old = c.args.self.now in
    took c.go_on.result _ _ (λ goes heard units h.
    taken units unit old (record old { said = c.take.new.self; standing = c.go_on.new.self }) h (goes heard) (c.in_ok-take.ensures heard)) c.go_on.ensures
