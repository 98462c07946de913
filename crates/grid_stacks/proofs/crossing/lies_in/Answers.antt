use Rattle.std.proofs.Common.{SFits, w64, rules}
use Rattle.std.proofs.lemmas.Int.{to_z-of_z}
use Rattle.grid_stacks.proofs.crossing.lies_in.Goals as goal

pub returns : goal.returns
returns c =
    let a : SFits w64 c.args.upright.low = search rules in
    let b : SFits w64 c.args.upright.high = search rules in
    let d : SFits w64 c.args.run.from = search rules in
    let e : SFits w64 c.args.run.to = search rules in
    simp to_z-of_z at c.nested.ensures
