use Rattle.std.proofs.Common.{SFits, w64, rules}
use Rattle.std.proofs.lemmas.Int.{to_z-of_z}
use Rattle.grid_stacks.proofs.crossing.passes.Goals as goal

pub returns-then-share_net : goal.returns-then-share_net
returns-then-share_net c =
    let a : SFits w64 c.args.flat.low = search rules in
    let b : SFits w64 c.args.flat.high = search rules in
    let d : SFits w64 c.args.upright.from = search rules in
    let e : SFits w64 c.args.upright.to = search rules in
    let over = simp to_z-of_z at c.nested.ensures in
    let net = c.share_net.ensures.0 c.if-share_net.true in
    (λ t. record { net = net.0; layers = net.1; begins = (over.0 t).0; ends = (over.0 t).1 }, λ p. over.1 (p.begins, p.ends))
