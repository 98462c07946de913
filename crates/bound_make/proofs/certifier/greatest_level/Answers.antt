use Rattle.std.proofs.Common.{◌≡◌, inl, inr, arith}
use Rattle.bound_make.proofs.Levels.{each_next, met_next}
use Rattle.bound_make.proofs.certifier.greatest_level.Goals as goal

pub loop-node-preserved : goal.loop-node-preserved
loop-node-preserved c =
    let net = c.args.net.now in
    let inv = c.loop-node.invariant in
    let level = c.level_at-level.ensures in
    record {
      each = each_next net c.loop-node.node c.loop-node.greatest c.level_at-level.result c.max-greatest.result level c.max-greatest.ensures inv.each;
      met = met_next net c.loop-node.node c.loop-node.greatest c.level_at-level.result c.max-greatest.result level c.max-greatest.ensures inv.met;
    }

pub returns : goal.returns
returns c =
    let inv = c.loop-node.invariant in
    let all : c.loop-node.node ≡ c.args.net.now.nodes = omega (arith, c.loop-node-test.false, c.loop-node.auto.node-end, c.nodes-node-end.ensures.nodes) in
    record {
      each = λ i l. inv.each i (omega (arith, all, l));
      met = elim inv.met [
        | inl none ↦ inl (omega (arith, all, none.0), none.1)
        | inr some ↦ inr (some.0, omega (arith, all, some.1), some.2)
      ];
    }
