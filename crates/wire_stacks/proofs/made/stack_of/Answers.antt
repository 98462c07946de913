use Rattle.std.proofs.Common.{pos, false, get_or, refl, sym, ◌∙◌, subst, SFits, w64, arith}
use Rattle.std.proofs.lemmas.Int.{ints, to_z-of_z}
use Rattle.wire_chains.specs.declared.via.ViaAt.{ViaAt}
use Rattle.wire_stacks.specs.Crossing.{IsCrossing}
use Rattle.wire_stacks.specs.inside.Made.{HaveResistances}
use Rattle.wire_stacks.proofs.Stack.{stack_is}
use Rattle.wire_stacks.proofs.made.stack_of.Goals as goal

pub returns-clause-stack : goal.returns-clause-stack
returns-clause-stack c =
    let d : ViaAt = record { net = 0; x = pos 0; y = pos 0; layer = 0; held = false; via = 0; number = 0 } in
    let tech = c.args.tech.now in
    let vias = c.args.vias.now in
    let chain = c.args.chain.now in
    let first = get_or chain 0 d in
    let near = c.requires.chain.near 0 d c.requires.chain.some in
    let near_x = near.0 in
    let near_y = near.1 in
    let x : SFits w64 first.x = omega (arith, ints) in
    let y : SFits w64 first.y = omega (arith, ints) in
    let crossing : IsCrossing vias chain first.x first.y c.crossing_of-crossing.result = simp to_z-of_z at c.crossing_of-crossing.ensures.crossing in
    simp to_z-of_z
    (stack_is tech vias chain d (record {
      net = first.net;
      x = first.x;
      y = first.y;
      crossing = c.crossing_of-crossing.result;
      stack = record { from = first.layer; to = c.in_ok-to.to; arrays = c.new.result; ohms = c.new-2.result };
    }) c.requires.chain.some refl refl refl refl c.in_ok-to.ensures (c.new.ensures ∙ c.in_ok-arrays.ensures)
    (subst (HaveResistances tech vias chain) (sym c.new-2.ensures) c.in_ok-ohms.ensures) crossing)
