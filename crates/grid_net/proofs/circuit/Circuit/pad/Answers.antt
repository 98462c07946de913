use Rattle.std.proofs.Common.{◌∙◌, ap, arith, length, None}
use Rattle.std.proofs.lemmas.List.FromFn.{length-map-range_with_len}
use Rattle.grid_net.specs.Network.{Network, pad_at}
use Rattle.grid_net.specs.inside.Circuit.{network_in}
use Rattle.std.proofs.lemmas.List.{get_or_default}
use Rattle.grid_net.proofs.Tables.{map_tells}
use Rattle.grid_net.proofs.circuit.Circuit.pad.Goals as goal

pub index-requires : goal.index-requires
index-requires c =
    let nodes = ap (λ (n : Network). n.nodes) c.self.view_is in
    let size = ap length c.self.invariant.voltages ∙ length-map-range_with_len (pad_at (network_in c.self.inside)) 0 c.self.inside.nodes in
    omega (arith, nodes, size, c.self.inside.voltages.ok)

pub returns : goal.returns
returns c =
    let nodes = ap (λ (n : Network). n.nodes) c.self.view_is in
    let size = ap length c.self.invariant.voltages ∙ length-map-range_with_len (pad_at (network_in c.self.inside)) 0 c.self.inside.nodes in
    c.index.ensures
    ∙ get_or_default c.self.inside.voltages.items c.args.node c.index.result.now None (omega (arith, nodes, size))
    ∙ map_tells (pad_at (network_in c.self.inside)) c.self.inside.nodes c.args.node c.self.inside.voltages.items None c.self.invariant.voltages (omega (arith, nodes))
    ∙ ap (λ n. pad_at n c.args.node) c.self.view_is
