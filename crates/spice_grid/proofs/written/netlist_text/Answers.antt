use Rattle.std.proofs.Common.{◌≡◌, ◌<◌, ℕ, List, length, All, sym, subst}
use Rattle.std.proofs.lemmas.List.Elements.{All-weaker}
use Rattle.grid_net.specs.declared.part.Resistor.{Resistor}
use Rattle.grid_net.specs.declared.part.Pad.{Pad}
use Rattle.grid_net.specs.Network.{IsResistorOf}
use Rattle.spice_grid.proofs.written.netlist_text.Goals as goal

pub append_resistors-requires : goal.append_resistors-requires
append_resistors-requires c =
    let count : length c.args.names.now ≡ c.args.net.now.nodes = c.requires in
    let net = c.nodes-nodes.ensures.built in
    let P : ℕ → List Resistor → Type 0 = λ n l. All (λ r. (r.a < n) × (r.b < n)) l in
    let all = All-weaker (IsResistorOf c.args.net.now.nodes) (λ r. (r.a < c.args.net.now.nodes) × (r.b < c.args.net.now.nodes)) (λ r h. (h.a_is_node, h.b_is_node)) c.args.net.now.resistors net.is_network.each_resistor in
    record { ends = subst (λ n. P n c.resistors.result.now) (sym count) (subst (P c.args.net.now.nodes) (sym c.resistors.ensures) all) }

pub append_pads-requires : goal.append_pads-requires
append_pads-requires c =
    let count : length c.args.names.now ≡ c.args.net.now.nodes = c.requires in
    let P : ℕ → List Pad → Type 0 = λ n l. All (λ p. p.node < n) l in
    subst (λ n. P n c.pads.result.now) (sym count) (subst (P c.args.net.now.nodes) (sym c.pads.ensures) c.nodes-nodes.ensures.built.pads_are_nodes)
