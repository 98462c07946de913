use Rattle.std.proofs.Common.{◌≡◌, List, get_or, pos, ap, ◌∙◌, sym, subst}
use Rattle.grid_net.specs.declared.part.Resistor.{Resistor}
use Rattle.grid_net.specs.Network.{Network, IsResistorOf}
use Rattle.grid_net.specs.Limits.{IsBuilt}
use Rattle.signoff_report.proofs.judging.resistor_at.Goals as goal

pub returns : goal.returns
returns c =
    let none : Resistor = record { a = 0; b = 0; ohms = pos 0 } in
    let net : Network = c.args.certified.now.net in
    let rs = c.resistors.ensures ∙ ap (λ (n : Network). n.resistors) c.net-net.ensures in
    let is = ap (λ (l : List Resistor). get_or l c.args.branch none) rs in
    let built : IsBuilt net = subst (λ (n : Network). IsBuilt n) c.net-net.ensures c.nodes-nodes.ensures.built in
    record { is = is; ends = subst (λ (r : Resistor). IsResistorOf net.nodes r) (sym is) (built.is_network.each_resistor c.args.branch none c.requires) }
