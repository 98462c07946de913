use Rattle.std.proofs.Common.{◌∙◌, ◌<◌, ap, sym, subst, ℕ, take}
use Rattle.grid_net.specs.Network.{Network}
use Rattle.grid_net.specs.Level.{IsSupplied}
use Rattle.step_bounds.proofs.Resistors.{all_supplied}
use Rattle.step_bounds.proofs.Halves.{high_kept, low_kept}
use Rattle.step_bounds.proofs.step.bounds_of.Goals as goal

abbrev EachSupplied : Network → Type 0
EachSupplied n = (i : ℕ) → i < n.nodes → IsSupplied n i

pub certify_halves-requires-clause-high_supplied : goal.certify_halves-requires-clause-high_supplied
certify_halves-requires-clause-high_supplied g c =
    subst EachSupplied (sym c.in_ok-high_net.ensures.network)
    (all_supplied c.args.net.now c.nodes-nodes.ensures.built c.args.extension.now.companions.items c.requires.extension.fit c.args.loads.now
    c.requires.loads c.args.over_high.now c.built_network.ensures.kept_pads c.requires.supplied)

pub certify_halves-requires-clause-low_supplied : goal.certify_halves-requires-clause-low_supplied
certify_halves-requires-clause-low_supplied g c =
    subst EachSupplied (sym c.in_ok-low_net.ensures.network)
    (all_supplied c.args.net.now c.nodes-nodes.ensures.built c.args.extension.now.companions.items c.requires.extension.fit c.args.loads.now
    c.requires.loads c.args.over_low.now c.built_network.ensures.kept_pads c.requires.supplied)

pub returns-clause-high_bound : goal.returns-clause-high_bound
returns-clause-high_bound g c =
    let list = c.in_ok-high.high.items in
    high_kept c.built_network.ensures.kept_pads c.args.net.now c.nodes-nodes.ensures.built c.args.extension.now.companions.items
    c.requires.extension.fit c.args.loads.now c.requires.loads c.args.over_high.now c.in_ok-high_net.high_net c.in_ok-high_net.ensures.network
    list c.truncate.new.self.items c.in_ok-high.ensures.high_size c.in_ok-high.ensures.high
    (c.truncate.ensures.items ∙ ap (λ (n : ℕ). take n list) c.nodes-nodes.ensures.nodes)

pub returns-clause-low_bound : goal.returns-clause-low_bound
returns-clause-low_bound g c =
    let list = c.in_ok-high.low.items in
    let nodes = ap (λ (n : Network). n.nodes) c.in_ok-high_net.ensures.network ∙ sym (ap (λ (n : Network). n.nodes) c.in_ok-low_net.ensures.network) in
    low_kept c.built_network.ensures.kept_pads c.args.net.now c.nodes-nodes.ensures.built c.args.extension.now.companions.items
    c.requires.extension.fit c.args.loads.now c.requires.loads c.args.over_low.now c.in_ok-low_net.low_net c.in_ok-low_net.ensures.network
    list c.truncate-2.new.self.items (c.in_ok-high.ensures.low_size ∙ nodes) c.in_ok-high.ensures.low
    (c.truncate-2.ensures.items ∙ ap (λ (n : ℕ). take n list) c.nodes-nodes.ensures.nodes)
