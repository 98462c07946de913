use Rattle.std.proofs.Common.{ap, sym, ◌∙◌}
use Rattle.grid_network.proofs.Listed.{nodes_listed}
use Rattle.grid_network.proofs.place.places.Goals as goal

pub returns-clause-nodes : goal.returns-clause-nodes
returns-clause-nodes c d grid lists =
    nodes_listed d c.args.junctions.now c.as_slice.result.now c.as_slice-2.result.now c.new-keys.result.items _ _ c.put_in_order.new.items.items lists
    (c.as_slice.ensures ∙ ap (λ g. g.pieces) (sym grid)) (c.as_slice-2.ensures ∙ ap (λ g. g.stacks) (sym grid)) c.new-keys.ensures.items
    c.in_ok-add_junctions.ensures c.in_ok-add_stacks.ensures c.put_in_order.ensures.same
