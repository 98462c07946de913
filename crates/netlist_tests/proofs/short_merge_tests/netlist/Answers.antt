use Rattle.std.proofs.Common.{◌≡◌, ℕ, sym, ap, subst, ◌∙◌, length}
use Rattle.grid_net.specs.Network.{Network}
use Rattle.group_net.specs.Merging.{AreNodes}
use Rattle.spice_grid.specs.Caps.{EndAmong}
use Rattle.netlist_tests.proofs.short_merge_tests.netlist.Goals as goal

pub returns-in-Ok : goal.returns-in-Ok
returns-in-Ok c =
    let nodes : c.in-Ok.net.nodes ≡ length c.args.given.now = ap (λ (net : Network). net.nodes) c.in-Ok.ensures.built in
    record {
      one_name_a_node = ap length c.new.ensures ∙ c.in_ok-names.ensures ∙ sym nodes;
      shorts_are_nodes = subst (λ (n : ℕ). AreNodes n c.new-in-Ok.result) (sym nodes)
          (subst (AreNodes (length c.args.given.now)) (sym c.new-in-Ok.ensures) c.requires.shorts);
      ends_among_nodes = subst (λ (n : ℕ). EndAmong n c.new-in-Ok-2.result) (sym nodes)
          (subst (EndAmong (length c.args.given.now)) (sym c.new-in-Ok-2.ensures) c.requires.ends);
    }
