-- What is merged: the network of a netlist.
use Rattle.std.specs.Prelude.{◌≡◌, length}
use Rattle.spice_grid.specs.declared.named.Named.{Named}
use Rattle.spice_grid.specs.Caps.{EndAmong}
use Rattle.group_net.specs.Merging.{AreNodes}

-- Each node has one name, the ends of each short are nodes, and so are those of each capacitor, where they are not ground
-- or nowhere.
pub record IsNetlist (named : Named) : Type 0 where
  pub one_name_a_node : length named.names ≡ named.net.nodes
  pub shorts_are_nodes : AreNodes named.net.nodes named.shorts
  pub ends_among_nodes : EndAmong named.net.nodes named.caps
