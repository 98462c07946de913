-- The layer lines of a netlist: which number in the nodes' names stands for which layer of which net.
use Rattle.std.specs.Prelude.{◌≡◌, ◌<◌, List, AllPairs, Some, length, slice_get}
use Rattle.std.specs.Option.{option_map}
use Rattle.lef_tech.specs.declared.tech.Tech.{Tech}
use Rattle.grid_network.specs.declared.key.Key.{Key}
use Rattle.grid_net.specs.declared.note.Note.{Note}
use Rattle.grid_network.specs.Listing.{ListsAll}
use Rattle.grid_network.specs.Drawing.{Drawing}
use Rattle.grid_network.specs.Nodes.{IsNode, layer_number}

-- the line of a layer of a net that has a node
pub record IsNoteOf (d : Drawing) (tech : Tech) (key : Key) (n : Note) : Type 0 where
  pub has_node : IsNode d key
  pub layer : option_map (λ l. l.name) (slice_get tech.routing key.layer) ≡ Some n.layer
  pub net : slice_get d.grid.nets key.net ≡ Some n.net
  pub number : n.number ≡ layer_number (length tech.routing) key.net key.layer

-- one line for each layer of each net that has a node, in the order of their numbers
pub record AreNotes (d : Drawing) (tech : Tech) (notes : List Note) : Type 0 where
  pub all : ListsAll (λ n. (key : Key) × IsNoteOf d tech key n) notes
  pub in_order : AllPairs (λ m n. m.number < n.number) notes
