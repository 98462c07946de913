-- Which networks, with names of their nodes and notes of their layers, read back once they are written as netlists.
use Rattle.std.specs.Prelude.{◌≡◌, ◌≢◌, ◌⊎◌, ℕ, ◌<◌, true, List, [], length, All, Any}
use Rattle.text_lex.specs.Bytes.{line_feed, count_of}
use Rattle.text_lex.specs.Piece.{IsBare}
use Rattle.text_lex.specs.declared.word.Mode.TheVariants.{Lines}
use Rattle.name_table.specs.ByteOrder.{IsInByteOrder}
use Rattle.node_names.specs.Folding.{folded}
use Rattle.grid_net.specs.declared.note.Note.{Note}
use Rattle.grid_net.specs.declared.part.Resistor.{Resistor}
use Rattle.grid_net.specs.declared.part.Pad.{Pad}
use Rattle.grid_net.specs.Limits.{IsBuilt}
use Rattle.grid_net.specs.Network.{Network, load_range, stands_at}
use Rattle.spice_grid.specs.declared.named.Named.{Named}
use Rattle.spice_grid.specs.Named.{ground}
use Rattle.spice_grid.specs.Written.{draws}

-- A name of a node that reads back: one word of a line, without capitals, and not that of ground.
pub record IsNodeName (name : List ℕ) : Type 0 where
  pub word : IsBare Lines true name []
  pub no_capitals : folded name ≡ name
  pub not_ground : name ≢ ground

-- A note stays on its line: no line feed stands in the names of its layer and net.
pub record IsOnOneLine (note : Note) : Type 0 where
  pub layer : count_of line_feed note.layer ≡ 0
  pub net : count_of line_feed note.net ≡ 0

-- The node has a card: an end of a resistor, a pad, or a load that draws anything.
abbrev pub HasCard : Network → ℕ → Type 0
HasCard net node =
    Any (λ (r : Resistor). stands_at node r ≡ true) net.resistors ⊎ Any (λ (p : Pad). p.node ≡ node) net.pads
    ⊎ (draws (load_range net node) ≡ true)

-- What reads back: a network that keeps the limits of networks, each of whose nodes has a card and a name; the names in
-- byte order; and notes of one line each.
pub record CanBeWritten (net : Network) (names : List (List ℕ)) (notes : List Note) : Type 0 where
  pub built : IsBuilt net
  pub one_name_a_node : length names ≡ net.nodes
  pub node_names : All IsNodeName names
  pub in_byte_order : IsInByteOrder names
  pub each_has_a_card : (node : ℕ) → node < net.nodes → HasCard net node
  pub notes_are_lines : All IsOnOneLine notes

-- What is read: the network, with the names of its nodes, no short and no capacitor.
abbrev pub read_back : Network → List (List ℕ) → Named
read_back net names = record { net = net; names = names; shorts = []; caps = [] }
