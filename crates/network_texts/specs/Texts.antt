-- What is asked of a grid and of a certificate whose network is written as a netlist.
use Rattle.std.specs.Prelude.{◌≡◌, ℕ, ℤ, List, All, length}
use Rattle.text_lex.specs.Name.{IsName}
use Rattle.lef_tech.specs.declared.layer.RoutingLayer.{RoutingLayer}
use Rattle.lef_tech.specs.declared.tech.Tech.{Tech}
use Rattle.grid_pieces.specs.declared.grid.Grid.{Grid}
use Rattle.grid_net.specs.declared.note.Note.{Note}
use Rattle.grid_net.specs.Certificate.{IsCertificate}
use Rattle.grid_net.specs.Network.{Network}
use Rattle.written_netlists.specs.Fits.{CanBeWritten}

-- The names that are noted are names of LEF and DEF: those of the routing layers and of the nets of the grid.
pub record AreNames (tech : Tech) (grid : Grid) : Type 0 where
  pub layers : All (λ (l : RoutingLayer). IsName l.name) tech.routing
  pub nets : All IsName grid.nets

-- The network reads back once it is written, and the two lists, one entry for each node, are a certificate of it.
pub record CanBeChecked (net : Network) (names : List (List ℕ)) (notes : List Note) (high low : List ℤ) : Type 0 where
  pub written : CanBeWritten net names notes
  pub high_size : length high ≡ net.nodes
  pub low_size : length low ≡ net.nodes
  pub certificate : IsCertificate net high low
