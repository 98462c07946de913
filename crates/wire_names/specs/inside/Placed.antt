-- Wiring with the places that tables give.
use Rattle.std.specs.Prelude.{◌≡◌, length, map, All}
use Rattle.std.specs.List.{flat_map}
use Rattle.def_wiring.specs.declared.record.Wires.{Wires}
use Rattle.wire_names.specs.declared.pair.Pair.{Pair}
use Rattle.wire_names.specs.declared.record.NamedWires.{NamedWires}
use Rattle.wire_names.specs.declared.tables.Tables.{Tables}
use Rattle.wire_names.specs.Keeping.{ViaStands, ShapeStands, SpotStands}
use Rattle.wire_names.specs.Wiring.{via_of, shapes_of, spots_of}
use Rattle.wire_names.specs.inside.Tables.{names_in}

pub record ArePlaced (tables : Tables) (wires : Wires) (pair : Pair) (named : NamedWires) : Type 0 where
  pub power : named.power ≡ pair.power
  pub ground : named.ground ≡ pair.ground
  pub order : named.power_first ≡ pair.power_first
  pub vias : named.vias ≡ map (via_of (names_in tables)) wires.vias
  pub shapes : named.shapes ≡ flat_map (shapes_of (names_in tables) pair.power_first) wires.nets
  pub spots : named.spots ≡ flat_map (spots_of (names_in tables) pair.power_first) wires.nets

pub record KeepPlaces (tables : Tables) (named : NamedWires) : Type 0 where
  pub vias : All (ViaStands (length tables.layers) (length tables.cuts) (length tables.rules)) named.vias
  pub shapes : All (ShapeStands (length tables.layers)) named.shapes
  pub spots : All (SpotStands (length tables.vias)) named.spots
