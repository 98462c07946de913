-- The names in tables, and what is asked of places.
use Rattle.def_wiring.specs.declared.record.ViaPlace.{ViaPlace}
use Rattle.def_wiring.specs.Limits.{IsNear}
use Rattle.wire_names.specs.declared.tables.Tables.{Tables}
use Rattle.wire_names.specs.Names.{Names}

abbrev pub names_in : Tables → Names
names_in tables = record { layers = tables.layers; cuts = tables.cuts; rules = tables.rules; vias = tables.vias }

-- Both of its numbers are near.
abbrev pub LiesNear : ViaPlace → Type 0
LiesNear place = IsNear place.x × IsNear place.y
