-- A grid over one voltage domain (OpenROAD PDN manual, set_voltage_domain).
use Rattle.std.specs.Prelude.{◌≡◌, length}
use Rattle.grid_pieces.specs.declared.grid.Grid.{Grid}

-- The grid has one domain, with a region or without one.
abbrev pub HasOneDomain : Grid → Type 0
HasOneDomain grid = length grid.domains ≡ 1
