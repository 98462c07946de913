-- The names that the tables have.
use Rattle.grid_plan.specs.declared.tables.Tables.{Tables}
use Rattle.grid_plan.specs.Names.{Names}

abbrev pub names_in : Tables → Names
names_in tables = record {
  layers = tables.layers;
  cuts = tables.cuts;
  sites = tables.sites;
  macros = tables.macros;
  regions = tables.regions;
  domains = tables.domains;
  grids = tables.grids;
}
