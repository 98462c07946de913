-- A design keeps its limits with no component in a place.
use Rattle.std.proofs.Common.{sym, subst}
use Rattle.std.proofs.lemmas.List.Elements.{All-map}
use Rattle.std.proofs.lemmas.Simd.{map-map}
use Rattle.name_table.specs.Numbering.{AreDistinct}
use Rattle.def_design.specs.declared.record.Component.{Component}
use Rattle.def_design.specs.declared.record.Design.{Design}
use Rattle.def_design.specs.Limits.{DesignKeeps, ComponentKeeps}
use Rattle.macro_grid.specs.Drawing.{unplaced, without_places}

pub bare_keeps : (design : Design) → DesignKeeps design → DesignKeeps (without_places design)
bare_keeps design keeps = record {
  some_units = keeps.some_units;
  units = keeps.units;
  die = keeps.die;
  rows = keeps.rows;
  components = All-map ComponentKeeps unplaced design.components (λ k d within. tt);
  component_names = subst AreDistinct (sym (map-map (λ (c : Component). c.name) unplaced design.components)) keeps.component_names;
  blockages = keeps.blockages;
  regions = keeps.regions;
  region_names = keeps.region_names;
}
