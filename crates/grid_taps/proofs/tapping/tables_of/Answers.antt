use Rattle.std.proofs.Common.{◌≡◌, List, ℕ, map, sym, ap, ◌∙◌, subst}
use Rattle.name_table.specs.Numbering.{AreDistinct}
use Rattle.lef_cells.specs.declared.record.MacroCell.{MacroCell}
use Rattle.bias_file.specs.declared.record.Amps.{Amps}
use Rattle.grid_pieces.specs.declared.grid.DomainAt.{DomainAt}
use Rattle.grid_taps.proofs.tapping.tables_of.Goals as goal

-- the table of names that differ has these names
named : {X : Type 0} (name_of : X → List ℕ) (xs xs' : List X) (table : List (List ℕ)) → xs' ≡ xs → AreDistinct (map name_of xs)
    → (AreDistinct (map name_of xs') → table ≡ map name_of xs') → table ≡ map name_of xs
named {X} name_of xs xs' table same distinct places =
    places (subst (λ (z : List X). AreDistinct (map name_of z)) (sym same) distinct) ∙ ap (λ (z : List X). map name_of z) same

pub returns : goal.returns
returns c = record {
  rails = c.in_ok-rails.ensures;
  regions = c.in_ok-regions.ensures ∙ ap (λ (ds : List DomainAt). map (λ (d : DomainAt). d.region) ds) c.as_slice.ensures;
  macros = named (λ (z : MacroCell). z.name) c.args.cells.now.macros c.as_slice-2.result.now c.in_ok-macros.macros c.as_slice-2.ensures c.requires.cells.macro_names c.in_ok-macros.ensures.places;
  instance_lines = named (λ (z : Amps). z.name) c.args.bias.now.instances c.as_slice-3.result.now c.in_ok-instances.instances c.as_slice-3.ensures c.requires.bias.components c.in_ok-instances.ensures.places;
  cell_lines = named (λ (z : Amps). z.name) c.args.bias.now.cells c.as_slice-4.result.now c.in_ok-cells.cells c.as_slice-4.ensures c.requires.bias.macros c.in_ok-cells.ensures.places;
}
