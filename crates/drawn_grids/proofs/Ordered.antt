-- The grid of a drawing keeps what is asked of it.
use Rattle.std.proofs.Common.{◌≡◌, ℕ, ◌≤◌, All, List, length, sym, subst, ap, ◌∙◌}
use Rattle.std.specs.List.{list_any}
use Rattle.std.specs.Str.{bytes_eq}
use Rattle.std.proofs.lemmas.List.{length-map}
use Rattle.name_table.specs.Numbering.{AreDistinct}
use Rattle.lef_tech.specs.declared.tech.Tech.{Tech}
use Rattle.lef_tech.specs.Limits.{TechKeeps}
use Rattle.lef_cells.specs.declared.record.Cells.{Cells}
use Rattle.def_design.specs.declared.record.Design.{Design}
use Rattle.def_design.specs.Limits.{DesignKeeps}
use Rattle.pdn_script.specs.declared.record.Domain.{Domain}
use Rattle.pdn_script.specs.declared.record.Script.{Script}
use Rattle.via_arrays.specs.Lengths.{IsUnits}
use Rattle.grid_pieces.specs.declared.grid.Grid.{Grid}
use Rattle.grid_shapes.specs.Drawing.{IsDrawingOf, PieceStands, StackStands}
use Rattle.grid_extract.specs.Extraction.{GridKeeps}
use Rattle.def_writer.specs.Limits.{GridFits}
use Rattle.drawn_grids.specs.Laws.Grids.{distinct_names, units_stand, grid_keeps, grid_fits}

units_are : (tech : Tech) (cells : Cells) (design : Design) (script : Script) (grid : Grid) → DesignKeeps design → (drawing : IsDrawingOf tech cells design script grid)
    → IsUnits drawing.plan.units
units_are tech cells design script grid keeps drawing = units_stand design drawing.plan.units keeps drawing.is_plan.plans.units

pub drawing_keeps : (tech : Tech) (cells : Cells) (design : Design) (script : Script) (grid : Grid) → DesignKeeps design → IsDrawingOf tech cells design script grid
    → All (PieceStands tech grid) grid.pieces → All (StackStands tech grid) grid.stacks → length grid.pieces ≤ 4000000 → length grid.stacks ≤ 1000000
    → GridKeeps grid tech
drawing_keeps tech cells design script grid keeps drawing pieces stacks few_pieces few_stacks =
    grid_keeps tech grid (subst IsUnits (sym drawing.units) (units_are tech cells design script grid keeps drawing))
    (subst AreDistinct (sym drawing.nets) (distinct_names drawing.plan.nets drawing.is_plan.plans.nets.in_order)) pieces stacks few_pieces few_stacks

pub drawing_fits : (tech : Tech) (cells : Cells) (design : Design) (script : Script) (grid : Grid) → TechKeeps tech → DesignKeeps design
    → IsDrawingOf tech cells design script grid → All (PieceStands tech grid) grid.pieces → All (StackStands tech grid) grid.stacks → GridFits tech grid
drawing_fits tech cells design script grid keeps design_keeps drawing pieces stacks =
    grid_fits tech grid grid drawing.plan.connects drawing.plan.blocks drawing.plan.units keeps (units_are tech cells design script grid design_keeps drawing) pieces stacks
    drawing.stacks power (λ k d within. (pieces k d within).layer) drawing.pieces.in_order
  where
    power : length grid.power ≡ length grid.nets
    power = ap length drawing.power ∙ ap length drawing.is_plan.plans.power
        ∙ length-map drawing.plan.nets (λ (net : List ℕ). list_any (λ (domain : Domain). bytes_eq domain.power net) script.domains) ∙ sym (ap length drawing.nets)
