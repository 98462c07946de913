-- What the grid of a drawing over blocks keeps, and what is kept without the pins of blocks.
use Rattle.std.proofs.Common.{◌≡◌, ℕ, ◌≤◌, List, ◌++◌, length, get_or, All, sym, subst, ap, ◌∙◌}
use Rattle.std.specs.List.{list_any}
use Rattle.std.specs.List.Sorted.{IsPermutation}
use Rattle.std.specs.Str.{bytes_eq}
use Rattle.std.proofs.lemmas.List.{length-map}
use Rattle.std.proofs.lemmas.List.Elements.{All-contains, Contains-get_or, Contains-append_left}
use Rattle.std.proofs.lemmas.List.Sorted.{All-permutation, IsPermutation-sym}
use Rattle.lef_tech.specs.declared.tech.Tech.{Tech}
use Rattle.lef_tech.specs.Limits.{TechKeeps}
use Rattle.lef_cells.specs.declared.record.Cells.{Cells}
use Rattle.def_design.specs.declared.record.Design.{Design}
use Rattle.def_design.specs.Limits.{DesignKeeps}
use Rattle.pdn_script.specs.declared.record.Domain.{Domain}
use Rattle.pdn_script.specs.declared.record.Script.{Script}
use Rattle.grid_pieces.specs.declared.piece.Piece.{Piece}
use Rattle.grid_pieces.specs.declared.piece.StackAt.{StackAt}
use Rattle.grid_stacks.specs.Stacking.{HasLayer}
use Rattle.grid_plan.specs.Names.{AreNets}
use Rattle.grid_shapes.specs.Drawing.{PieceStands, StackStands}
use Rattle.macro_blocks.specs.declared.record.Blocks.{Blocks}
use Rattle.macro_grid.specs.declared.record.MacroGrid.{MacroGrid}
use Rattle.macro_grid.specs.Drawing.{all_blocks, AreMacroStacks, IsMacroDrawing}
use Rattle.macro_extract.specs.Extraction.{DrawnKeeps}
use Rattle.def_writer.specs.Limits.{GridFits}
use Rattle.drawn_grids.specs.Laws.Grids.{distinct_names, units_stand, grid_keeps, grid_fits}

-- What holds of all pieces of two lists, in any order, holds of those of the first.
of_first : (P : Piece → Type 0) (first second all : List Piece) → IsPermutation (first ++ second) all → All P all → All P first
of_first P first second all same each k d within =
    All-contains P (first ++ second) (get_or first k d) (All-permutation P all (first ++ second) (IsPermutation-sym (first ++ second) all same) each)
    (Contains-append_left first second (get_or first k d) (Contains-get_or first k d within))

module _ (tech : Tech) (cells : Cells) (blocks : Blocks) (design : Design) (script : Script) (drawn : MacroGrid)
    (drawing : IsMacroDrawing tech cells blocks design script drawn) where
  pub nets_are : AreNets script drawn.grid.nets
  nets_are = subst (AreNets script) (sym drawing.grid_is.nets) drawing.lays.is_plan.plans.nets

  pub whole_keeps : DesignKeeps design → All (PieceStands tech drawn.grid) drawn.grid.pieces → All (StackStands tech drawn.grid) drawn.grid.stacks
      → length drawn.grid.pieces ≤ 4000000 → length drawn.grid.stacks ≤ 1000000 → DrawnKeeps drawn tech
  whole_keeps keeps pieces stacks few_pieces few_stacks = record {
    grid = grid_keeps tech drawn.grid
        (units_stand design drawn.grid.units keeps (drawing.grid_is.units ∙ drawing.lays.is_plan.plans.units))
        (distinct_names drawn.grid.nets nets_are.in_order) pieces stacks few_pieces few_stacks;
    pins = λ k d within. (drawing.pins.each k d within).is_piece.0;
  }

  pub written_fits : TechKeeps tech → DesignKeeps design → All (PieceStands tech drawn.grid) drawn.grid.pieces
      → All (StackStands tech drawn.grid) drawn.grid.stacks → GridFits tech drawn.written
  written_fits tech_keeps keeps pieces stacks =
      grid_fits tech drawn.grid drawn.written drawing.plan.connects (all_blocks tech drawing.plan drawing.placed) drawing.plan.units tech_keeps
      (units_stand design drawing.plan.units keeps drawing.lays.is_plan.plans.units) pieces
      (subst (λ (ss : List StackAt). All (StackStands tech drawn.grid) ss) (sym drawing.written_stacks) stacks)
      (subst (λ (ss : List StackAt). AreMacroStacks tech drawing.plan drawing.placed drawn.grid.pieces ss) (sym drawing.written_stacks) drawing.stacks)
      power
      (of_first (HasLayer tech) drawn.written.pieces drawing.pieces.pins drawn.grid.pieces drawing.pieces.merged.same (λ k d within. (pieces k d within).layer))
      drawing.pieces.are_straps.in_order
    where
      power : length drawn.written.power ≡ length drawn.written.nets
      power = ap length drawing.written_is.power ∙ ap length drawing.lays.is_plan.plans.power
          ∙ length-map drawing.plan.nets (λ (net : List ℕ). list_any (λ (domain : Domain). bytes_eq domain.power net) script.domains)
          ∙ sym (ap length drawing.written_is.nets)
