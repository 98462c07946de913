-- The wiring that is written of a drawn grid gives a grid that is alike.
use Rattle.std.proofs.Common.{◌≡◌, ℕ, ◌≤◌, List, All, Ok, map, length, subst, ◌∙◌, arith}
use Rattle.name_table.specs.Numbering.{AreDistinct}
use Rattle.lef_tech.specs.declared.layer.CutLayer.{CutLayer}
use Rattle.lef_tech.specs.declared.layer.RoutingLayer.{RoutingLayer}
use Rattle.lef_tech.specs.declared.rule.ViaRule.{ViaRule}
use Rattle.lef_tech.specs.declared.tech.Tech.{Tech}
use Rattle.lef_tech.specs.Format.{ReadsTech}
use Rattle.lef_cells.specs.declared.record.Cells.{Cells}
use Rattle.def_design.specs.declared.record.Design.{Design}
use Rattle.def_wiring.specs.declared.record.Wires.{Wires}
use Rattle.def_wiring.specs.Format.{ReadsWires}
use Rattle.pdn_script.specs.declared.record.Script.{Script}
use Rattle.pdn_script.specs.Format.{ReadsScript}
use Rattle.pdn_script.specs.Limits.{ScriptKeeps}
use Rattle.grid_pieces.specs.declared.grid.Grid.{Grid}
use Rattle.grid_shapes.specs.Drawing.{IsDrawingOf, PieceStands, StackStands}
use Rattle.def_writer.specs.Written.{written_def}
use Rattle.wiring_file.specs.Number.{limit}
use Rattle.written_wiring.specs.Fits.{CanBeRead}
use Rattle.written_wiring.specs.Wires.{wires_of}
use Rattle.drawn_wiring.specs.Drawn.{AreRead, IsDrawn}
use Rattle.alike_grids.specs.Alike.{AreAlike, without_regions}
use Rattle.wired_grid.specs.Wired.{IsWiredGrid}
use Rattle.wired_again.specs.Again.{HasOwnNames, IsRewirable}
use Rattle.rewired_networks.specs.Over.{HasOneDomain}

-- What is told of technologies that are read, of drawn grids and of their written wiring.
pub record AreTold : Type 0 where
  pub routing : (text : List ℕ) (tech : Tech) → ReadsTech text (Ok tech) → AreDistinct (map (λ (layer : RoutingLayer). layer.name) tech.routing)
  pub cuts : (text : List ℕ) (tech : Tech) → ReadsTech text (Ok tech) → AreDistinct (map (λ (layer : CutLayer). layer.name) tech.cuts)
  pub rules : (text : List ℕ) (tech : Tech) → ReadsTech text (Ok tech) → AreDistinct (map (λ (rule : ViaRule). rule.name) tech.rules)
  pub fits : (tech : Tech) (cells : Cells) (design : Design) (script : Script) (grid : Grid) → AreRead tech cells design script → IsDrawn tech cells design script grid
      → length grid.nets ≤ limit → CanBeRead design tech grid
  pub only : (design : Design) (tech : Tech) (grid : Grid) (wires : Wires) → CanBeRead design tech grid → ReadsWires (written_def design tech grid) (Ok wires) → wires ≡ wires_of tech grid
  pub nets : (tech : Tech) (cells : Cells) (design : Design) (script : Script) (grid : Grid) (text : List ℕ) → ReadsScript text (Ok script) → ScriptKeeps script
      → IsDrawingOf tech cells design script grid → length grid.domains ≡ 1 → length grid.nets ≡ 2
  pub again : (tech : Tech) (cells : Cells) (design : Design) (script : Script) (grid : Grid) → IsDrawingOf tech cells design script grid → All (PieceStands tech grid) grid.pieces
      → All (StackStands tech grid) grid.stacks → HasOwnNames tech → length grid.domains ≡ 1 → length grid.nets ≡ 2
      → IsRewirable tech (without_regions grid)
  pub alike : (design : Design) (tech : Tech) (grid again : Grid) → IsRewirable tech grid → CanBeRead design tech grid → grid.units ≡ design.units
      → IsWiredGrid tech design (wires_of tech grid) again → AreAlike grid again

-- What is read of the grid is read of the same with its domains over everything: nothing written rests on them.
reads_all_over : (design : Design) (tech : Tech) (grid : Grid) → CanBeRead design tech grid → CanBeRead design tech (without_regions grid)
reads_all_over design tech grid can = record {
  words = record {
    design_name = can.words.design_name;
    routing_names = can.words.routing_names;
    cut_names = can.words.cut_names;
    rule_names = can.words.rule_names;
    net_names = can.words.net_names;
  };
  design_keeps = can.design_keeps;
  tech_keeps = can.tech_keeps;
  grid_fits = record {
    power = can.grid_fits.power;
    pieces = can.grid_fits.pieces;
    stacks = can.grid_fits.stacks;
    layers = can.grid_fits.layers;
    arrays = can.grid_fits.arrays;
  };
  pieces = can.pieces;
  stacks = can.stacks;
  piece_nets = can.piece_nets;
  stack_nets = can.stack_nets;
  few_nets = can.few_nets;
  few_vias = can.few_vias;
}

pub are_alike : AreTold → (tech : Tech) (cells : Cells) (design : Design) (script : Script) (text : List ℕ) (grid again : Grid) (wires : Wires) → AreRead tech cells design script
    → ReadsScript text (Ok script) → IsDrawn tech cells design script grid → HasOneDomain grid → ReadsWires (written_def design tech grid) (Ok wires)
    → IsWiredGrid tech design wires again → AreAlike (without_regions grid) again
are_alike told tech cells design script text grid again wires read reads drawn over reads_wires is =
    let names : HasOwnNames tech = record {
      routing = told.routing read.tech_text tech read.is_tech;
      cuts = told.cuts read.tech_text tech read.is_tech;
      rules = told.rules read.tech_text tech read.is_tech;
    } in
    let two : length grid.nets ≡ 2 = told.nets tech cells design script grid text reads read.script_keeps drawn.is over in
    let few : length grid.nets ≤ limit = omega arith in
    let can : CanBeRead design tech grid = told.fits tech cells design script grid read drawn few in
    let rewirable : IsRewirable tech (without_regions grid) = told.again tech cells design script grid drawn.is drawn.pieces drawn.stacks names over two in
    let own : wires ≡ wires_of tech grid = told.only design tech grid wires can reads_wires in
    told.alike design tech (without_regions grid) again rewirable (reads_all_over design tech grid can) (drawn.is.units ∙ drawn.is.is_plan.plans.units) (subst (λ (w : Wires). IsWiredGrid tech design w again) own is)
