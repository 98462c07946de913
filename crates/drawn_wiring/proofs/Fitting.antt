-- A drawn grid can be read back.
use Rattle.std.proofs.Common.{◌≤◌, ◌^◌, All, length, sym, subst, arith}
use Rattle.text_lex.specs.Name.{IsName}
use Rattle.lef_tech.specs.declared.layer.RoutingLayer.{RoutingLayer}
use Rattle.lef_tech.specs.declared.layer.CutLayer.{CutLayer}
use Rattle.lef_tech.specs.declared.rule.ViaRule.{ViaRule}
use Rattle.lef_tech.specs.declared.tech.Tech.{Tech}
use Rattle.lef_cells.specs.declared.record.Cells.{Cells}
use Rattle.def_design.specs.declared.record.Design.{Design}
use Rattle.pdn_script.specs.declared.record.Script.{Script}
use Rattle.grid_pieces.specs.declared.grid.Grid.{Grid}
use Rattle.grid_pieces.specs.declared.piece.StackAt.{StackAt}
use Rattle.def_writer.specs.Limits.{GridFits}
use Rattle.wiring_file.specs.Number.{limit}
use Rattle.written_wiring.specs.Fits.{CanBeRead}
use Rattle.drawn_wiring.specs.Drawn.{AreRead, IsDrawn}
use Rattle.drawn_wiring.proofs.Counting.{grid_vias_few}
use Rattle.drawn_wiring.proofs.Naming.{nets_are_names}
use Rattle.drawn_wiring.proofs.Standing.{stacks_read}

-- The names of a technology.
pub record Names (tech : Tech) : Type 0 where
  pub routing : All (λ (l : RoutingLayer). IsName l.name) tech.routing
  pub cuts : All (λ (l : CutLayer). IsName l.name) tech.cuts
  pub rules : All (λ (r : ViaRule). IsName r.name) tech.rules

pub can_be_read : (tech : Tech) (cells : Cells) (design : Design) (script : Script) (grid : Grid) → AreRead tech cells design script → IsDrawn tech cells design script grid
    → length grid.nets ≤ limit → IsName design.name → Names tech → GridFits tech grid → CanBeRead design tech grid
can_be_read tech cells design script grid read drawn few name names fits = record {
  words = record {
    design_name = name;
    routing_names = names.routing;
    cut_names = names.cuts;
    rule_names = names.rules;
    net_names = subst (All IsName) (sym drawn.is.nets) (nets_are_names script read.script_keeps drawn.is.plan.nets drawn.is.is_plan.plans.nets);
  };
  design_keeps = read.design_keeps;
  tech_keeps = read.tech_keeps;
  grid_fits = fits;
  pieces = λ k d within. (drawn.pieces k d within).keeps;
  stacks = stacks_read tech cells design script grid read.tech_keeps read.design_keeps drawn.is drawn.pieces;
  piece_nets = λ k d within. (drawn.pieces k d within).net;
  stack_nets = λ k d within. (drawn.stacks k d within).net;
  few_nets = few;
  few_vias = let vias = grid_vias_few (2 ^ 32) 1000000 grid.stacks arrays drawn.few_stacks in omega arith;
}
  where
    arrays : All (λ (at : StackAt). length at.stack.arrays ≤ 2 ^ 32) grid.stacks
    arrays k d within =
        let s = drawn.stacks k d within in
        let many = s.arrays in
        let layers = s.layers in
        let few = read.tech_keeps.few_layers in
        omega arith
