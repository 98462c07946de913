use Rattle.std.proofs.Common.{◌≡◌, ◌<◌, All, length, get_or, subst}
use Rattle.lef_tech.specs.declared.tech.Tech.{Tech}
use Rattle.lef_cells.specs.declared.record.Cells.{Cells}
use Rattle.def_design.specs.declared.record.Design.{Design}
use Rattle.pdn_script.specs.declared.record.Script.{Script}
use Rattle.grid_pieces.specs.declared.grid.Grid.{Grid}
use Rattle.grid_plan.specs.Names.{names_of}
use Rattle.grid_shapes.specs.Drawing.{IsDrawingOf, PieceStands, StackStands}
use Rattle.alike_grids.specs.Alike.{without_regions}
use Rattle.wired_again.specs.Again.{HasOwnNames, IsRewirable}
use Rattle.drawn_again.proofs.Arrays.{levels_are, arrays_alike}
use Rattle.drawn_again.proofs.Nets.{over_one_domain, has_two_nets}
use Rattle.drawn_again.proofs.Rails.{rails_along}
use Rattle.drawn_again.proofs.Whole.{stand_apart, site_at, stack_at}
use Rattle.drawn_again.proofs.laws.drawn_grids_are_rewirable.Goals as goal

again : (tech : Tech) (cells : Cells) (design : Design) (script : Script) (grid : Grid) → IsDrawingOf tech cells design script grid
    → All (PieceStands tech grid) grid.pieces → All (StackStands tech grid) grid.stacks → HasOwnNames tech → length grid.domains ≡ 1 → length grid.nets ≡ 2
    → IsRewirable tech (without_regions grid)
again tech cells design script grid drawn pieces stacks names one two =
    let plan = drawn.plan in
    let (sites, _, _, are) = drawn.stacks in
    record {
      names = names;
      over = over_one_domain tech cells (names_of tech cells design script) design script plan grid drawn.is_plan.plans drawn.nets drawn.power drawn.domains one two;
      cut = record { drawn = drawn.shapes; blocks = plan.blocks; are = drawn.pieces };
      pieces = λ k d within. record {
        net = subst (λ n. (get_or grid.pieces k d).net < n) two (pieces k d within).net;
        layer = (pieces k d within).layer;
        rail = rails_along plan drawn.shapes plan.blocks grid.pieces drawn.are_shapes drawn.pieces k d within;
      };
      stacks = λ k d within. record {
        net = subst (λ n. (get_or grid.stacks k d).net < n) two (stacks k d within).net;
        levels = levels_are tech plan.units (site_at sites k) (get_or grid.stacks k d) (stack_at tech plan.units sites grid.stacks are k d within);
      };
      arrays = arrays_alike tech plan.units sites grid.stacks are;
      apart = stand_apart tech grid plan drawn.stacks drawn.apart pieces stacks;
    }

pub returns : goal.returns
returns s = record {
  nets = λ tech cells design script grid text reads keeps drawn one.
      has_two_nets tech cells (names_of tech cells design script) design script drawn.plan grid drawn.is_plan.plans drawn.nets drawn.domains one
      (λ domain there. s.read_scripts_have_two_nets.ensures text script domain reads keeps there);
  again = again;
}
