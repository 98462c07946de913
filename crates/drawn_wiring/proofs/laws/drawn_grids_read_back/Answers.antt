use Rattle.std.proofs.Common.{◌≤◌, length}
use Rattle.lef_tech.specs.declared.tech.Tech.{Tech}
use Rattle.lef_cells.specs.declared.record.Cells.{Cells}
use Rattle.def_design.specs.declared.record.Design.{Design}
use Rattle.pdn_script.specs.declared.record.Script.{Script}
use Rattle.grid_pieces.specs.declared.grid.Grid.{Grid}
use Rattle.wiring_file.specs.Number.{limit}
use Rattle.written_wiring.specs.Fits.{CanBeRead}
use Rattle.drawn_wiring.specs.Drawn.{AreRead, IsDrawn}
use Rattle.drawn_wiring.proofs.Fitting.{can_be_read}
use Rattle.drawn_wiring.proofs.laws.drawn_grids_read_back.Goals as goal

pub returns : goal.returns
returns c = record {
  fits = fits;
  reads = λ tech cells design script grid read drawn few.
      c.written_grids_read_back.ensures.reads design tech grid (fits tech cells design script grid read drawn few);
  alone = λ tech cells design script grid result read drawn few reads.
      c.written_grids_read_back.ensures.alone design tech grid result (fits tech cells design script grid read drawn few) reads;
}
  where
    fits : (tech : Tech) (cells : Cells) (design : Design) (script : Script) (grid : Grid) → AreRead tech cells design script → IsDrawn tech cells design script grid
        → length grid.nets ≤ limit → CanBeRead design tech grid
    fits tech cells design script grid read drawn few =
        can_be_read tech cells design script grid read drawn few
        (c.read_designs_have_names.ensures read.design_text design read.is_design)
        (record {
          routing = c.read_techs_have_names.ensures.routing read.tech_text tech read.is_tech;
          cuts = c.read_techs_have_names.ensures.cuts read.tech_text tech read.is_tech;
          rules = c.read_techs_have_names.ensures.rules read.tech_text tech read.is_tech;
        })
        (c.drawings_are_grids.ensures.fits tech cells design script grid read.tech_keeps read.cells_keep read.design_keeps read.script_keeps drawn.is drawn.pieces drawn.stacks
        drawn.few_pieces drawn.few_stacks)
