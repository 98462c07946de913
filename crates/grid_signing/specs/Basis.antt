-- What a grid is signed off over: the technology, the cells, the placed design and the bias file.
use Rattle.bias_file.specs.declared.record.Bias.{Bias}
use Rattle.bias_file.specs.Limits.{BiasKeeps}
use Rattle.def_design.specs.declared.record.Design.{Design}
use Rattle.def_design.specs.Limits.{DesignKeeps}
use Rattle.lef_cells.specs.declared.record.Cells.{Cells}
use Rattle.lef_cells.specs.Limits.{CellsKeep}
use Rattle.lef_tech.specs.declared.tech.Tech.{Tech}
use Rattle.lef_tech.specs.Limits.{TechKeeps}
use Rattle.grid_signing.specs.declared.basis.Basis.{Basis}

pub record Base : Type 0 where
  pub tech : Tech
  pub cells : Cells
  pub design : Design
  pub bias : Bias

abbrev pub base_of : Basis → Base
base_of basis = record {
  tech = basis.tech.now;
  cells = basis.cells.now;
  design = basis.design.now;
  bias = basis.bias.now;
}

-- Each keeps the limits of its format.
pub record BaseKeeps (b : Base) : Type 0 where
  pub tech : TechKeeps b.tech
  pub cells : CellsKeep b.cells
  pub design : DesignKeeps b.design
  pub bias : BiasKeeps b.bias
