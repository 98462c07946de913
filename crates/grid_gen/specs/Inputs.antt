-- The five texts of a made-up design (this project; docs/GENERATOR.md).
use Rattle.std.specs.Prelude.{◌≡◌, ℕ, ◌≤◌}
use Rattle.grid_gen.specs.declared.inputs.Inputs.{Inputs}
use Rattle.grid_gen.specs.Fixed.{technology_text, cells_text, script_text}
use Rattle.grid_gen.specs.Design.{design_text}
use Rattle.grid_gen.specs.Bias.{bias_text}

-- A side: so many rows, and so many cells in each.
pub record IsSide (side : ℕ) : Type 0 where
  pub low : 24 ≤ side
  pub high : side ≤ 300

-- The technology, the cells and the script are always the same. The design and the bias file go by the side, and the
-- number picks the cells of the components.
pub record AreInputs (number side : ℕ) (inputs : Inputs) : Type 0 where
  pub lef : inputs.lef ≡ technology_text
  pub cells : inputs.cells ≡ cells_text
  pub def : inputs.def ≡ design_text number side
  pub pdn : inputs.pdn ≡ script_text
  pub bias : inputs.bias ≡ bias_text side
