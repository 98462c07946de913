-- The inputs of a build as lists of bytes.
use Rattle.std.specs.Prelude.{ℕ, List}
use Rattle.building.specs.declared.input.Input.{Input}
use Rattle.building.specs.declared.input.Inputs.{Inputs}

-- A text with the name of its file.
pub record FileText : Type 0 where
  pub file : List ℕ
  pub text : List ℕ

-- The five texts of a build: technology, cells, design, script and bias file.
pub record FiveTexts : Type 0 where
  pub lef : FileText
  pub cells : FileText
  pub def : FileText
  pub pdn : FileText
  pub bias : FileText

abbrev pub file_text : Input → FileText
file_text input = record { file = input.file.now; text = input.text.now }

abbrev pub five_texts : Inputs → FiveTexts
five_texts inputs = record {
  lef = file_text inputs.lef;
  cells = file_text inputs.cells;
  def = file_text inputs.def;
  pdn = file_text inputs.pdn;
  bias = file_text inputs.bias;
}
