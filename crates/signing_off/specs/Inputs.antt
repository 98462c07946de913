-- The inputs of a sign-off as lists of bytes.
use Rattle.building.specs.Inputs.{FileText, file_text}
use Rattle.signing_off.specs.declared.input.WiredInputs.{WiredInputs}

-- The five texts of a sign-off: technology, cells, placed design, wiring and bias file.
pub record WiredTexts : Type 0 where
  pub lef : FileText
  pub cells : FileText
  pub def : FileText
  pub wires : FileText
  pub bias : FileText

abbrev pub wired_texts : WiredInputs → WiredTexts
wired_texts inputs = record {
  lef = file_text inputs.lef;
  cells = file_text inputs.cells;
  def = file_text inputs.def;
  wires = file_text inputs.wires;
  bias = file_text inputs.bias;
}
