-- A build and a sign-off of what it wrote.
use Rattle.std.specs.Prelude.{◌≡◌}
use Rattle.building.specs.declared.outputs.Outputs.{Outputs}
use Rattle.building.specs.Inputs.{FiveTexts}
use Rattle.signing_off.specs.Inputs.{WiredTexts}

-- The texts of the sign-off are those of the build, and its wiring is the DEF that the build wrote.
pub record AreOfBuild (t : FiveTexts) (outputs : Outputs) (w : WiredTexts) : Type 0 where
  pub lef : w.lef.text ≡ t.lef.text
  pub cells : w.cells.text ≡ t.cells.text
  pub def : w.def.text ≡ t.def.text
  pub wires : w.wires.text ≡ outputs.def
  pub bias : w.bias.text ≡ t.bias.text
