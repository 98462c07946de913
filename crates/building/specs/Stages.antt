-- What the stages of a build hand on.
use Rattle.std.specs.Prelude.{◌≡◌, ◌⊎◌, ℤ, List, Option}
use Rattle.answers.specs.declared.answer.Answer.{Answer}
use Rattle.answers.specs.declared.answer.Answer.TheVariants.{Want}
use Rattle.def_writer.specs.Written.{written_def}
use Rattle.grid_pieces.specs.declared.error.DrawError.{DrawError}
use Rattle.grid_pieces.specs.declared.grid.Grid.{Grid}
use Rattle.grid_shapes.specs.Drawing.{IsDrawRefused}
use Rattle.grid_signing.specs.declared.signed.SignedGrid.{SignedGrid}
use Rattle.grid_signing.specs.Checked.{Signs}
use Rattle.grid_signing.specs.Refusal.{IsUnsigned}
use Rattle.building.specs.declared.outputs.Outputs.{Outputs}
use Rattle.building.specs.declared.records.Records.{Records}
use Rattle.building.specs.Building.{IsGridOf, GridStands, base_of}
use Rattle.building.specs.Refusal.{draw_answer}

-- Why records give no grid: memory ran out, or the script draws none.
abbrev pub IsUndrawn : Records → Answer → Type 0
IsUndrawn r answer = (answer ≡ Want)
    ⊎ ((error : DrawError) × IsDrawRefused r.tech r.cells r.design r.script error × (answer ≡ draw_answer r error))

-- The outputs are the texts of a grid that is signed off, and the text of its design.
abbrev pub outputs_of : Records → Grid → SignedGrid → Outputs
outputs_of r grid signed = record {
  def = written_def r.design r.tech grid;
  netlist = signed.netlist;
  certificate = signed.certificate;
  report = signed.report;
  numbers = signed.numbers;
}

-- A drawn grid is built.
abbrev pub BuildsGrid : Option (List ℤ × List ℤ) → Records → Grid → Outputs → Type 0
BuildsGrid told r grid outputs = (signed : SignedGrid) × Signs told (base_of r) grid signed
    × (outputs ≡ outputs_of r grid signed)

-- Records are built.
abbrev pub IsBuiltOf : Option (List ℤ × List ℤ) → Records → Outputs → Type 0
IsBuiltOf told r outputs = (grid : Grid) × IsGridOf r grid × GridStands r grid × BuildsGrid told r grid outputs

-- They are not.
abbrev pub IsUnbuiltOf : Records → Answer → Type 0
IsUnbuiltOf r answer = IsUndrawn r answer ⊎ ((grid : Grid) × IsGridOf r grid × IsUnsigned (base_of r) grid answer)
