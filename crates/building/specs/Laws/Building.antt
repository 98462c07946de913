-- What is built of records is built of the texts that have them.
use Rattle.std.proofs.Common.{ℤ, List, Option, refl, sym, subst}
use Rattle.building.specs.declared.outputs.Outputs.{Outputs}
use Rattle.building.specs.declared.records.Records.{Records}
use Rattle.building.specs.Building.{Design, IsGridOf, GridStands, IsDesignOf, AreOutputsOf, base_of}
use Rattle.building.specs.Checked.{PassesCheck}
use Rattle.building.specs.Inputs.{FiveTexts}
use Rattle.building.specs.Reading.{AreRecords}
use Rattle.building.specs.Stages.{IsBuiltOf, outputs_of}
use Rattle.grid_pieces.specs.declared.grid.Grid.{Grid}
use Rattle.grid_signing.specs.declared.signed.SignedGrid.{SignedGrid}
use Rattle.grid_signing.specs.Checked.{Signs}
use Rattle.grid_signing.specs.Signing.{Signing}
use Rattle.grid_signing.specs.Solutions.{SolutionsKeep}

-- What is said of the outputs.
abbrev pub IsBuilt : Option (List ℤ × List ℤ) → FiveTexts → Outputs → Type 0
IsBuilt told t outputs = (design : Design) × IsDesignOf told t design × AreOutputsOf design outputs
    × SolutionsKeep design.extracted.net design.certificate design.limits × PassesCheck design outputs

-- The parts of a design.
abbrev design_of : Records → Grid → Signing → Design
design_of r grid s = record { records = r; grid = grid; extracted = s.extracted; limits = s.limits; certificate = s.certificate }

of_signed : (told : Option (List ℤ × List ℤ)) (t : FiveTexts) (r : Records) (grid : Grid) (signed : SignedGrid) → AreRecords t r → IsGridOf r grid → GridStands r grid → Signs told (base_of r) grid signed → IsBuilt told t (outputs_of r grid signed)
of_signed told t r grid signed reads draws stands all = (
  design_of r grid all.signing,
  record {
    records = reads;
    grid = draws;
    stands = stands;
    network = all.is_signing.network;
    limits = all.is_signing.limits;
    supplied = all.is_signing.supplied;
    certified = all.is_signing.certified;
  },
  record { def = refl; netlist = all.are_texts.netlist; certificate = all.are_texts.certificate; report = all.are_texts.report; numbers = all.are_texts.numbers },
  all.keep,
  record { texts = all.checked.texts; holds = all.checked.holds },
)

pub built : (told : Option (List ℤ × List ℤ)) (t : FiveTexts) (r : Records) (outputs : Outputs) → AreRecords t r → IsBuiltOf told r outputs → IsBuilt told t outputs
built told t r outputs reads (grid, draws, stands, (signed, all, same)) = subst (IsBuilt told t) (sym same) (of_signed told t r grid signed reads draws stands all)
