-- What is signed off of records is built of the texts that have them.
use Rattle.std.proofs.Common.{◌≡◌, inl, inr, ℤ, true, false, List, Option, refl, sym, subst}
use Rattle.building.specs.declared.outputs.Outputs.{Outputs}
use Rattle.building.specs.declared.records.Records.{Records}
use Rattle.building.specs.Building.{base_of}
use Rattle.building.specs.Inputs.{FiveTexts}
use Rattle.building.specs.Reading.{AreRecords}
use Rattle.building.specs.Stages.{IsBuiltOf, outputs_of}
use Rattle.grid_network.specs.declared.extracted.Extracted.{Extracted}
use Rattle.grid_pieces.specs.declared.grid.Grid.{Grid}
use Rattle.grid_signing.specs.declared.signed.SignedGrid.{SignedGrid}
use Rattle.grid_signing.specs.Checked.{SignsWith}
use Rattle.grid_signing.specs.Signing.{Signing}
use Rattle.macro_blocks.specs.declared.record.Blocks.{Blocks}
use Rattle.macro_building.specs.Blocks.{is_over_blocks, AreBlocksOf}
use Rattle.macro_building.specs.Built.{BuiltDesign, IsBuiltDesign}
use Rattle.macro_building.specs.inside.Stages.{BuildsOver, IsBuilt}

-- The parts of a design.
abbrev design_of : Records → (grid written : Grid) → Signing → BuiltDesign
design_of r grid written s = record {
  design = record { records = r; grid = grid; extracted = s.extracted; limits = s.limits; certificate = s.certificate };
  written = written;
}

-- A grid that is signed off, whatever its network, stands behind its outputs, whichever grid is written.
signed_off : (Network : Extracted → Type 0) (told : Option (List ℤ × List ℤ)) (t : FiveTexts) (r : Records) (grid written : Grid) (signed : SignedGrid) (all : SignsWith Network told (base_of r) grid signed)
    → IsBuiltDesign told t (design_of r grid written all.signing) → IsBuilt told t (outputs_of r written signed)
signed_off Network told t r grid written signed all is = (
  design_of r grid written all.signing,
  is,
  record { def = refl; netlist = all.are_texts.netlist; certificate = all.are_texts.certificate; report = all.are_texts.report; numbers = all.are_texts.numbers },
  all.keep,
  record { texts = all.checked.texts; holds = all.checked.holds },
)

-- Without blocks.
pub built_plain : (told : Option (List ℤ × List ℤ)) (t : FiveTexts) (r : Records) (outputs : Outputs) → AreRecords t r → is_over_blocks r ≡ false → IsBuiltOf told r outputs → IsBuilt told t outputs
built_plain told t r outputs reads none (grid, draws, stands, (signed, all, same)) =
    subst (IsBuilt told t) (sym same) (signed_off _ told t r grid grid signed all (inl (record {
      none = none;
      is_design = record {
        records = reads;
        grid = draws;
        stands = stands;
        network = all.is_signing.network;
        limits = all.is_signing.limits;
        supplied = all.is_signing.supplied;
        certified = all.is_signing.certified;
      };
      written = refl;
    })))

-- Over blocks.
pub built_over : (told : Option (List ℤ × List ℤ)) (t : FiveTexts) (r : Records) (blocks : Blocks) (outputs : Outputs) → AreRecords t r → is_over_blocks r ≡ true → AreBlocksOf t.lef.text t.cells.text blocks
    → BuildsOver told r blocks outputs → IsBuilt told t outputs
built_over told t r blocks outputs reads some are (drawn, draws, builds) =
    let all = builds.signs in
    subst (IsBuilt told t) (sym builds.are) (signed_off _ told t r drawn.grid drawn.written builds.signed all (inr (record {
      records = reads;
      some = some;
      blocks = blocks;
      are_blocks = are;
      drawn = drawn;
      draws = draws;
      grid = refl;
      written = refl;
      network = all.is_signing.network;
      limits = all.is_signing.limits;
      supplied = all.is_signing.supplied;
      certified = all.is_signing.certified;
    })))
