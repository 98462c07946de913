-- What is signed off of records is signed off of the texts that have them.
use Rattle.std.proofs.Common.{ℤ, List, Option}
use Rattle.grid_signing.specs.declared.signed.SignedGrid.{SignedGrid}
use Rattle.signing_off.specs.declared.records.WiredRecords.{WiredRecords}
use Rattle.signing_off.specs.Inputs.{WiredTexts}
use Rattle.signing_off.specs.Reading.{AreWiredRecords}
use Rattle.signing_off.specs.Signing.{SignsWiring}
use Rattle.signing_off.specs.inside.Stages.{IsSignedOf}

pub signs : (told : Option (List ℤ × List ℤ)) (t : WiredTexts) (r : WiredRecords) (signed : SignedGrid) → AreWiredRecords t r → IsSignedOf told r signed → SignsWiring told t signed
signs told t r signed reads (grid, wires, all) = record {
  design = record { records = r; grid = grid; signing = all.signing };
  is_design = record { records = reads; grid = wires; signing = all.is_signing };
  are_texts = all.are_texts;
  keep = all.keep;
  checked = all.checked;
}
