-- What is signed off of five texts: the grid of the wiring, its network, a tight certificate of the network, and the texts
-- of network, certificate and report.
use Rattle.std.specs.Prelude.{ℤ, List, Option}
use Rattle.grid_pieces.specs.declared.grid.Grid.{Grid}
use Rattle.grid_signing.specs.declared.signed.SignedGrid.{SignedGrid}
use Rattle.grid_signing.specs.Basis.{Base}
use Rattle.grid_signing.specs.Checked.{PassesCheck}
use Rattle.grid_signing.specs.Signing.{Signing, IsSigning, AreSignedTexts}
use Rattle.grid_signing.specs.Solutions.{SolutionsKeep}
use Rattle.wired_grid.specs.Wired.{IsWiredGrid}
use Rattle.signing_off.specs.declared.records.WiredRecords.{WiredRecords}
use Rattle.signing_off.specs.Inputs.{WiredTexts}
use Rattle.signing_off.specs.Reading.{AreWiredRecords}

-- The grid is the one of the wiring.
abbrev pub IsGridOf : WiredRecords → Grid → Type 0
IsGridOf r grid = IsWiredGrid r.tech r.design r.wires grid

-- What the grid is signed off over.
abbrev pub base_of : WiredRecords → Base
base_of r = record { tech = r.tech; cells = r.cells; design = r.design; bias = r.bias }

-- What stands behind the outputs of a sign-off: what the texts say, the grid, and its network with limits and certificate.
pub record WiredDesign : Type 0 where
  pub records : WiredRecords
  pub grid : Grid
  pub signing : Signing

-- The five texts have their records, the grid is that of the wiring, and its network, limits and certificate are those of
-- the grid.
pub record IsWiredDesign (told : Option (List ℤ × List ℤ)) (t : WiredTexts) (d : WiredDesign) : Type 0 where
  pub records : AreWiredRecords t d.records
  pub grid : IsGridOf d.records d.grid
  pub signing : IsSigning told (base_of d.records) d.grid d.signing

-- The texts are signed off with these outputs: they are the texts of the network of the grid of the wiring, of a tight
-- certificate and of the report; every solution of the network keeps what the report says; and whoever checks the
-- certificate finds that it holds.
pub record SignsWiring (told : Option (List ℤ × List ℤ)) (t : WiredTexts) (signed : SignedGrid) : Type 0 where
  pub design : WiredDesign
  pub is_design : IsWiredDesign told t design
  pub are_texts : AreSignedTexts design.grid design.signing signed
  pub keep : SolutionsKeep design.signing.extracted.net design.signing.certificate design.signing.limits
  pub checked : PassesCheck design.signing signed
