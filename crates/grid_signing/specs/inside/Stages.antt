-- What the stages of signing a grid off hand on.
use Rattle.std.specs.Prelude.{◌≡◌, ℤ, ℕ, List, Option}
use Rattle.bound_check.specs.Certified.{Certificate, IsKept}
use Rattle.certificate_file.specs.Written.{certificate_text}
use Rattle.grid_net.specs.declared.note.Note.{Note}
use Rattle.grid_network.specs.declared.extracted.Extracted.{Extracted}
use Rattle.grid_pieces.specs.declared.grid.Grid.{Grid}
use Rattle.signoff_report.specs.declared.records.Limits.{Limits}
use Rattle.signoff_report.specs.Counted.{summary_of}
use Rattle.signoff_report.specs.Report.{written_report}
use Rattle.solving.specs.Signed.{EachIsSupplied, IsMadeOf}
use Rattle.spice_grid.specs.Written.{written_netlist}
use Rattle.grid_signing.specs.declared.signed.SignedGrid.{SignedGrid}
use Rattle.grid_signing.specs.Checked.{PassesCheck}
use Rattle.grid_signing.specs.Signing.{Signing, AreSignedTexts, numbers_of}
use Rattle.grid_signing.specs.Solutions.{SolutionsKeep}

-- What is made of a certified network with these names.
pub record AreTextsOf (grid : Grid) (c : Certificate) (names : List (List ℕ)) (notes : List Note) (limits : Limits)
    (signed : SignedGrid) : Type 0 where
  pub netlist : signed.netlist ≡ written_netlist c.net names notes
  pub certificate : signed.certificate ≡ certificate_text names c.high c.low
  pub report : signed.report ≡ written_report c names limits
  pub numbers : signed.numbers ≡ numbers_of grid (summary_of c limits)
  pub kept : IsKept c
  pub keep : SolutionsKeep c.net c limits

abbrev pub signing_of : Extracted → Limits → Certificate → Signing
signing_of e limits c = record { extracted = e; limits = limits; certificate = c }

-- The network of a grid is signed off with a certificate.
pub record SignsNetwork (told : Option (List ℤ × List ℤ)) (grid : Grid) (e : Extracted) (limits : Limits)
    (signed : SignedGrid) : Type 0 where
  pub certificate : Certificate
  pub supplied : EachIsSupplied e.net
  pub certified : IsMadeOf told e.net certificate
  pub are_texts : AreSignedTexts grid (signing_of e limits certificate) signed
  pub keep : SolutionsKeep e.net certificate limits
  pub checked : PassesCheck (signing_of e limits certificate) signed
