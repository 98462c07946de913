-- What whoever checks the netlist and the certificate of a grid finds, and what the report says of it.
use Rattle.certificate_file.specs.Record.{lists_of}
use Rattle.grid_net.specs.Certificate.{IsCertificate}
use Rattle.judging.specs.Texts.{StandFor}
use Rattle.std.specs.Prelude.{ℤ, List, Option}
use Rattle.grid_network.specs.declared.extracted.Extracted.{Extracted}
use Rattle.grid_pieces.specs.declared.grid.Grid.{Grid}
use Rattle.written_netlists.specs.Alone.{unmerged}
use Rattle.written_netlists.specs.Fits.{read_back}
use Rattle.grid_signing.specs.declared.signed.SignedGrid.{SignedGrid}
use Rattle.grid_signing.specs.Basis.{Base}
use Rattle.grid_signing.specs.Signing.{IsNetworkOver, Signing, IsSigningWith, AreSignedTexts}
use Rattle.grid_signing.specs.Solutions.{SolutionsKeep}

-- Whoever checks the certificate finds that it holds: the text of the netlist reads as the network of the grid with the
-- names of its nodes and no short, so each node is a group by itself; for these names the text of the certificate reads as
-- its two lists; and these pass the test of a certificate on the network.
pub record PassesCheck (s : Signing) (signed : SignedGrid) : Type 0 where
  pub texts : StandFor signed.netlist signed.certificate
      (read_back s.extracted.net s.extracted.names) (unmerged s.extracted.net s.extracted.names)
      (lists_of s.certificate.high s.certificate.low)
  pub holds : IsCertificate s.extracted.net s.certificate.high s.certificate.low

-- The grid is signed off with these texts: they are those of a network of this kind, of a tight certificate and of the
-- report; every solution of the network keeps what the report says; and whoever checks the certificate finds that it holds.
pub record SignsWith (Network : Extracted → Type 0) (told : Option (List ℤ × List ℤ)) (b : Base) (grid : Grid)
    (signed : SignedGrid) : Type 0 where
  pub signing : Signing
  pub is_signing : IsSigningWith Network told b grid signing
  pub are_texts : AreSignedTexts grid signing signed
  pub keep : SolutionsKeep signing.extracted.net signing.certificate signing.limits
  pub checked : PassesCheck signing signed

-- The network is that of the grid with the pads of the bias file and the currents of the components.
abbrev pub Signs : Option (List ℤ × List ℤ) → Base → Grid → SignedGrid → Type 0
Signs told b grid signed = SignsWith (IsNetworkOver b grid) told b grid signed
