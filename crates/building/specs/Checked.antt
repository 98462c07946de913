-- What whoever checks the netlist and the certificate of a build finds.
use Rattle.certificate_file.specs.Record.{lists_of}
use Rattle.grid_net.specs.Certificate.{IsCertificate}
use Rattle.judging.specs.Texts.{StandFor}
use Rattle.written_netlists.specs.Alone.{unmerged}
use Rattle.written_netlists.specs.Fits.{read_back}
use Rattle.building.specs.declared.outputs.Outputs.{Outputs}
use Rattle.building.specs.Building.{Design}

-- Whoever checks the certificate finds that it holds: the text of the netlist reads as the network of the grid with the
-- names of its nodes and no short, so each node is a group by itself; for these names the text of the certificate reads as
-- its two lists; and these pass the test of a certificate on the network.
pub record PassesCheck (d : Design) (outputs : Outputs) : Type 0 where
  pub texts : StandFor outputs.netlist outputs.certificate
      (read_back d.extracted.net d.extracted.names) (unmerged d.extracted.net d.extracted.names)
      (lists_of d.certificate.high d.certificate.low)
  pub holds : IsCertificate d.extracted.net d.certificate.high d.certificate.low
