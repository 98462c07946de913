-- A grid is signed off: its network, a tight certificate of the network, and the texts of both and of the report.
use Rattle.std.specs.Prelude.{◌≡◌, ℤ, List, All, Option, length}
use Rattle.answers.specs.declared.built.Built.{Built}
use Rattle.bound_check.specs.Certified.{Certificate}
use Rattle.certificate_file.specs.Written.{certificate_text}
use Rattle.grid_extract.specs.Extraction.{GridKeeps, IsExtracted}
use Rattle.grid_limits.specs.Limits.{AreGridLimits, IsBranchOf}
use Rattle.grid_network.specs.declared.extracted.Extracted.{Extracted}
use Rattle.grid_pieces.specs.declared.grid.Grid.{Grid}
use Rattle.network_texts.specs.Texts.{AreNames}
use Rattle.signoff_report.specs.declared.records.Limits.{Limits}
use Rattle.signoff_report.specs.declared.counts.Summary.{Summary}
use Rattle.signoff_report.specs.Counted.{summary_of}
use Rattle.signoff_report.specs.Report.{written_report}
use Rattle.solving.specs.Signed.{EachIsSupplied, IsMadeOf}
use Rattle.spice_grid.specs.Written.{written_netlist}
use Rattle.grid_signing.specs.declared.signed.SignedGrid.{SignedGrid}
use Rattle.grid_signing.specs.Basis.{Base}

-- The network is that of the grid: one resistor for each piece of wire between neighbouring junctions and for each array
-- of cuts, and no other, with the pads of the bias file and the currents of the components.
abbrev pub IsNetworkOver : Base → Grid → Extracted → Type 0
IsNetworkOver b grid e = IsExtracted grid b.tech b.cells b.design b.bias e

-- The limits of the branches and nets of the grid.
abbrev pub AreLimitsOver : Base → Grid → Extracted → Limits → Type 0
AreLimitsOver b grid e limits = AreGridLimits b.tech grid e.keys e.branches b.bias limits

-- What is asked of the grid: what an extraction asks; its layers and nets have names of LEF and DEF; and each resistor of
-- its network is a wire along one of its pieces, or an array of cuts of one of its stacks, that a limit can be told of.
pub record CanBeSigned (b : Base) (grid : Grid) : Type 0 where
  pub keeps : GridKeeps grid b.tech
  pub names : AreNames b.tech grid
  pub branches : (e : Extracted) → IsNetworkOver b grid e → All (IsBranchOf b.tech grid) e.branches

-- The numbers of the line: those of the grid, and those of the summary.
abbrev pub numbers_of : Grid → Summary → Built
numbers_of grid summary = record {
  pieces = length grid.pieces;
  stacks = length grid.stacks;
  nodes = summary.nodes;
  resistors = summary.resistors;
  pads = summary.pads;
  safe = summary.safe;
  unsafe_ = summary.unsafe_;
  «open» = summary.undecided;
  unlimited = summary.no_limit;
  sweeps = summary.sweeps;
}

-- What stands behind the texts of a grid that is signed off: its network, the limits and the certificate.
pub record Signing : Type 0 where
  pub extracted : Extracted
  pub limits : Limits
  pub certificate : Certificate

-- The network is of this kind, the limits are those of its branches and nets, each node is supplied, and the certificate is
-- a tight one of the network, which stands to what the solver tells as certification has it.
pub record IsSigningWith (Network : Extracted → Type 0) (told : Option (List ℤ × List ℤ)) (b : Base) (grid : Grid)
    (s : Signing) : Type 0 where
  pub network : Network s.extracted
  pub limits : AreLimitsOver b grid s.extracted s.limits
  pub supplied : EachIsSupplied s.extracted.net
  pub certified : IsMadeOf told s.extracted.net s.certificate

-- The network is that of the grid with the pads of the bias file and the currents of the components.
abbrev pub IsSigning : Option (List ℤ × List ℤ) → Base → Grid → Signing → Type 0
IsSigning told b grid s = IsSigningWith (IsNetworkOver b grid) told b grid s

-- The texts are those of the network, of the certificate's two lists and of the report, and the numbers are those of the
-- grid and of the report's verdicts.
pub record AreSignedTexts (grid : Grid) (s : Signing) (signed : SignedGrid) : Type 0 where
  pub netlist : signed.netlist ≡ written_netlist s.extracted.net s.extracted.names s.extracted.notes
  pub certificate : signed.certificate ≡ certificate_text s.extracted.names s.certificate.high s.certificate.low
  pub report : signed.report ≡ written_report s.certificate s.extracted.names s.limits
  pub numbers : signed.numbers ≡ numbers_of grid (summary_of s.certificate s.limits)
