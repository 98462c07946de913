-- What is built of five texts: the grid that the script draws over the design, its network, a tight certificate of the
-- network, and the texts of all four.
use Rattle.std.specs.Prelude.{◌≡◌, ◌≤◌, ℤ, List, Option, All, length}
use Rattle.bound_check.specs.Certified.{Certificate}
use Rattle.certificate_file.specs.Written.{certificate_text}
use Rattle.def_writer.specs.Written.{written_def}
use Rattle.grid_network.specs.declared.extracted.Extracted.{Extracted}
use Rattle.grid_pieces.specs.declared.grid.Grid.{Grid}
use Rattle.grid_shapes.specs.Drawing.{IsDrawingOf, PieceStands, StackStands}
use Rattle.grid_signing.specs.Basis.{Base}
use Rattle.grid_signing.specs.Signing.{IsNetworkOver, AreLimitsOver, numbers_of}
use Rattle.signoff_report.specs.declared.records.Limits.{Limits}
use Rattle.signoff_report.specs.Counted.{summary_of}
use Rattle.signoff_report.specs.Report.{written_report}
use Rattle.solving.specs.Signed.{EachIsSupplied, IsMadeOf}
use Rattle.spice_grid.specs.Written.{written_netlist}
use Rattle.building.specs.declared.outputs.Outputs.{Outputs}
use Rattle.building.specs.declared.records.Records.{Records}
use Rattle.building.specs.Inputs.{FiveTexts}
use Rattle.building.specs.Reading.{AreRecords}

-- The grid is the one that the script draws over the design.
abbrev pub IsGridOf : Records → Grid → Type 0
IsGridOf r grid = IsDrawingOf r.tech r.cells r.design r.script grid

-- The pieces and stacks of a drawn grid stand, and there are not too many.
pub record GridStands (r : Records) (grid : Grid) : Type 0 where
  pub pieces : All (PieceStands r.tech grid) grid.pieces
  pub stacks : All (StackStands r.tech grid) grid.stacks
  pub few_pieces : length grid.pieces ≤ 4000000
  pub few_stacks : length grid.stacks ≤ 1000000

-- What the grid is signed off over.
abbrev pub base_of : Records → Base
base_of r = record { tech = r.tech; cells = r.cells; design = r.design; bias = r.bias }

-- The network is that of the grid: one resistor for each piece of wire between neighbouring junctions and for each array
-- of cuts, and no other, with the pads of the bias file and the currents of the components.
abbrev pub IsNetworkOfGrid : Records → Grid → Extracted → Type 0
IsNetworkOfGrid r grid e = IsNetworkOver (base_of r) grid e

-- The limits of the branches and nets of the grid.
abbrev pub AreLimitsOfGrid : Records → Grid → Extracted → Limits → Type 0
AreLimitsOfGrid r grid e limits = AreLimitsOver (base_of r) grid e limits

-- What stands behind the outputs of a build: what the texts say, the grid, its network, the limits and the certificate.
pub record Design : Type 0 where
  pub records : Records
  pub grid : Grid
  pub extracted : Extracted
  pub limits : Limits
  pub certificate : Certificate

-- The five texts have their records, the grid is the drawing of the script over the design and stands, the network is that
-- of the grid, the limits are those of its branches and nets, each node is supplied, and the certificate is a tight one of
-- the network.
pub record IsDesignOf (told : Option (List ℤ × List ℤ)) (t : FiveTexts) (d : Design) : Type 0 where
  pub records : AreRecords t d.records
  pub grid : IsGridOf d.records d.grid
  pub stands : GridStands d.records d.grid
  pub network : IsNetworkOfGrid d.records d.grid d.extracted
  pub limits : AreLimitsOfGrid d.records d.grid d.extracted d.limits
  pub supplied : EachIsSupplied d.extracted.net
  pub certified : IsMadeOf told d.extracted.net d.certificate

-- The outputs are the texts of the drawn grid, of its network, of the certificate's two lists and of the report, and the
-- numbers are those of the grid and of the report's verdicts.
pub record AreOutputsOf (d : Design) (outputs : Outputs) : Type 0 where
  pub def : outputs.def ≡ written_def d.records.design d.records.tech d.grid
  pub netlist : outputs.netlist ≡ written_netlist d.extracted.net d.extracted.names d.extracted.notes
  pub certificate : outputs.certificate
      ≡ certificate_text d.extracted.names d.certificate.high d.certificate.low
  pub report : outputs.report ≡ written_report d.certificate d.extracted.names d.limits
  pub numbers : outputs.numbers ≡ numbers_of d.grid (summary_of d.certificate d.limits)
