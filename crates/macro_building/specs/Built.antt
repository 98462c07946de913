-- What is built of five texts, whether over blocks or not: the grid, its network, a tight certificate of the network, and the texts of
-- all four.
use Rattle.std.specs.Prelude.{◌≡◌, ◌⊎◌, ℤ, true, false, List, Option}
use Rattle.building.specs.declared.outputs.Outputs.{Outputs}
use Rattle.building.specs.Building.{Design, IsDesignOf, base_of}
use Rattle.building.specs.Inputs.{FiveTexts}
use Rattle.building.specs.Reading.{AreRecords}
use Rattle.certificate_file.specs.Written.{certificate_text}
use Rattle.def_writer.specs.Written.{written_def}
use Rattle.grid_pieces.specs.declared.grid.Grid.{Grid}
use Rattle.grid_signing.specs.Signing.{AreLimitsOver, numbers_of}
use Rattle.macro_blocks.specs.declared.record.Blocks.{Blocks}
use Rattle.macro_extract.specs.Extraction.{IsMacroExtracted}
use Rattle.macro_grid.specs.declared.record.MacroGrid.{MacroGrid}
use Rattle.macro_grid.specs.Drawing.{IsMacroDrawing}
use Rattle.signoff_report.specs.Counted.{summary_of}
use Rattle.signoff_report.specs.Report.{written_report}
use Rattle.solving.specs.Signed.{EachIsSupplied, IsMadeOf}
use Rattle.spice_grid.specs.Written.{written_netlist}
use Rattle.macro_building.specs.Blocks.{is_over_blocks, AreBlocksOf}

-- What stands behind the outputs of a build: what the texts say, the whole grid, its network, the limits and the certificate; and the
-- grid as it is written, which is without the pins of blocks.
pub record BuiltDesign : Type 0 where
  pub design : Design
  pub written : Grid

-- No grid over macros meets a block: the design is the one that is built without blocks, and the whole grid is written.
pub record IsPlain (told : Option (List ℤ × List ℤ)) (t : FiveTexts) (d : BuiltDesign) : Type 0 where
  pub none : is_over_blocks d.design.records ≡ false
  pub is_design : IsDesignOf told t d.design
  pub written : d.written ≡ d.design.grid

-- The grid is the drawing of the script over the design and its blocks, the network is that of the grid with the pins of blocks as
-- straps, the limits are those of its branches and nets, each node is supplied, and the certificate is a tight one of the network.
pub record IsOverBlocks (told : Option (List ℤ × List ℤ)) (t : FiveTexts) (d : BuiltDesign) : Type 0 where
  pub records : AreRecords t d.design.records
  pub some : is_over_blocks d.design.records ≡ true
  pub blocks : Blocks
  pub are_blocks : AreBlocksOf t.lef.text t.cells.text blocks
  pub drawn : MacroGrid
  pub draws : IsMacroDrawing d.design.records.tech d.design.records.cells blocks d.design.records.design d.design.records.script
      drawn
  pub grid : d.design.grid ≡ drawn.grid
  pub written : d.written ≡ drawn.written
  pub network : IsMacroExtracted drawn d.design.records.tech d.design.records.cells d.design.records.design
      d.design.records.bias d.design.extracted
  pub limits : AreLimitsOver (base_of d.design.records) drawn.grid d.design.extracted d.design.limits
  pub supplied : EachIsSupplied d.design.extracted.net
  pub certified : IsMadeOf told d.design.extracted.net d.design.certificate

-- Five texts have this design.
abbrev pub IsBuiltDesign : Option (List ℤ × List ℤ) → FiveTexts → BuiltDesign → Type 0
IsBuiltDesign told t d = IsPlain told t d ⊎ IsOverBlocks told t d

-- The outputs are the texts of the grid without the pins of blocks, of the network, of the certificate's two lists and of the report,
-- and the numbers are those of the whole grid and of the report's verdicts.
pub record AreBuiltOutputs (d : BuiltDesign) (outputs : Outputs) : Type 0 where
  pub def : outputs.def ≡ written_def d.design.records.design d.design.records.tech d.written
  pub netlist : outputs.netlist ≡ written_netlist d.design.extracted.net d.design.extracted.names d.design.extracted.notes
  pub certificate : outputs.certificate
      ≡ certificate_text d.design.extracted.names d.design.certificate.high d.design.certificate.low
  pub report : outputs.report ≡ written_report d.design.certificate d.design.extracted.names d.design.limits
  pub numbers : outputs.numbers ≡ numbers_of d.design.grid (summary_of d.design.certificate d.design.limits)
