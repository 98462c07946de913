-- The kinds of the refusals of each format as those of the answers. Want of memory is no kind of a text.
use Rattle.std.specs.Prelude.{Option, Some, None}
use Rattle.answers.specs.declared.kind.TextKind.{TextKind}
use Rattle.answers.specs.declared.kind.TextKind.TheVariants as text
use Rattle.lef_tech.specs.declared.error.TechKind.{TechKind}
use Rattle.lef_tech.specs.declared.error.TechKind.TheVariants as tech
use Rattle.lef_cells.specs.declared.error.CellsKind.{CellsKind}
use Rattle.lef_cells.specs.declared.error.CellsKind.TheVariants as cells
use Rattle.def_design.specs.declared.error.DefKind.{DefKind}
use Rattle.def_design.specs.declared.error.DefKind.TheVariants as def
use Rattle.def_design.specs.declared.error.Item.TheVariants as item
use Rattle.pdn_script.specs.declared.error.ScriptKind.{ScriptKind}
use Rattle.pdn_script.specs.declared.error.ScriptKind.TheVariants as script
use Rattle.bias_file.specs.declared.error.BiasKind.{BiasKind}
use Rattle.bias_file.specs.declared.error.BiasKind.TheVariants as bias

abbrev pub tech_kind : TechKind → Option TextKind
tech_kind tech.Syntax = Some text.Syntax
tech_kind tech.BadString = Some text.BadString
tech_kind (tech.Number error) = Some (text.Number error)
tech_kind tech.Twice = Some text.Twice
tech_kind tech.UnknownLayer = Some text.UnknownLayer
tech_kind tech.BadTable = Some text.BadTable
tech_kind tech.Want = None

abbrev pub cells_kind : CellsKind → Option TextKind
cells_kind cells.Syntax = Some text.Syntax
cells_kind cells.BadString = Some text.BadString
cells_kind (cells.Number error) = Some (text.Number error)
cells_kind cells.Twice = Some text.Twice
cells_kind cells.Want = None

abbrev pub def_kind : DefKind → Option TextKind
def_kind def.Syntax = Some text.Syntax
def_kind def.BadString = Some text.BadString
def_kind (def.Number error) = Some (text.Number error)
def_kind def.Twice = Some text.Twice
def_kind def.Polygon = Some text.Polygon
def_kind def.RowForm = Some text.RowForm
def_kind def.AlreadyRouted = Some text.AlreadyRouted
def_kind (def.Missing item.Design) = Some text.MissingDesign
def_kind (def.Missing item.Units) = Some text.MissingUnits
def_kind (def.Missing item.DieArea) = Some text.MissingDieArea
def_kind def.Want = None

abbrev pub script_kind : ScriptKind → Option TextKind
script_kind script.Syntax = Some text.Syntax
script_kind script.BadString = Some text.BadString
script_kind script.Substitution = Some text.Substitution
script_kind script.AfterPdngen = Some text.AfterPdngen
script_kind script.UnknownCommand = Some text.UnknownCommand
script_kind script.OutOfProfile = Some text.OutOfProfile
script_kind script.UnknownOption = Some text.UnknownOption
script_kind script.Twice = Some text.Twice
script_kind (script.Number error) = Some (text.Number error)
script_kind script.UnknownGrid = Some text.UnknownGrid
script_kind script.UnknownDomain = Some text.UnknownDomain
script_kind script.MissingOption = Some text.MissingOption
script_kind script.NetUse = Some text.NetUse
script_kind script.Want = None

abbrev pub bias_kind : BiasKind → Option TextKind
bias_kind bias.Syntax = Some text.Syntax
bias_kind (bias.Number error) = Some (text.Number error)
bias_kind bias.Falling = Some text.Falling
bias_kind bias.Twice = Some text.Twice
bias_kind bias.Want = None
