-- The table of the options: which ones a command has, whether it needs them, what their values are.
--
-- It follows the commands of the manual of OpenROAD's PDN module, in the order of the options there. What an absent option
-- stands for is said at its row. Lengths are micrometres.
use Rattle.std.specs.Prelude.{Bool, List, [], ◌∷◌, Option, Some, None, if◌then◌else◌}
use Rattle.script_options.specs.declared.command.Command.{Command}
use Rattle.script_options.specs.declared.command.Command.TheVariants.{SetVoltageDomain, DefinePdnGrid, AddPdnStripe, AddPdnRing, AddPdnConnect}
use Rattle.script_options.specs.declared.number.Quantity.TheVariants as quantities
use Rattle.script_options.specs.declared.option.ScriptOption.{ScriptOption}
use Rattle.script_options.specs.declared.option.ScriptOption.TheVariants as options
use Rattle.script_options.specs.declared.table.Counts.TheVariants.{Any, Two, OneOrTwo, OneTwoOrFour}
use Rattle.script_options.specs.declared.table.Need.{Need}
use Rattle.script_options.specs.declared.table.Need.TheVariants.{Required, RequiredOfStraps, Optional, OfMacroGrids}
use Rattle.script_options.specs.declared.table.Row.{Row}
use Rattle.script_options.specs.declared.table.ValueForm.{ValueForm}
use Rattle.script_options.specs.declared.table.ValueForm.TheVariants.{Nothing, Name, Start, Number, Names, Numbers}
use Rattle.script_options.specs.Option.{same_option}

abbrev row : ScriptOption → Need → Row
row option need = record { option = option; need = need }

-- The options of a command, the required ones first.
abbrev pub table : Command → List Row
table SetVoltageDomain =
    row options.Power Required
    ∷ row options.Ground Required
    ∷ row options.Name Optional  -- absent: the region, else `Core`
    ∷ row options.Region Optional ∷ []
table DefinePdnGrid =
    row options.Name Required
    ∷ row options.VoltageDomains Optional  -- absent: the last domain
    ∷ row options.StartsWith Optional  -- absent: GROUND
    ∷ row options.Pins Optional
    ∷ row options.Macro Optional
    ∷ row options.Orient OfMacroGrids
    ∷ row options.Halo OfMacroGrids
    ∷ row options.Cells OfMacroGrids
    ∷ row options.Instances OfMacroGrids
    ∷ row options.Default OfMacroGrids
    ∷ row options.GridOverBoundary OfMacroGrids
    ∷ row options.GridOverPgPins OfMacroGrids ∷ []
table AddPdnStripe =
    row options.Layer Required
    ∷ row options.Width Required
    ∷ row options.Pitch RequiredOfStraps
    ∷ row options.Grid Optional  -- absent: the last grid
    ∷ row options.Spacing Optional
    ∷ row options.Offset Optional  -- absent: 0
    ∷ row options.Followpins Optional
    ∷ row options.ExtendToCoreRing Optional
    ∷ row options.ExtendToBoundary Optional
    ∷ row options.NumberOfStraps Optional
    ∷ row options.StartsWith Optional  -- absent: its grid's
    ∷ row options.Nets Optional ∷ []
table AddPdnRing =
    row options.Layers Required
    ∷ row options.Widths Required
    ∷ row options.Spacings Required
    ∷ row options.CoreOffsets Required
    ∷ row options.Grid Optional  -- absent: the last grid
    ∷ row options.StartsWith Optional  -- absent: its grid's
    ∷ row options.Nets Optional
    ∷ row options.AddConnect Optional ∷ []
table AddPdnConnect =
    row options.Layers Required
    ∷ row options.Grid Optional  -- absent: the last grid
    ∷ row options.MaxRows Optional
    ∷ row options.MaxColumns Optional ∷ []
table _ = []

-- How much a command with these options needs the option, if it has it.
abbrev pub need_in : List Row → ScriptOption → Option Need
need_in [] option = None
need_in (row ∷ rows) option = if same_option row.option option then Some row.need else need_in rows option

-- What stands after an option.
abbrev pub form_of : ScriptOption → ValueForm
form_of options.Name = Name
form_of options.Power = Name
form_of options.Ground = Name
form_of options.Region = Name
form_of options.VoltageDomains = Name
form_of options.StartsWith = Start
form_of options.Pins = Names Any
form_of options.Orient = Names Any
form_of options.Halo = Numbers quantities.Length Any
form_of options.Cells = Names Any
form_of options.Instances = Names Any
form_of options.Grid = Name
form_of options.Layer = Name
form_of options.Width = Number quantities.Width
form_of options.Pitch = Number quantities.Width
form_of options.Spacing = Number quantities.Length
form_of options.Offset = Number quantities.Length
form_of options.NumberOfStraps = Number quantities.Count
form_of options.Nets = Names Any
form_of options.Layers = Names Two
form_of options.Widths = Numbers quantities.Width OneOrTwo
form_of options.Spacings = Numbers quantities.Length OneOrTwo
form_of options.CoreOffsets = Numbers quantities.Length OneTwoOrFour
form_of options.MaxRows = Number quantities.Count
form_of options.MaxColumns = Number quantities.Count
form_of _ = Nothing
