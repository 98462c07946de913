-- The options of the commands, by the names that the manual of OpenROAD's PDN module gives them.
use Rattle.std.specs.Prelude.{ℕ, Bool, ◌==◌, List, [], ◌∷◌, codes}
use denote.Enum.Declared.{tag_of}
use Rattle.script_options.specs.declared.option.ScriptOption.{ScriptOption}
use Rattle.script_options.specs.contracts.option.ScriptOption.{the_type}
use Rattle.script_options.specs.declared.option.ScriptOption.TheVariants.{Name, Power, Ground, Region, VoltageDomains, StartsWith, Pins, Macro, Orient, Halo, Cells, Instances, Default, GridOverBoundary, GridOverPgPins, Grid, Layer, Width, Pitch, Spacing, Offset, Followpins, ExtendToCoreRing, ExtendToBoundary, NumberOfStraps, Nets, Layers, Widths, Spacings, CoreOffsets, AddConnect, MaxRows, MaxColumns, LeftOut, Unknown}
use Rattle.reading.specs.Keyword.{keyword_or}

-- The options that are read.
abbrev pub options : List (List ℕ × ScriptOption)
options =
    (codes "-name", Name) ∷ (codes "-power", Power) ∷ (codes "-ground", Ground) ∷ (codes "-region", Region)
    ∷ (codes "-voltage_domains", VoltageDomains) ∷ (codes "-starts_with", StartsWith) ∷ (codes "-pins", Pins)
    ∷ (codes "-macro", Macro) ∷ (codes "-orient", Orient) ∷ (codes "-halo", Halo) ∷ (codes "-cells", Cells)
    ∷ (codes "-instances", Instances) ∷ (codes "-default", Default) ∷ (codes "-grid_over_boundary", GridOverBoundary)
    ∷ (codes "-grid_over_pg_pins", GridOverPgPins) ∷ (codes "-grid", Grid) ∷ (codes "-layer", Layer)
    ∷ (codes "-width", Width) ∷ (codes "-pitch", Pitch) ∷ (codes "-spacing", Spacing) ∷ (codes "-offset", Offset)
    ∷ (codes "-followpins", Followpins) ∷ (codes "-extend_to_core_ring", ExtendToCoreRing)
    ∷ (codes "-extend_to_boundary", ExtendToBoundary) ∷ (codes "-number_of_straps", NumberOfStraps)
    ∷ (codes "-nets", Nets) ∷ (codes "-layers", Layers) ∷ (codes "-widths", Widths) ∷ (codes "-spacings", Spacings)
    ∷ (codes "-core_offsets", CoreOffsets) ∷ (codes "-add_connect", AddConnect) ∷ (codes "-max_rows", MaxRows)
    ∷ (codes "-max_columns", MaxColumns) ∷ []

-- The options of the manual that are left out.
abbrev pub left_out : List (List ℕ × ScriptOption)
left_out =
    (codes "-snap_to_grid", LeftOut) ∷ (codes "-fixed_vias", LeftOut) ∷ (codes "-dont_use_vias", LeftOut)
    ∷ (codes "-split_cuts", LeftOut) ∷ (codes "-ongrid", LeftOut) ∷ (codes "-cut_pitch", LeftOut)
    ∷ (codes "-pad_offsets", LeftOut) ∷ (codes "-connect_to_pads", LeftOut) ∷ (codes "-switched_power", LeftOut)
    ∷ (codes "-secondary_power", LeftOut) ∷ []

-- The option of this name that is left out, if it is one.
abbrev pub left_out_or : List ℕ → ScriptOption
left_out_or text = keyword_or left_out Unknown text

-- The option of this name.
abbrev pub option_named : List ℕ → ScriptOption
option_named text = keyword_or options (left_out_or text) text

-- The place of the variant among all.
abbrev pub option_number : ScriptOption → ℕ
option_number = elim [ Name ↦ 0 | option ↦ tag_of the_type option ]

-- The two are the same option.
abbrev pub same_option : ScriptOption → ScriptOption → Bool
same_option a b = option_number a == option_number b
