-- Options are told apart by their numbers.
use Rattle.std.proofs.Common.{◌≡◌, ℕ, true, List, [], ◌∷◌, Some, slice_get, refl, sym, ◌∙◌, ap, arith}
use Rattle.std.specs.Prelude.{◌==◌}
use Rattle.script_options.specs.declared.option.ScriptOption.{ScriptOption}
use Rattle.script_options.specs.declared.option.ScriptOption.TheVariants.{Name, Power, Ground, Region, VoltageDomains, StartsWith, Pins, Macro, Orient, Halo, Cells, Instances, Default, GridOverBoundary, GridOverPgPins, Grid, Layer, Width, Pitch, Spacing, Offset, Followpins, ExtendToCoreRing, ExtendToBoundary, NumberOfStraps, Nets, Layers, Widths, Spacings, CoreOffsets, AddConnect, MaxRows, MaxColumns, LeftOut, Unknown}
use Rattle.script_options.specs.Option.{option_number, same_option}

abbrev all : List ScriptOption
all = Name ∷ Power ∷ Ground ∷ Region ∷ VoltageDomains ∷ StartsWith ∷ Pins ∷ Macro ∷ Orient ∷ Halo ∷ Cells ∷ Instances ∷ Default ∷ GridOverBoundary
    ∷ GridOverPgPins ∷ Grid ∷ Layer ∷ Width ∷ Pitch ∷ Spacing ∷ Offset ∷ Followpins ∷ ExtendToCoreRing ∷ ExtendToBoundary ∷ NumberOfStraps
    ∷ Nets ∷ Layers ∷ Widths ∷ Spacings ∷ CoreOffsets ∷ AddConnect ∷ MaxRows ∷ MaxColumns ∷ LeftOut ∷ Unknown ∷ []

listed : (option : ScriptOption) → slice_get all (option_number option) ≡ Some option
listed Name = refl
listed Power = refl
listed Ground = refl
listed Region = refl
listed VoltageDomains = refl
listed StartsWith = refl
listed Pins = refl
listed Macro = refl
listed Orient = refl
listed Halo = refl
listed Cells = refl
listed Instances = refl
listed Default = refl
listed GridOverBoundary = refl
listed GridOverPgPins = refl
listed Grid = refl
listed Layer = refl
listed Width = refl
listed Pitch = refl
listed Spacing = refl
listed Offset = refl
listed Followpins = refl
listed ExtendToCoreRing = refl
listed ExtendToBoundary = refl
listed NumberOfStraps = refl
listed Nets = refl
listed Layers = refl
listed Widths = refl
listed Spacings = refl
listed CoreOffsets = refl
listed AddConnect = refl
listed MaxRows = refl
listed MaxColumns = refl
listed LeftOut = refl
listed Unknown = refl

pub same_is : (a b : ScriptOption) → same_option a b ≡ true → a ≡ b
same_is a b h =
    let e : option_number a ≡ option_number b = grind (arith, h) in
    let t : slice_get all (option_number a) ≡ Some b = ap (λ z. slice_get all z) e ∙ listed b in
    let s : Some a ≡ Some b = sym (listed a) ∙ t in
    cc
