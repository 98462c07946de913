-- When the load taps of a design with blocks are refused, and that nothing else is answered then.
use Rattle.std.specs.Prelude.{List}
use Rattle.lef_cells.specs.declared.record.Cells.{Cells}
use Rattle.def_design.specs.declared.record.Design.{Design}
use Rattle.bias_file.specs.declared.record.Bias.{Bias}
use Rattle.grid_network.specs.declared.error.ExtractError.{ExtractError}
use Rattle.grid_network.specs.declared.pad.Tap.{Tap}
use Rattle.grid_taps.specs.Refusals.{TapsStandWith, AreTapsRefusedWith}
use Rattle.macro_grid.specs.declared.record.MacroGrid.{MacroGrid}
use Rattle.pin_taps.specs.Taps.{AreMacroTaps, IsMacroLoadOff}

-- The answer of `macro_taps`: nothing refuses them.
abbrev pub MacroTapsStand : MacroGrid → Cells → Design → Bias → List Tap → Type 0
MacroTapsStand drawn cells design bias taps = TapsStandWith (IsMacroLoadOff drawn cells bias design.components)
    (AreMacroTaps drawn cells bias design.components) cells design bias taps

-- Its refusals, in their order; of one kind the earliest line or component is named.
abbrev pub AreMacroTapsRefused : MacroGrid → Cells → Design → Bias → ExtractError → Type 0
AreMacroTapsRefused drawn cells design bias error =
    AreTapsRefusedWith (IsMacroLoadOff drawn cells bias design.components) cells design bias error
