-- The answer of `macro_taps`, from that of its last step.
use Rattle.std.proofs.Common.{Result, Ok, Err, Vec, Global}
use Rattle.std.specs.Prelude.{MatchResult}
use Rattle.lef_cells.specs.declared.record.Cells.{Cells}
use Rattle.def_design.specs.declared.record.Design.{Design}
use Rattle.bias_file.specs.declared.record.Bias.{Bias}
use Rattle.grid_network.specs.declared.error.ExtractError.{ExtractError}
use Rattle.grid_network.specs.declared.error.ExtractError.TheVariants.{UnknownName, NoSupply, PadOff, LoadOff, Net, Want}
use Rattle.grid_network.specs.declared.pad.Tap.{Tap}
use Rattle.grid_taps.specs.Naming.{NamesNoCell, NoneIs}
use Rattle.macro_grid.specs.declared.record.MacroGrid.{MacroGrid}
use Rattle.pin_taps.specs.Refusals.{MacroTapsStand, AreMacroTapsRefused}
use Rattle.pin_taps.specs.inside.Tapping.{AreAllTapped, IsTapRefused}

refused : (drawn : MacroGrid) (cells : Cells) (design : Design) (bias : Bias) (error : ExtractError) → NoneIs (NamesNoCell cells design bias)
    → IsTapRefused drawn cells bias design.components error → AreMacroTapsRefused drawn cells design bias error
refused drawn cells design bias (UnknownName line) known h = absurd h
refused drawn cells design bias (NoSupply net) known h = absurd h
refused drawn cells design bias (PadOff line) known h = absurd h
refused drawn cells design bias (LoadOff component) known h = (known, h)
refused drawn cells design bias (Net error) known h = absurd h
refused drawn cells design bias Want known h = tt

pub taps_answer : (drawn : MacroGrid) (cells : Cells) (design : Design) (bias : Bias) (r : Result (Vec Tap Global) ExtractError) → NoneIs (NamesNoCell cells design bias)
    → MatchResult r (λ taps. AreAllTapped drawn cells bias design.components taps.items) (IsTapRefused drawn cells bias design.components)
    → MatchResult r (λ taps. MacroTapsStand drawn cells design bias taps.items) (AreMacroTapsRefused drawn cells design bias)
taps_answer drawn cells design bias (Ok taps) known h = record { known = known; on_metal = h.none_off; are = h.are }
taps_answer drawn cells design bias (Err error) known h = refused drawn cells design bias error known h
