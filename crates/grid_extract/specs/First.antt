-- Which of a refusal of pads and one of taps goes first.
use Rattle.std.specs.Prelude.{ℕ, min, List, Result, Ok, Err}
use Rattle.std.proofs.Common.{Vec, Global}
use Rattle.grid_network.specs.declared.error.ExtractError.{ExtractError}
use Rattle.grid_network.specs.declared.error.ExtractError.TheVariants.{UnknownName, NoSupply, PadOff, LoadOff, Net, Want}
use Rattle.grid_network.specs.declared.pad.Tap.{Tap}

-- An unknown name on the line goes before all refusals but those of earlier lines.
abbrev pub earlier : ExtractError → ℕ → ExtractError
earlier Want line = Want
earlier (UnknownName first) line = UnknownName (min first line)
earlier _ line = UnknownName line

abbrev pub first_of : ExtractError → ExtractError → ExtractError
first_of pads Want = Want
first_of pads (UnknownName line) = earlier pads line
first_of pads _ = pads

abbrev pub first_with : ExtractError → Result (Vec Tap Global) ExtractError → ExtractError
first_with pads (Ok taps) = pads
first_with pads (Err taps) = first_of pads taps
