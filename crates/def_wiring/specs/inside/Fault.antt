-- The kind of a word itself, as what it shows, and the sort of a word that shows nothing.
use Rattle.std.specs.Prelude.{Option, Some, None, Result, Ok, Err}
use Rattle.def_wiring.specs.declared.error.Shown.{Shown}
use Rattle.def_wiring.specs.declared.error.Shown.TheVariants.{Here}
use Rattle.def_wiring.specs.declared.error.WiresKind.{WiresKind}
use Rattle.def_wiring.specs.declared.sort.Sort.{Sort}

abbrev pub here : Option WiresKind → Option Shown
here None = None
here (Some kind) = Some (Here kind)

abbrev pub sort_or : Option Shown → Sort → Result Sort Shown
sort_or None sort = Ok sort
sort_or (Some shown) sort = Err shown
