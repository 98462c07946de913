-- What is left of the refusals of a network's lists, where their ends are nodes and pads agree.
use Rattle.std.specs.Prelude.{◌≡◌, ⊤, ℤ, List, Some}
use Rattle.grid_net.specs.declared.part.Load.{Load}
use Rattle.grid_net.specs.declared.error.NetError.{NetError}
use Rattle.grid_net.specs.declared.error.NetError.TheVariants.{BadEnd, Range, PadConflict, Want as NetWant}
use Rattle.grid_net.specs.Network.{Network}
use Rattle.step_bounds.specs.declared.companion.Companion.{Companion}
use Rattle.step_bounds.specs.declared.passed.Passed.{Passed}
use Rattle.step_bounds.specs.declared.passed.Passed.TheVariants.{Limit, Want}
use Rattle.step_bounds.specs.StepNetwork.{refusal_over}

-- A quantity passes its limit, or memory was wanting.
abbrev pub IsLeft : NetError → Type 0
IsLeft (BadEnd at) = ⊥
IsLeft (Range quantity at number) = ⊤
IsLeft (PadConflict node first second) = ⊥
IsLeft NetWant = ⊤

-- The same refusal, told by what is left.
abbrev pub AsTold : NetError → Passed → Type 0
AsTold (BadEnd at) told = ⊥
AsTold (Range quantity at number) told = told ≡ Limit quantity at number
AsTold (PadConflict node first second) told = ⊥
AsTold NetWant told = told ≡ Want

-- What is told refuses the network over a list.
abbrev pub IsPassed : Network → List Companion → List Load → List ℤ → Passed → Type 0
IsPassed net companions loads before (Limit quantity at number) =
    refusal_over net companions loads before ≡ Some (Range quantity at number)
IsPassed net companions loads before Want = ⊤
