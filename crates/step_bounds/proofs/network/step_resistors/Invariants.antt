use Rattle.std.proofs.Common.{◌≡◌, ◌++◌, take, map}
use Rattle.step_bounds.specs.StepNetwork.{memory_resistor}
use Rattle.step_bounds.proofs.network.step_resistors.Given as goal

abbrev pub invariant-loop-companion : goal.invariant-loop-companion
invariant-loop-companion l =
    l.resistors.items ≡ l.net.resistors ++ map (memory_resistor l.companions l.net.nodes) (take l.companion-index l.companions)
