-- The flows around a node, resistor by resistor, as code adds them up.
use Rattle.std.specs.Prelude.{ℕ, ℤ, pos, ◌-ℤ◌, List, slice_index_or}
use Rattle.grid_net.specs.declared.part.Resistor.{Resistor}
use Rattle.grid_net.specs.Network.{FlowRule, other_end}

-- The entry beyond a list of resistors.
abbrev pub no_resistor : Resistor
no_resistor = record { a = 0; b = 0; ohms = pos 0 }

-- The flow that leaves a node over the resistor at a place.
abbrev pub flow_over : FlowRule → List Resistor → (ℕ → ℤ) → ℕ → Resistor → ℕ → ℤ
flow_over rule rs x node d place =
    let r = slice_index_or rs place d in rule (x node -ℤ x (other_end r node)) r.ohms
