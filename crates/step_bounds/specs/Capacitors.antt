-- The capacitors of a network that count, and what each of them is over a time step.
-- By the backward Euler rule a capacitor acts over a step of time as a resistance, time over capacitance, between its node and
-- the voltage that the node had before the step: the companion model of a capacitor in SPICE.
-- Units: times in 10^-18 seconds, capacitances in 10^-24 farads, resistances in nano-ohms.
use Rattle.std.specs.Prelude.{ℕ, ◌*◌, ◌^◌, ◌==◌, min, ℤ, pos, ◌+ℤ◌, ◌*ℤ◌, Bool, true, false, not, ◌&&◌, if◌then◌else◌, nat_lt, int_le, List, Option, Some, None, is_some, is_none, filter_map, option_map}
use Rattle.std.specs.Int.{int_max}
use Rattle.rounding.specs.Rounding.{floor_div}
use Rattle.grid_net.specs.Network.{Network, pad_at}
use Rattle.grid_net.specs.Search.{or_else, first_of}
use Rattle.capacitors.specs.declared.Cap.{Cap}
use Rattle.capacitors.specs.declared.End.{End}
use Rattle.capacitors.specs.declared.End.TheVariants.{Node, Ground, Nowhere}
use Rattle.step_bounds.specs.declared.companion.Companion.{Companion}

-- A number is a node of the network, and no pad stands there.
abbrev pub is_free : Network → ℕ → Bool
is_free net i = nat_lt i net.nodes && is_none (pad_at net i)

-- The voltage of an end is given: it is ground, or a node with a pad.
abbrev pub is_held : Network → End → Bool
is_held net (Node i) = nat_lt i net.nodes && is_some (pad_at net i)
is_held net Ground = true
is_held net Nowhere = false

-- The node at one end, where it has no pad and the voltage of the other end is given.
abbrev pub free_end : Network → End → End → Option ℕ
free_end net (Node i) other = (if is_free net i && is_held net other then Some i else None)
free_end net Ground other = None
free_end net Nowhere other = None

-- The node at which a capacitor counts, if it counts: its capacitance is more than 0, one end is a node without a pad, and the
-- other is ground or a node with a pad.
abbrev pub counts_at : Network → Cap → Option ℕ
counts_at net cap =
    (if int_le (pos 1) cap.farads then or_else (free_end net cap.a cap.b) (free_end net cap.b cap.a) else None)

-- The resistance of a capacitance over a step of time: time over capacitance, rounded to the nearest number of nano-ohms, of two
-- equally near ones to the greater, and at least 1.
abbrev pub companion_ohms : ℕ → ℤ → ℤ
companion_ohms time farads =
    int_max (pos 1) (floor_div (pos (2 * (time * 10 ^ 15)) +ℤ farads) (pos 2 *ℤ farads))

-- What a capacitor is over a step of time, if it counts: its node, and its resistance.
abbrev pub companion_of : Network → ℕ → Cap → Option Companion
companion_of net time cap =
    option_map (λ i. record { node = i; ohms = companion_ohms time cap.farads }) (counts_at net cap)

-- The capacitors that count, in the order of the cards, each as it is over a step of time.
abbrev pub companions : Network → List Cap → ℕ → List Companion
companions net caps time = filter_map (companion_of net time) caps

-- The earlier of two ends, where they are two different nodes without pads.
abbrev pub floats_between : Network → End → End → Option ℕ
floats_between net (Node i) (Node j) = (if (is_free net i && is_free net j) && not (i == j) then Some (min i j) else None)
floats_between net _ _ = None

-- The earlier of the two nodes of a capacitor, if it floats: its capacitance is more than 0, and it joins two different nodes of
-- which none has a pad.
abbrev pub floats_at : Network → Cap → Option ℕ
floats_at net cap = (if int_le (pos 1) cap.farads then floats_between net cap.a cap.b else None)

-- That of the first capacitor that floats.
abbrev pub first_floating : Network → List Cap → Option ℕ
first_floating net caps = first_of (floats_at net) caps
