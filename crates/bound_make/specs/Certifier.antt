-- What is made of a solver's proposal.
use Rattle.std.specs.Prelude.{◌≡◌, ⊤, ℕ, ◌<◌, ◌+◌, ◌*◌, ℤ, pos, ◌+ℤ◌, ◌-ℤ◌, ◌≤ℤ◌, List, Option, Some, None, length, map}
use Rattle.std.specs.List.{range_with_len}
use Rattle.std.specs.Int.{int_min, int_max}
use Rattle.grid_net.specs.Network.{Network, entry_of, pad_at}
use Rattle.grid_net.specs.Certificate.{IsHighHalf, IsLowHalf, IsCertificate, IsTight}
use Rattle.bound_make.specs.Scale.{Scale, scale_width}

-- How many cells the region has in which the lists of a network are made: 16 for each node, 8 for each resistor, and 64.
abbrev pub region_cells : ℕ → ℕ → ℕ
region_cells nodes resistors = 16 * nodes + 8 * resistors + 64

-- The entry of a start: the pad's voltage at a pad, and else the proposal, brought to the nearest number that is at
-- most the width beyond the pads.
abbrev pub start_value : ℤ → ℤ → ℕ → ℤ → Option ℤ → ℤ
start_value bottom top width proposed (Some v) = v
start_value bottom top width proposed None = int_max (bottom -ℤ pos width) (int_min proposed (top +ℤ pos width))

-- The start of a list.
abbrev pub start_list : Network → ℤ → ℤ → ℕ → List ℤ → List ℤ
start_list net bottom top width proposal =
    map (λ i. start_value bottom top width (entry_of proposal i) (pad_at net i)) (range_with_len 0 net.nodes)

-- The ranges of the two lists: the high one lies at most a width below the pads and two above, the low one at most
-- two below and one above.
pub record LieInRange (net : Network) (s : Scale) (high low : List ℤ) : Type 0 where
  pub high_least : (i : ℕ) → i < net.nodes → (s.bottom -ℤ pos (scale_width net s)) ≤ℤ entry_of high i
  pub high_most : (i : ℕ) → i < net.nodes → entry_of high i ≤ℤ (s.top +ℤ pos (2 * scale_width net s))
  pub low_least : (i : ℕ) → i < net.nodes → (s.bottom -ℤ pos (2 * scale_width net s)) ≤ℤ entry_of low i
  pub low_most : (i : ℕ) → i < net.nodes → entry_of low i ≤ℤ (s.top +ℤ pos (scale_width net s))

-- The start of a proposal in a network of a scale.
abbrev pub start_in : Network → Scale → List ℤ → List ℤ
start_in net s proposal = start_list net s.bottom s.top (scale_width net s) proposal

-- How the two lists stand to the starts of the two lists that were proposed.
pub record StandTo (net : Network) (s : Scale) (x w high low : List ℤ) : Type 0 where
  -- Starts that are a tight certificate are the answer.
  pub kept : IsCertificate net (start_in net s x) (start_in net s w)
      → IsTight net (start_in net s x) (start_in net s w) → (high ≡ start_in net s x) × (low ≡ start_in net s w)
  -- A high list is nowhere above a start that meets the high half.
  pub not_above : IsHighHalf net (entry_of (start_in net s x)) → (i : ℕ) → i < net.nodes
      → entry_of high i ≤ℤ entry_of (start_in net s x) i
  -- A low list is nowhere below a start that meets the low half.
  pub not_below : IsLowHalf net (entry_of (start_in net s w)) → (i : ℕ) → i < net.nodes
      → entry_of (start_in net s w) i ≤ℤ entry_of low i

-- Two lists that are told, with one entry for each node, are those from which the answer was made.
abbrev pub MadeOfTold : Network → Scale → Option (List ℤ × List ℤ) → List ℤ → List ℤ → Type 0
MadeOfTold net s None high low = ⊤
MadeOfTold net s (Some told) high low =
    length told.0 ≡ net.nodes → length told.1 ≡ net.nodes → StandTo net s told.0 told.1 high low
