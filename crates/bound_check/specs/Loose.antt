-- The first node that misses the tightness, with its excess, where the two halves of the sums hold.
use Rattle.std.specs.Prelude.{ℕ, if◌then◌else◌, ℤ, pos, negsuc, ◌-ℤ◌, int_le, List, Option, Some, None}
use Rattle.std.specs.Int.{int_max}
use Rattle.grid_net.specs.Network.{Network, entry_of, pad_at}
use Rattle.grid_net.specs.Certificate.{high_sum, low_sum, most_excess}
use Rattle.grid_net.specs.Search.{first_below}

-- The greater of the two excesses of a node: of its entries over the pad's voltage, or of its sums over what the test
-- asks.
abbrev pub excess : Network → (ℕ → ℤ) → (ℕ → ℤ) → ℕ → Option ℤ → ℤ
excess net high low i (Some v) = int_max (high i -ℤ v) (v -ℤ low i)
excess net high low i None = int_max (high_sum net high i -ℤ pos 1) (negsuc 0 -ℤ low_sum net low i)

-- The greatest excess that a tight list has at a node.
abbrev pub greatest_excess : Network → ℕ → Option ℤ → ℤ
greatest_excess net i (Some v) = pos 0
greatest_excess net i None = pos (most_excess net i)

-- A node and its excess, where it is too great.
abbrev pub loose_test : Network → (ℕ → ℤ) → (ℕ → ℤ) → ℕ → Option (ℕ × ℤ)
loose_test net high low i =
    (if int_le (excess net high low i (pad_at net i)) (greatest_excess net i (pad_at net i)) then None
    else Some (i, excess net high low i (pad_at net i)))

-- The first node whose excess is too great, and that excess.
abbrev pub first_loose : Network → List ℤ → List ℤ → Option (ℕ × ℤ)
first_loose net high low = first_below net.nodes (loose_test net (entry_of high) (entry_of low))
