-- Loads as they are handed in, each with its node, and the loads of a network that are their sums.
use Rattle.std.specs.Prelude.{◌≡◌, ℕ, ◌<◌, ◌+◌, ◌==◌, if◌then◌else◌, max, unsigned_abs, ℤ, pos, List, [], ◌∷◌}
use Rattle.grid_net.specs.declared.part.Load.{Load}
use Rattle.grid_net.specs.Network.{Network, total, low_load, high_load}

-- The sum of one end over the loads that are handed in for a node.
abbrev pub end_sum : (Load → ℤ) → List Load → ℕ → ℤ
end_sum end given node = total (λ l. if l.node == node then end l else pos 0) given

-- The loads of a network are the sums, end by end, of those that are handed in for each node.
abbrev pub LoadsAddUp : Network → List Load → Type 0
LoadsAddUp net given =
    (i : ℕ) → i < net.nodes
    → (low_load net i ≡ end_sum (λ l. l.low) given i) × (high_load net i ≡ end_sum (λ l. l.high) given i)

-- The sum, over the loads that are handed in, of the greater magnitude of the two ends.
abbrev pub given_load : List Load → ℕ
given_load [] = 0
given_load (l ∷ ls) = max (unsigned_abs l.low) (unsigned_abs l.high) + given_load ls
