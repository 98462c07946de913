-- The limits of a network's branches and nets.
use Rattle.std.specs.Prelude.{◌≡◌, ℕ, ◌<◌, ◌^◌, pos, [], Option, Some, None, All, length, slice_index_or}
use Rattle.grid_net.specs.declared.part.Resistor.{Resistor}
use Rattle.grid_net.specs.Network.{Network}
use Rattle.grid_net.specs.Limits.{IsInLimit, greatest_voltage}
use Rattle.bound_check.specs.Certified.{Certificate}
use Rattle.signoff_report.specs.declared.records.Limits.{Limits}
use Rattle.signoff_report.specs.declared.records.NetLimit.{NetLimit}

-- The limits are those of a network: one entry for each resistor, and where there are nets one for each node. A supply
-- is a voltage within the limit of voltages. Nets are numbered by 32 bits.
pub record AreLimitsOf (net : Network) (limits : Limits) : Type 0 where
  pub one_a_branch : length limits.branches ≡ length net.resistors
  pub one_a_node : 0 < length limits.nets → length limits.net_of ≡ net.nodes
  pub supplies : All (λ (n : NetLimit). IsInLimit greatest_voltage n.supply) limits.nets
  pub few_nets : length limits.nets < 2 ^ 32

-- The net of this place.
abbrev pub net_at : Limits → ℕ → NetLimit
net_at limits place = slice_index_or limits.nets place (record { name = []; supply = pos 0; drop = None })

-- The resistor of this place.
abbrev pub resistor_at : Network → ℕ → Resistor
resistor_at net place = slice_index_or net.resistors place (record { a = 0; b = 0; ohms = pos 0 })

-- The resistor of this place with its limit.
abbrev pub branch_at : Certificate → Limits → ℕ → Resistor × Option ℕ
branch_at c limits place = (resistor_at c.net place, slice_index_or limits.branches place None)
